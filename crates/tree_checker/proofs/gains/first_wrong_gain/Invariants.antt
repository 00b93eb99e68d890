use Rattle.std.proofs.Common.{ℕ, ◌<◌}
use Rattle.tree_checker.specs.Judged.{PrintsGain}
use Rattle.tree_checker.proofs.gains.first_wrong_gain.Given as goal

-- the gains so far are right
abbrev pub invariant-loop-agent : goal.invariant-loop-agent
invariant-loop-agent l = (other : ℕ) → other < l.agent → PrintsGain l.diagram l.chosen l.gains other
