use Rattle.std.proofs.Common.{ℕ, ◌<◌, ◌≤◌}
use Rattle.maid_model.specs.Diagrams.{greatest_number}
use Rattle.weight_scale.specs.Given.{bound_given}
use Rattle.evidence.proofs.limits.keep_bound_given.Given as goal

-- the bounds of the agents so far hold
abbrev pub invariant-loop-agent : goal.invariant-loop-agent
invariant-loop-agent l = (other : ℕ) → other < l.agent → bound_given l.diagram l.node other ≤ greatest_number
