use Rattle.std.proofs.Common.{◌≡◌}
use Rattle.std.specs.List.{range_with_len}
use Rattle.finite_sums.specs.Sums.{sum_each}
use Rattle.rule_solver.specs.Worths.{share_for}
use Rattle.rule_solver.proofs.worths.Stake.gain.Given as goal

-- what the nodes so far give
abbrev pub invariant-loop-v : goal.invariant-loop-v
invariant-loop-v l = l.gain ≡ sum_each (share_for l.self.diagram.now.nodes l.self.profile.now l.self.agent l.self.worths.now) (range_with_len 0 l.v)
