use Rattle.std.proofs.Common.{◌≡◌}
use Rattle.std.specs.List.{range_with_len}
use Rattle.finite_sums.specs.Sums.{sum_each}
use Rattle.evidence.specs.Stakes.{share_given}
use Rattle.evidence.proofs.stakes.Stake.gain.Given as goal

-- what the nodes so far give
abbrev pub invariant-loop-v : goal.invariant-loop-v
invariant-loop-v l = l.gain ≡ sum_each (share_given l.self.diagram.now.nodes l.self.node l.self.agent l.self.worths.now) (range_with_len 0 l.v)
