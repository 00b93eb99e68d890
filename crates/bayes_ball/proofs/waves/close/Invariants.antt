use Rattle.std.proofs.Common.{ℕ, ◌+◌}
use Rattle.node_sets.specs.Sets.{room}
use Rattle.bayes_ball.specs.Flow.{Way}
use Rattle.bayes_ball.specs.Spread.{IsMarked}
use Rattle.bayes_ball.proofs.Spreading.{IsSpreading}
use Rattle.bayes_ball.proofs.waves.close.Given as goal

abbrev pub invariant-waves : goal.invariant-waves
invariant-waves l = record {
  kept : (w : Way) (v : ℕ) → IsMarked l.fn.down l.fn.up w v → IsMarked l.down l.up w v;
  spreads : IsSpreading l.diagram.nodes l.given (IsMarked l.fn.down l.fn.up) l.down l.up l.followed_down l.followed_up;
}

abbrev pub decreases-waves : goal.decreases-waves
decreases-waves l = room l.followed_down + room l.followed_up
