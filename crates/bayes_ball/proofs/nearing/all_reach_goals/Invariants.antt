use Rattle.std.proofs.Common.{◌+◌}
use Rattle.node_sets.specs.Sets.{room}
use Rattle.bayes_ball.proofs.Finding.{IsFinding}
use Rattle.bayes_ball.proofs.nearing.all_reach_goals.Given as goal

abbrev pub invariant-waves : goal.invariant-waves
invariant-waves l = IsFinding l.diagram.nodes l.decision l.family l.below l.down l.up l.followed l.followed_down l.followed_up

abbrev pub decreases-waves : goal.decreases-waves
decreases-waves l = room l.followed + room l.followed_down + room l.followed_up
