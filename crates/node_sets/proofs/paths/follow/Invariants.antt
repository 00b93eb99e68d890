use Rattle.node_sets.specs.Sets.{room}
use Rattle.node_sets.specs.Steps.{Step}
use Rattle.node_sets.proofs.Following.{IsFollowed}
use Rattle.node_sets.proofs.paths.follow.Given as goal

abbrev pub invariant-waves : goal.invariant-waves
invariant-waves g l = IsFollowed (Step (g.G.Graph.parents_of l.graph) l.way) l.fn.set l.reached l.followed

abbrev pub decreases-waves : goal.decreases-waves
decreases-waves g l = room l.followed
