use Rattle.node_sets.proofs.Joining.{none_hold}
use Rattle.node_sets.proofs.arcs.ArcSets.none.Goals as goal

pub returns-clause-parents : goal.returns-clause-parents
returns-clause-parents c u v m = none_hold 256 c.empty-none.result c.empty-none.ensures v u m

pub returns-clause-children : goal.returns-clause-children
returns-clause-children c u v m = none_hold 256 c.empty-none.result c.empty-none.ensures u v m
