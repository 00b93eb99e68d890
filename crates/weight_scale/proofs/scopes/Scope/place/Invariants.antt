use Rattle.std.proofs.Common.{◌-◌, ◌≤◌, length}
use Rattle.weight_scale.proofs.Bounding.{ProductSoFar}
use Rattle.weight_scale.specs.ScopePlaces.{factor_by, members_of}
use Rattle.weight_scale.proofs.scopes.Scope.place.Given as goal

abbrev pub invariant-nodes : goal.invariant-nodes
invariant-nodes l = ProductSoFar (factor_by l.self.counted l.diagram.nodes) (members_of l.diagram.nodes l.self.nodes) l.next l.product × (l.next ≤ length l.diagram.nodes)

abbrev pub decreases-nodes : goal.decreases-nodes
decreases-nodes l = length l.diagram.nodes - l.next
