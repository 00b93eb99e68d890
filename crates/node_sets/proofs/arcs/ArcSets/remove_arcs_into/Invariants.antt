use Rattle.std.proofs.Common.{◌≡◌, ◌≤◌, ◌-◌}
use Rattle.node_sets.specs.Arcs.{HasChild}
use Rattle.node_sets.proofs.Parting.{LosesBelow}
use Rattle.node_sets.proofs.arcs.ArcSets.remove_arcs_into.Given as goal

-- the first of the parents have the child no more
abbrev pub invariant-parents : goal.invariant-parents
invariant-parents l = record {
  within : l.from ≤ 256;
  parents : l.self.parents ≡ l.initial.self.parents;
  children : LosesBelow (HasChild l.fn.self) l.parents l.from l.v l.self.children;
}

abbrev pub decreases-parents : goal.decreases-parents
decreases-parents l = 256 - l.from
