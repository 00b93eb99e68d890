use Rattle.std.proofs.Common.{◌≡◌, take}
use Rattle.node_sets.specs.Arcs.{HasChild}
use Rattle.node_sets.proofs.Joining.{GainsFrom}
use Rattle.node_sets.proofs.arcs.ArcSets.add_arcs_into.Given as goal

-- the first of the list have the new child
abbrev pub invariant-loop-u : goal.invariant-loop-u
invariant-loop-u l = record {
  parents : l.self.parents ≡ l.initial.self.parents;
  children : GainsFrom (HasChild l.fn.self) (take l.u-index l.list) l.v l.self.children;
}
