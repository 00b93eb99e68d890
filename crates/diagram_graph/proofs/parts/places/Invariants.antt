use Rattle.std.proofs.Common.{◌≡◌, length}
use Rattle.node_sets.specs.declared.sets.TheConstants.{MOST_NODES}
use Rattle.diagram_graph.proofs.Kept.{Told}
use Rattle.diagram_graph.proofs.parts.places.Given as goal

abbrev pub invariant-loop-place : goal.invariant-loop-place
invariant-loop-place l = record { len : length l.places ≡ MOST_NODES; told : Told l.kept l.places l.place }
