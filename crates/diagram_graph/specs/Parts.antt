-- What making a part of a diagram promises.
use Rattle.std.specs.Prelude.{◌≡◌, ℕ, List, filter, map, slice_index}
use Rattle.node_sets.specs.declared.sets.NodeSet.{NodeSet}
use Rattle.node_sets.specs.Sets.{holds}
use Rattle.maid_model.specs.Nodes.{numbers_of}
use Rattle.maid_model.specs.Parts.{part_diagram, with_ancestors}
use Rattle.maid_model.specs.Views.{NodeView, DiagramView}
use Rattle.diagram_graph.specs.Edited.{with_parents}
use Rattle.diagram_graph.specs.declared.parts.SubDiagram.{SubDiagram}

-- the nodes of the set, in text order
abbrev pub ListsSet : List NodeView → NodeSet → List ℕ → Type 0
ListsSet nodes set list = list ≡ filter (holds set) (numbers_of nodes)

-- the node with the new numbers of its parents
abbrev pub IsRenumbered : List ℕ → NodeView → NodeView → Type 0
IsRenumbered places node new = new ≡ with_parents node (map (slice_index places) node.parents)

-- the part has the nodes of the list and all their ancestors, in text order
abbrev pub HasPartNodes : DiagramView → List ℕ → SubDiagram → Type 0
HasPartNodes d of part = part.nodes.items ≡ with_ancestors d.nodes of

-- and its diagram is the one that they make
abbrev pub HasPartDiagram : DiagramView → List ℕ → SubDiagram → Type 0
HasPartDiagram d of part = part.diagram ≡ part_diagram d (with_ancestors d.nodes of)
