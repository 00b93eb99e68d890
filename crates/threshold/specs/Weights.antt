-- A place of a chance table, and the weights of its table written anew. Only private functions cite
-- it.
use Rattle.std.specs.Prelude.{◌≡◌, ℕ, ◌<◌, ◌≤◌, ◌*◌, ◌/◌, ◌%◌, Bool, ◌==◌, if◌then◌else◌, List, map, pos, nat_abs, ℤ}
use Rattle.std.specs.List.{range_with_len}
use Rattle.diagram_graph.specs.Edited.{with_nodes}
use Rattle.maid_model.specs.declared.diagrams.Kind.TheVariants.{Chance}
use Rattle.maid_model.specs.Diagrams.{greatest_number}
use Rattle.maid_model.specs.Nodes.{node_at, rows_of, states_of}
use Rattle.maid_model.specs.Views.{NodeView, DiagramView}
use Rattle.reach_laws.specs.Threshold.{state_weight}
use Rattle.threshold.specs.declared.weights.Place.{Place}
use Rattle.threshold.specs.declared.weights.Scales.{Scales}
use Rattle.threshold.specs.Faults.{with_cells}

-- a row and a state of a chance node's table
pub record IsCell (nodes : List NodeView) (place : Place) : Type 0 where
  pub kind : (node_at nodes place.node).kind ≡ Chance
  pub row : place.row < rows_of nodes place.node
  pub state : place.state < states_of nodes place.node

-- in other rows a weight is so many times as much; in the row the state weighs what is given, and
-- each other state so many times as much
abbrev pub scaled : Scales → Bool → Bool → ℕ → ℕ
scaled scales in_row is_state weight = if in_row
    then (if is_state then scales.given else scales.each * weight)
    else weight * scales.times

-- the new weight of a state in a row
abbrev pub new_weight : List NodeView → Place → Scales → ℕ → ℕ → ℕ
new_weight nodes place scales s r =
    scaled scales (r == place.row) (s == place.state) (nat_abs (state_weight nodes place.node s r))

-- the first n cells of the new table
abbrev pub new_cells : List NodeView → Place → Scales → ℕ → List ℤ
new_cells nodes place scales n = map pos (map
    (λ c.
    new_weight nodes place scales (c % states_of nodes place.node)
    (c / states_of nodes place.node)) (range_with_len 0 n))

-- all of them
abbrev pub new_table : List NodeView → Place → Scales → List ℤ
new_table nodes place scales =
    new_cells nodes place scales (rows_of nodes place.node * states_of nodes place.node)

-- the nodes with the new table
abbrev pub rewritten : List NodeView → Place → Scales → List NodeView
rewritten nodes place scales = with_cells nodes place.node (new_table nodes place scales)

-- the diagram with the new table
abbrev pub rewritten_diagram : DiagramView → Place → Scales → DiagramView
rewritten_diagram d place scales = with_nodes d (rewritten d.nodes place scales)

-- no new weight is too great
abbrev pub KeepsRange : List NodeView → Place → Scales → Type 0
KeepsRange nodes place scales = (s r : ℕ) → s < states_of nodes place.node
    → r < rows_of nodes place.node → new_weight nodes place scales s r ≤ greatest_number
