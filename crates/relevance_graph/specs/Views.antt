-- What a relevance graph is seen as.
use Rattle.std.specs.Prelude.{◌<◌, ℕ, List, Result, Ok, Err, length, slice_index}
use Rattle.diagram_graph.specs.Needs.{NeedsItem, needs_of}
use Rattle.diagram_graph.specs.declared.placing.Placing.{Placing}
use Rattle.diagram_graph.specs.declared.placing.Placing.TheVariants.{Order, Cycle}

-- for each node the decisions that it relies on, and the order of solving or the relevance cycle
pub record RelevanceView : Type 0 where
  pub relied_on : List (List ℕ)
  pub outcome : Result (List ℕ) (List ℕ)

-- the decisions on which it says that d relies
abbrev pub relied_on_by : RelevanceView → ℕ → List ℕ
relied_on_by view d = needs_of view.relied_on d

-- it says that d relies on e
abbrev pub ReliesTo : RelevanceView → ℕ → ℕ → Type 0
ReliesTo view d e = NeedsItem view.relied_on d e

-- an order, or else a cycle
abbrev pub outcome_of : Placing → Result (List ℕ) (List ℕ)
outcome_of (Order order) = Ok order.items
outcome_of (Cycle cycle) = Err cycle.items

-- each number is greater than those before it
abbrev pub IsRising : List ℕ → Type 0
IsRising list = (i j : ℕ) → i < j → j < length list → slice_index list i < slice_index list j
