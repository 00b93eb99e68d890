-- What placing answers.
use Rattle.std.specs.Prelude.{ℕ, Bool, List, Contains}
use Rattle.maid_model.specs.Placing.{IsOrder, IsPlacing}
use Rattle.diagram_graph.specs.Needs.{IsMarkedIn, NeedsItem}
use Rattle.diagram_graph.specs.Rounds.{IsFirstCycle, IsRingOfNeeds}
use Rattle.diagram_graph.specs.declared.placing.Placing.{Placing}
use Rattle.diagram_graph.specs.declared.placing.Placing.TheVariants.{Order, Cycle}

-- each time the first item that can be placed is placed
abbrev pub PlacesItems : List (List ℕ) → List Bool → List ℕ → Type 0
PlacesItems lists items order = IsPlacing (IsMarkedIn items) (NeedsItem lists) order

-- a list of all items in order
abbrev pub IsOrderOf : List (List ℕ) → List Bool → List ℕ → Type 0
IsOrderOf lists items order = IsOrder (IsMarkedIn items) (NeedsItem lists) order

-- a first cycle, which is a ring of items that need one another, so that no order has them all
pub record IsCycleOf (lists : List (List ℕ)) (items : List Bool) (cycle : List ℕ) : Type 0 where
  pub first : IsFirstCycle (IsMarkedIn items) lists cycle
  pub ring : IsRingOfNeeds (NeedsItem lists) cycle
  pub all_items : (v : ℕ) → Contains cycle v → IsMarkedIn items v
  pub no_order : (order : List ℕ) → IsOrderOf lists items order → ⊥

-- an order of all items, or else a first cycle of them
abbrev pub IsPlacingOf : List (List ℕ) → List Bool → Placing → Type 0
IsPlacingOf lists items (Order order) = IsOrderOf lists items order.items
IsPlacingOf lists items (Cycle cycle) = IsCycleOf lists items cycle.items
