-- Items that are not placed, by marks. What the steps of placing promise one another.
use Rattle.std.specs.Prelude.{ℕ, ◌<◌, Bool, List, length, Option, MatchOption}
use Rattle.diagram_graph.specs.Needs.{IsMarkedIn, NeedsItem}
use Rattle.maid_model.specs.Placing.{IsLeast}

-- only numbers of the list are needed
abbrev pub NeedsWithin : List (List ℕ) → Type 0
NeedsWithin lists = (v e : ℕ) → NeedsItem lists v e → e < length lists

-- only items are needed
abbrev pub NeedsItems : List (List ℕ) → List Bool → Type 0
NeedsItems lists items = (v e : ℕ) → NeedsItem lists v e → IsMarkedIn items e

-- an item that is not placed
abbrev pub IsFree : List Bool → List Bool → ℕ → Type 0
IsFree items placed v = IsMarkedIn items v × (IsMarkedIn placed v → ⊥)

-- an item that is not placed, and all that it needs is
abbrev pub IsReady : List (List ℕ) → List Bool → List Bool → ℕ → Type 0
IsReady lists items placed v =
    IsFree items placed v × ((e : ℕ) → NeedsItem lists v e → IsMarkedIn placed e)

-- the least number with the property, and none only where there is none
abbrev pub TellsLeast : (ℕ → Type 0) → Option ℕ → Type 0
TellsLeast P found = MatchOption found ((v : ℕ) → P v → ⊥) (λ v. IsLeast P v)
