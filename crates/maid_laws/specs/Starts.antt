-- What holds at a subgame start.
use Rattle.std.specs.Prelude.{◌↔◌, ℕ, ◌<◌, ◌≤◌, List, length, slice_index}
use Rattle.maid_model.specs.Views.{NodeView}
use Rattle.maid_model.specs.Nodes.{IsDecision}
use Rattle.maid_model.specs.Graph.{Arc, IsGraph}
use Rattle.maid_model.specs.Relevance.{IsLive, ReliesOn}
use Rattle.maid_model.specs.Subgames.{IsListing, IsHistory, KeepsInformation}

-- each live node before the history's end is a parent of each decision at its end or later
abbrev pub LaterSeeAll : List NodeView → List ℕ → List ℕ → Type 0
LaterSeeAll nodes order start = (i j : ℕ) → j < length start → length start ≤ i → i < length order
    → IsDecision nodes (slice_index order i) → IsLive nodes (slice_index order j)
    → Arc nodes (slice_index order j) (slice_index order i)

-- No later information set straddles a history exactly where each later decision sees each live
-- node before.
abbrev pub InformationKept : Type 0
InformationKept = (nodes : List NodeView) (order start : List ℕ) → IsGraph nodes
    → IsListing nodes order → IsHistory nodes order start
    → KeepsInformation nodes order start ↔ LaterSeeAll nodes order start

-- There no later decision relies on an earlier one.
abbrev pub NoRelianceBack : Type 0
NoRelianceBack = (nodes : List NodeView) (order start : List ℕ) → IsGraph nodes
    → IsListing nodes order → IsHistory nodes order start → KeepsInformation nodes order start
    → (i j : ℕ) → j < length start → length start ≤ i → i < length order
    → ReliesOn nodes (slice_index order i) (slice_index order j) → ⊥
