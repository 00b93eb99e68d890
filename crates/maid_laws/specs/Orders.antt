-- Lists with parents first.
use Rattle.std.specs.Prelude.{◌↔◌, ℕ, ◌<◌, List, length}
use Rattle.maid_model.specs.Views.{NodeView}
use Rattle.maid_model.specs.Graph.{Arc, IsAcyclic, IsGraph}
use Rattle.maid_model.specs.Laws.{IsParentsFirst}
use Rattle.maid_model.specs.Subgames.{IsListing}

-- Where all parents are nodes of the list, there is no directed cycle exactly where the nodes can
-- be listed with parents first.
abbrev pub AcyclicIffListed : Type 0
AcyclicIffListed =
    (nodes : List NodeView) → ((u v : ℕ) → Arc nodes u v → u < length nodes)
    → IsAcyclic (Arc nodes) ↔ ((order : List ℕ) × IsParentsFirst nodes order)

-- The chance nodes and decisions of a graph can be listed with parents first.
abbrev pub ListingExists : Type 0
ListingExists = (nodes : List NodeView) → IsGraph nodes → (order : List ℕ) × IsListing nodes order
