-- Slots at places, of which a set tells the live ones, each filed under one node. Only private
-- contracts cite this file.
use Rattle.std.specs.Prelude.{◌≡◌, ℕ, zero, suc, ◌<◌, ◌≤◌, ◌++◌, Bool, true, false, List, [], ◌∷◌, length, take, slice_index, slice_index_or, if◌then◌else◌, ◌↔◌, ◌⊎◌}
use Rattle.node_sets.specs.declared.sets.NodeSet.{NodeSet}
use Rattle.node_sets.specs.Sets.{holds, IsIn}
use Rattle.factor_core.specs.declared.slots.Slot.{Slot}
use Rattle.eliminate.specs.declared.places.Order.{Order}
use Rattle.eliminate.specs.declared.places.Places.{Places}

-- the slots of the list at the places that pass; its first one stands at place i
abbrev pub slots_from : (ℕ → Bool) → ℕ → List Slot → List Slot
slots_from p i [] = []
slots_from p i (s ∷ ss) = (if p i then s ∷ [] else []) ++ slots_from p (suc i) ss

-- those of the first `made` slots whose places are in the set
abbrev pub live_slots : NodeSet → ℕ → List Slot → List Slot
live_slots live made slots = slots_from (holds live) 0 (take made slots)

-- the live slots, in the order of their places
abbrev pub slots_at : Places → List Slot → List Slot
slots_at places slots = live_slots places.live places.made slots

-- the scope of the slot at the place; no node where there is none
abbrev pub scope_at : List Slot → ℕ → ℕ → Bool
scope_at [] k v = false
scope_at (s ∷ ss) zero v = holds s.scope v
scope_at (s ∷ ss) (suc k) v = scope_at ss k v

-- ---- ranks: the positions of nodes among the steps of a run
-- the node's rank; how many steps there are, where the list has none for the node
abbrev pub rank_of : List ℕ → ℕ → ℕ → ℕ
rank_of ranks count v = slice_index_or ranks v count

-- the rank of a step's node is its first position among the steps, and no other node has a rank
-- below their number
pub record IsRanking (ranks steps : List ℕ) : Type 0 where
  pub first : (i : ℕ) → i < length steps → rank_of ranks (length steps) (slice_index steps i) ≤ i
  pub stands : (v : ℕ) → rank_of ranks (length steps) v < length steps
      → slice_index steps (rank_of ranks (length steps) v) ≡ v

-- no two nodes have the same rank below the number of steps
abbrev pub AreApart : List ℕ → ℕ → Type 0
AreApart ranks count = (u v : ℕ) → rank_of ranks count u ≡ rank_of ranks count v
    → rank_of ranks count v < count → u ≡ v

-- none of the scope's nodes is eliminated before the step of that number
abbrev pub NoneBefore : List ℕ → ℕ → ℕ → (ℕ → Bool) → Type 0
NoneBefore ranks count step scope =
    (v : ℕ) → scope v ≡ true → step ≤ rank_of ranks count v

-- the node is the one of the scope that is eliminated first
abbrev pub IsFirstOf : List ℕ → ℕ → (ℕ → Bool) → ℕ → Type 0
IsFirstOf ranks count scope v = (scope v ≡ true) × (rank_of ranks count v < count)
    × NoneBefore ranks count (rank_of ranks count v) scope

-- ---- slots filed under their first nodes
-- no node of those that the list is for has a place
abbrev pub IsBlank : List NodeSet → Type 0
IsBlank at = (v k : ℕ) (none : NodeSet) → v < length at
    → holds (slice_index_or at v none) k ≡ false

-- no node of a step has a place
abbrev pub IsBlankFor : List ℕ → ℕ → List NodeSet → Type 0
IsBlankFor ranks count at = (v k : ℕ) (none : NodeSet) → v < length at
    → rank_of ranks count v < count → holds (slice_index_or at v none) k ≡ false

-- for each node of a step, the places of the slots of which it is the first node
abbrev pub Filed : List ℕ → ℕ → List NodeSet → List Slot → Type 0
Filed ranks count at slots = (v k : ℕ) (none : NodeSet) → v < length at
    → rank_of ranks count v < count
    → IsIn (slice_index_or at v none) k ↔ IsFirstOf ranks count (scope_at slots k) v

-- the place is added to those of the scope's first node
abbrev pub FilesPlace : List ℕ → ℕ → (ℕ → Bool) → ℕ → List NodeSet → List NodeSet → Type 0
FilesPlace ranks count scope place before after = (v k : ℕ) (none : NodeSet) → v < length before
    → IsIn (slice_index_or after v none) k
    ↔ (IsIn (slice_index_or before v none) k ⊎ ((k ≡ place) × IsFirstOf ranks count scope v))

-- the first `made` slots are filed, by ranks that tell nodes apart, and live ones are among them
pub record IsBoardBy
    (ranks : List ℕ) (count : ℕ) (at : List NodeSet) (slots : List Slot) (live : NodeSet)
    (made : ℕ) : Type 0 where
  pub same : length at ≡ length ranks
  pub apart : AreApart ranks count
  pub filed : Filed ranks count at (take made slots)
  pub within : (k : ℕ) → IsIn live k → k < made

-- so they are by the ranks of the order
abbrev pub IsBoard : Order → List NodeSet → List Slot → Places → Type 0
IsBoard order at slots places =
    IsBoardBy order.ranks.now order.count at slots places.live places.made

-- the set has the live places among those of the node
abbrev pub ArePlacesOf : List NodeSet → Places → ℕ → NodeSet → Type 0
ArePlacesOf at places v set = (k : ℕ) (none : NodeSet)
    → IsIn set k ↔ (IsIn places.live k × IsIn (slice_index_or at v none) k)

-- among the live places, those of the node are those of the slots that hold it
abbrev pub TellsHolders : List NodeSet → Places → List Slot → ℕ → Type 0
TellsHolders at places slots v = (k : ℕ) (none : NodeSet) → IsIn places.live k
    → holds (slice_index_or at v none) k ≡ scope_at (take places.made slots) k v
