-- Where placing stops short: a round among the items that are left, along each item's own list of
-- needs.
use Rattle.std.specs.Prelude.{◌≡◌, ℕ, ◌+◌, ◌-◌, ◌<◌, Bool, List, length, drop, slice_index, Option, MatchOption, Contains}
use Rattle.maid_model.specs.Placing.{IsLeast, Remains, CanPlace, IsPlacing}
use Rattle.diagram_graph.specs.Free.{IsFree}
use Rattle.diagram_graph.specs.Needs.{needs_of, NeedsItem}

-- e is the first of the list that is left
abbrev pub IsFirstLeft : (ℕ → Type 0) → List ℕ → ℕ → Type 0
IsFirstLeft Left list e = (place : ℕ) × (place < length list) × (slice_index list place ≡ e)
    × Left e × ((k : ℕ) → k < place → Left (slice_index list k) → ⊥)

-- the first of the list that is left, and none only where none is
abbrev pub TellsFirstLeft : (ℕ → Type 0) → List ℕ → Option ℕ → Type 0
TellsFirstLeft Left list found =
    MatchOption found ((e : ℕ) → Contains list e → Left e → ⊥) (λ e. IsFirstLeft Left list e)

-- from the first item that is left, each time to the first of the last one's needs that is left
pub record IsListedTrail (Left : ℕ → Type 0) (lists : List (List ℕ)) (trail : List ℕ) : Type 0 where
  pub first : 0 < length trail → IsLeast Left (slice_index trail 0)
  pub next : (k : ℕ) → k + 1 < length trail
      → IsFirstLeft Left (needs_of lists (slice_index trail k)) (slice_index trail (k + 1))
  pub distinct :
      (i j : ℕ) → i < j → j < length trail → slice_index trail i ≡ slice_index trail j → ⊥

-- the trail comes back to its place `back`, and the cycle is its rest from there
pub record IsListedRound (Left : ℕ → Type 0) (lists : List (List ℕ)) (cycle : List ℕ) : Type 0 where
  pub trail : List ℕ
  pub back : ℕ
  pub is_trail : IsListedTrail Left lists trail
  pub within : back < length trail
  pub closes : IsFirstLeft Left (needs_of lists (slice_index trail (length trail - 1)))
      (slice_index trail back)
  pub is : cycle ≡ drop back trail

-- it circles among the items that are not placed: such a round of them
abbrev pub Circles : List (List ℕ) → List Bool → List Bool → List ℕ → Type 0
Circles lists items placed cycle = IsListedRound (IsFree items placed) lists cycle

-- items are placed as long as one can be, some remain, and a round among those that remain is the
-- cycle
pub record IsFirstCycle (Item : ℕ → Type 0) (lists : List (List ℕ)) (cycle : List ℕ) : Type 0 where
  pub placed : List ℕ
  pub placing : IsPlacing Item (NeedsItem lists) placed
  pub stuck : (v : ℕ) → CanPlace Item (NeedsItem lists) placed v → ⊥
  pub round : IsListedRound (Remains Item placed) lists cycle

-- different items, each of which needs the next, and the last the first
pub record IsRingOfNeeds (Needs : ℕ → ℕ → Type 0) (ring : List ℕ) : Type 0 where
  pub some : 0 < length ring
  pub next : (k : ℕ) → k + 1 < length ring → Needs (slice_index ring k) (slice_index ring (k + 1))
  pub closes : Needs (slice_index ring (length ring - 1)) (slice_index ring 0)
  pub distinct : (i j : ℕ) → i < j → j < length ring → slice_index ring i ≡ slice_index ring j → ⊥
