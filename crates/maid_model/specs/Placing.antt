-- Items placed one by one, each after those that it needs, and the cycle where that stops short.
use Rattle.std.specs.Prelude.{◌≡◌, ℕ, ◌+◌, ◌-◌, ◌<◌, List, length, take, drop, Contains, slice_index}
use Rattle.maid_model.specs.Views.{NodeView}
use Rattle.maid_model.specs.Nodes.{IsDecision}
use Rattle.maid_model.specs.Relevance.{ReliesOn}

-- the least number of which P holds
abbrev pub IsLeast : (ℕ → Type 0) → ℕ → Type 0
IsLeast P v = P v × ((w : ℕ) → w < v → P w → ⊥)

-- an item that is not placed
abbrev pub Remains : (ℕ → Type 0) → List ℕ → ℕ → Type 0
Remains Item placed v = Item v × (Contains placed v → ⊥)

-- an item not yet placed, all of whose needs are placed
abbrev pub CanPlace : (ℕ → Type 0) → (ℕ → ℕ → Type 0) → List ℕ → ℕ → Type 0
CanPlace Item Needs placed v = Remains Item placed v × ((e : ℕ) → Needs v e → Contains placed e)

-- each time the first item that can be placed is placed
abbrev pub IsPlacing : (ℕ → Type 0) → (ℕ → ℕ → Type 0) → List ℕ → Type 0
IsPlacing Item Needs order =
    (k : ℕ) → k < length order → IsLeast (CanPlace Item Needs (take k order)) (slice_index order k)

-- all items are placed
pub record IsOrder (Item : ℕ → Type 0) (Needs : ℕ → ℕ → Type 0) (order : List ℕ) : Type 0 where
  pub placing : IsPlacing Item Needs order
  pub complete : (v : ℕ) → Item v → Contains order v

-- from the first that is left, each time to the first that is left of those that the last one
-- needs; none comes twice
pub record IsTrail (Left : ℕ → Type 0) (Needs : ℕ → ℕ → Type 0) (trail : List ℕ) : Type 0 where
  pub first : 0 < length trail → IsLeast Left (slice_index trail 0)
  pub next : (k : ℕ) → k + 1 < length trail
      → IsLeast (λ e. Needs (slice_index trail k) e × Left e) (slice_index trail (k + 1))
  pub distinct :
      (i j : ℕ) → i < j → j < length trail → slice_index trail i ≡ slice_index trail j → ⊥

-- the trail comes back to its place `back`, and the cycle is its rest from there
pub record IsRound (Left : ℕ → Type 0) (Needs : ℕ → ℕ → Type 0) (cycle : List ℕ) : Type 0 where
  pub trail : List ℕ
  pub back : ℕ
  pub is_trail : IsTrail Left Needs trail
  pub within : back < length trail
  pub closes : IsLeast (λ e. Needs (slice_index trail (length trail - 1)) e × Left e)
      (slice_index trail back)
  pub is : cycle ≡ drop back trail

-- items are placed as long as one can be, some remain, and a round among those that remain is the
-- cycle
pub record IsCycle (Item : ℕ → Type 0) (Needs : ℕ → ℕ → Type 0) (cycle : List ℕ) : Type 0 where
  pub placed : List ℕ
  pub placing : IsPlacing Item Needs placed
  pub stuck : (v : ℕ) → CanPlace Item Needs placed v → ⊥
  pub round : IsRound (Remains Item placed) Needs cycle

-- The order of solving: each time the first decision in text, all of whose relied-on decisions are
-- placed.
abbrev pub IsRelianceOrder : List NodeView → List ℕ → Type 0
IsRelianceOrder nodes order = IsOrder (IsDecision nodes) (ReliesOn nodes) order

-- All decisions can be placed in an order of solving.
abbrev pub HasRelianceOrder : List NodeView → Type 0
HasRelianceOrder nodes = (order : List ℕ) × IsRelianceOrder nodes order

-- The relevance cycle that is named where some decisions can't be placed.
abbrev pub IsRelianceCycle : List NodeView → List ℕ → Type 0
IsRelianceCycle nodes cycle = IsCycle (IsDecision nodes) (ReliesOn nodes) cycle
