-- Products and sums of small cells are small.
use Rattle.std.proofs.Common.{◌≡◌, ◌∙◌, ℕ, zero, suc, ◌*◌, ◌<◌, ◌≤◌, Bool, true, false, cond, List, [], ◌∷◌, take, length, refl, sym, ap, subst, arith, All, mul-le-mul, le_trans, Contains, ◌↔◌, inl, inr}
use Rattle.finite_sums.specs.Sums.{World, InRange, with_state}
use Rattle.finite_sums.proofs.Sums.{with_in}
use Rattle.node_sets.specs.Sets.{holds}
use Rattle.maid_model.specs.Nodes.{states_of, rows_under}
use Rattle.cell_rings.specs.Rings.{Ring, IsRing, IsSize, mass_ring}
use Rattle.cell_rings.specs.Sums.{ring_sum}
use Rattle.cell_rings.proofs.Adding.{size_sum}
use Rattle.ring_sums.specs.Groups.{sizes, ProductsFit, JoinFits}
use Rattle.ring_sums.specs.Tables.{Table, product_of, sum_out}
use Rattle.ring_sums.proofs.Bounds.{size_product}
use Rattle.finite_sums.specs.Members.{Among}
use Rattle.maid_laws.proofs.Members.{among_of, contains_of}
use Rattle.ring_sums.proofs.Each.{Each}
use Rattle.factor_core.specs.declared.slots.Slot.{Slot}
use Rattle.factor_core.specs.Slots.{WorkspaceView, IsLiveSlot, StaysLive, cells_over, tables_of, AppendsTable}
use Rattle.sum_tests.specs.Trials.{two_coins, IsSmallSlot, GrowsByFour}

-- no table over the two has more than four cells
pub four_cells : (h : ℕ → Bool) → cells_over two_coins h ≤ 4
four_cells h = go (h 0) (h 1)
  where
    go : (a b : Bool) → rows_under (states_of two_coins) (cond a (0 ∷ cond b (1 ∷ []) []) (cond b (1 ∷ []) [])) ≤ 4
    go true true = omega arith
    go true false = omega arith
    go false true = omega arith
    go false false = omega arith

pub grows_of : {C : Type 0} (r : Ring C) (before after : WorkspaceView C) (slot : Slot) (t : Table C) (most : ℕ) → AppendsTable r two_coins before after slot t → ((w : World) → InRange (states_of two_coins) w → r.size (t.cell w) ≤ most) → GrowsByFour r before after slot most
grows_of r before after slot t most a h = record {
  small = record { live = a.live; sizes = λ w i. subst (λ c. r.size c ≤ most) (sym (a.table.cell w i)) (h w i) };
  spare = omega (arith, a.appends.less, a.live.size, four_cells (holds slot.scope));
  stays = λ s b m.
      let k = a.stays s m.live in
      record { live = k.live; sizes = λ w i. subst (λ t. r.size (t.cell w) ≤ b) (sym k.table) (m.sizes w i) };
}

-- ---- products and sums
module _ {C : Type 0} {r : Ring C} (laws : IsRing r) (sized : IsSize r r.size) (b : ℕ) (some : 1 ≤ b) where
  abbrev pub Below : Table C → Type 0
  Below t = (w : World) → InRange (states_of two_coins) w → r.size (t.cell w) ≤ b

  square : b ≤ b * b
  square = let h : b * 1 ≤ b * b = mul-le-mul (let e : b ≤ b = omega arith in e) some in omega arith

  pub two_fit : (ts : List (Table C)) → length ts ≤ 2 → Each Below ts → (w : World) → InRange (states_of two_coins) w → sizes r.size ts w ≤ b * b
  two_fit [] l e w i = (let s = square in omega arith)
  two_fit (t ∷ []) l e w i = (let s = square in let h = e.0 w i in omega arith)
  two_fit (t ∷ u ∷ []) l e w i = (let h = mul-le-mul (e.0 w i) (e.1.0 w i) in omega arith)
  two_fit (t ∷ u ∷ v ∷ ts) l e w i = absurd (omega arith)

  first_two : (ts : List (Table C)) (j : ℕ) → length (take j ts) ≤ length ts
  first_two [] zero = omega arith
  first_two [] (suc j) = omega arith
  first_two (t ∷ ts) zero = omega arith
  first_two (t ∷ ts) (suc j) = let h = first_two ts j in omega arith

  each_first : (ts : List (Table C)) (j : ℕ) → Each Below ts → Each Below (take j ts)
  each_first [] zero e = tt
  each_first [] (suc j) e = tt
  each_first (t ∷ ts) zero e = tt
  each_first (t ∷ ts) (suc j) e = (e.0, each_first ts j e.1)

  pub products_fit : (ts : List (Table C)) → length ts ≤ 2 → Each Below ts → (most : ℕ) → b * b ≤ most → ProductsFit r.size (states_of two_coins) most ts
  products_fit ts l e most h = λ j w i. let k = two_fit (take j ts) (let f = first_two ts j in omega arith) (each_first ts j e) w i in omega arith

  pub product_small : (ts : List (Table C)) → length ts ≤ 2 → Each Below ts → (w : World) → InRange (states_of two_coins) w → r.size (product_of r ts w) ≤ b * b
  product_small ts l e w i = le_trans (size_product r r.size sized (λ t. t.cell w) ts) (two_fit ts l e w i)

  two_sum : (v : ℕ) → v < 2 → (f : ℕ → ℕ) → ((s : ℕ) → s < states_of two_coins v → f s ≤ b * b) → ring_sum mass_ring (states_of two_coins v) f ≤ 2 * (b * b)
  two_sum zero l f h = (let x = h 0 (omega arith) in let y = h 1 (omega arith) in omega arith)
  two_sum (suc zero) l f h = (let x = h 0 (omega arith) in let y = h 1 (omega arith) in omega arith)
  two_sum (suc (suc v)) l f h = absurd (omega arith)

  pub join_fits : (ts : List (Table C)) → length ts ≤ 2 → Each Below ts → (v : ℕ) → v < 2 → (most : ℕ) → 2 * (b * b) ≤ most → JoinFits r.size (states_of two_coins) most v ts
  join_fits ts l e v k most h = record {
    products = products_fit ts l e most (omega arith);
    sum = λ w i. le_trans (two_sum v k (λ s. sizes r.size ts (with_state w v s)) (λ s m. two_fit ts l e (with_state w v s) (with_in (states_of two_coins) w v s i m))) h;
  }

  pub sum_small : (ts : List (Table C)) → length ts ≤ 2 → Each Below ts → (v : ℕ) → v < 2 → (w : World) → InRange (states_of two_coins) w → r.size ((sum_out r (states_of two_coins) v ts).cell w) ≤ 2 * (b * b)
  sum_small ts l e v k w i =
      le_trans (size_sum laws sized (states_of two_coins v) (λ s. product_of r ts (with_state w v s)))
      (two_sum v k (λ s. r.size (product_of r ts (with_state w v s))) (λ s m. product_small ts l e (with_state w v s) (with_in (states_of two_coins) w v s i m)))

pub two_states : (v : ℕ) → v < 2 → states_of two_coins v ≡ 2
two_states zero l = refl
two_states (suc zero) l = refl
two_states (suc (suc v)) l = absurd (omega arith)

pub turned_nodes : (h : ℕ → Bool) → h 0 ≡ true → h 1 ≡ true → ((v : ℕ) → h v ≡ true → v < 2) → (v : ℕ) → Contains (1 ∷ 0 ∷ []) v ↔ (h v ≡ true)
turned_nodes h e f known v = ((λ m. there v (among_of v (1 ∷ 0 ∷ []) m)), (λ t. contains_of v (1 ∷ 0 ∷ []) (here v (known v t))))
  where
    there : (v : ℕ) → Among v (1 ∷ 0 ∷ []) → h v ≡ true
    there v (inl a) = ap h a ∙ f
    there v (inr (inl a)) = ap h a ∙ e
    there v (inr (inr a)) = absurd a

    here : (v : ℕ) → v < 2 → Among v (1 ∷ 0 ∷ [])
    here zero l = inr (inl refl)
    here (suc zero) l = inl refl
    here (suc (suc v)) l = absurd (omega arith)

-- the tables of small slots
pub below_of_slots : {C : Type 0} {r : Ring C} (laws : IsRing r) (sized : IsSize r r.size) (b : ℕ) (some : 1 ≤ b) (cells : List C) (slots : List Slot) → Each (λ s. IsSmallSlot r cells s b) slots → Each (Below laws sized b some) (tables_of r two_coins cells slots)
below_of_slots laws sized b some cells [] e = tt
below_of_slots laws sized b some cells (s ∷ ss) e = (e.0.sizes, below_of_slots laws sized b some cells ss e.1)

-- small for one bound, small for a greater
pub wider : {C : Type 0} (r : Ring C) (cells : List C) (s : Slot) (a b : ℕ) → a ≤ b → IsSmallSlot r cells s a → IsSmallSlot r cells s b
wider r cells s a b l m = record { live = m.live; sizes = λ w i. le_trans (m.sizes w i) l }

pub all_two : {X : Type 0} (P : X → Type 0) (a b : X) → P a → P b → All P (a ∷ b ∷ [])
all_two P a b h k zero d l = h
all_two P a b h k (suc zero) d l = k
all_two P a b h k (suc (suc i)) d l = absurd (omega arith)

pub stays_small : {C : Type 0} (r : Ring C) (before after : List C) → ((s : Slot) → IsLiveSlot two_coins before s → StaysLive r two_coins before after s) → (s : Slot) (b : ℕ) → IsSmallSlot r before s b → IsSmallSlot r after s b
stays_small r before after h s b m =
    let k = h s m.live in
    record { live = k.live; sizes = λ w i. subst (λ t. r.size (t.cell w) ≤ b) (sym k.table) (m.sizes w i) }
