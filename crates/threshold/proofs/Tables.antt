-- Weights of a chance table's row, and the table of a moved probability.
use Rattle.std.proofs.Common.{◌≡◌, ◌≢◌, ◌∙◌, ℕ, zero, suc, ◌+◌, ◌-◌, ◌*◌, ◌/◌, ◌%◌, ◌<◌, ◌≤◌, eqb, List, [], ◌∷◌, ◌++◌, map, sym, ap, subst, ℤ, pos, ◌+ℤ◌, ◌-ℤ◌, ◌*ℤ◌, ◌≤ℤ◌, ◌<ℤ◌, arith}
use Rattle.std.proofs.lemmas.Int.{ints}
use Rattle.std.proofs.lemmas.List.{map-append}
use Rattle.std.proofs.lemmas.List.FromFn.{map-range_with_len_more}
use Rattle.std.proofs.lemmas.Nat.{div-mul-add, mod-mul-add}
use Rattle.std.proofs.Math.Decide.{ℕ_discrete}
use Rattle.std.specs.List.{range_with_len}
use Rattle.finite_sums.specs.Sums.{sum_below}
use Rattle.finite_sums.proofs.Sums.{sum_below_cong}
use Rattle.maid_laws.proofs.Booleans.{eqb_yes, eqb_no}
use Rattle.maid_laws.proofs.Collapse.{one_if, sum_below_at}
use Rattle.maid_model.specs.Nodes.{states_of}
use Rattle.maid_model.specs.Tables.{HasChanceTables, chance_total}
use Rattle.maid_model.specs.Views.{NodeView}
use Rattle.reach_laws.specs.Threshold.{IsPlace, state_weight, others_weight}
use Rattle.threshold.specs.declared.weights.Place.{Place}
use Rattle.threshold.specs.declared.weights.Scales.{Scales}
use Rattle.threshold.specs.Faults.{OthersWeighNought}
use Rattle.threshold.specs.Weights.{IsCell, new_cells, new_weight}

-- ---- sums of numbers from nought
module _ (f : ℕ → ℤ) (least : (i : ℕ) → pos 0 ≤ℤ f i) where
  pub sum_least : (n : ℕ) → pos 0 ≤ℤ sum_below n f
  sum_least zero = omega (arith, ints)
  sum_least (suc n) = omega (arith, ints, sum_least n, least n)

  less : (i n : ℕ) → i < suc n → i ≢ n → i < n
  less i n l k = omega arith

  last_or : (n i : ℕ) → Dec (i ≡ n) → (i ≢ n → f i ≤ℤ sum_below n f) → f i ≤ℤ (sum_below n f +ℤ f n)
  last_or n i (yes e) r = let h = sum_least n in let k : f i ≡ f n = ap f e in omega (arith, ints)
  last_or n i (no k) r = let h = r k in let m = least n in omega (arith, ints)

  -- one of them is at most the sum
  pub one_at_most : (n i : ℕ) → i < n → f i ≤ℤ sum_below n f
  one_at_most zero i l = absurd (omega arith)
  one_at_most (suc n) i l = last_or n i (ℕ_discrete i n) (λ k. one_at_most n i (less i n l k))

  two_or : (n i j : ℕ) → i < suc n → j < suc n → i ≢ j → Dec (i ≡ n) → Dec (j ≡ n) → (i < n → j < n → (f i +ℤ f j) ≤ℤ sum_below n f) → (f i +ℤ f j) ≤ℤ (sum_below n f +ℤ f n)
  two_or n i j l m k (yes e) (yes g) r = absurd (k (e ∙ sym g))
  two_or n i j l m k (yes e) (no g) r = let h = one_at_most n j (less j n m g) in let x : f i ≡ f n = ap f e in omega (arith, ints)
  two_or n i j l m k (no e) (yes g) r = let h = one_at_most n i (less i n l e) in let x : f j ≡ f n = ap f g in omega (arith, ints)
  two_or n i j l m k (no e) (no g) r = let h = r (less i n l e) (less j n m g) in let x = least n in omega (arith, ints)

  -- so are two
  pub two_at_most : (n i j : ℕ) → i < n → j < n → i ≢ j → (f i +ℤ f j) ≤ℤ sum_below n f
  two_at_most zero i j l m k = absurd (omega arith)
  two_at_most (suc n) i j l m k = two_or n i j l m k (ℕ_discrete i n) (ℕ_discrete j n) (λ x y. two_at_most n i j x y k)

-- where the others are nought it is the sum
alone : (n i : ℕ) (f : ℕ → ℤ) → i < n → ((j : ℕ) → j < n → j ≢ i → f j ≡ pos 0) → sum_below n f ≡ f i
alone n i f l none = sum_below_cong n f (λ s. one_if (eqb s i) *ℤ f s) (λ s m. at s m (ℕ_discrete s i)) ∙ sum_below_at n i f l
  where
    at : (s : ℕ) → s < n → Dec (s ≡ i) → f s ≡ one_if (eqb s i) *ℤ f s
    at s m (yes e) = subst (λ b. f s ≡ one_if b *ℤ f s) (sym (eqb_yes s i e)) (one (f s))
      where
        one : (z : ℤ) → z ≡ pos 1 *ℤ z
        one z = omega (arith, ints)
    at s m (no k) = subst (λ b. f s ≡ one_if b *ℤ f s) (sym (eqb_no s i k)) (none s m k ∙ zero_times (f s))
      where
        zero_times : (z : ℤ) → pos 0 ≡ pos 0 *ℤ z
        zero_times z = omega (arith, ints)

-- ---- the place of a table
module _ (nodes : List NodeView) (place : Place) (c : HasChanceTables nodes) (p : IsCell nodes place) where
  abbrev x : ℕ
  x = place.node

  abbrev whole : ℕ
  whole = chance_total nodes place.node

  least : (r s : ℕ) → pos 0 ≤ℤ state_weight nodes x s r
  least r s = (c.table x p.kind).not_negative (r * states_of nodes x + s)

  sum_is : sum_below (states_of nodes x) (λ s. state_weight nodes x s place.row) ≡ pos whole
  sum_is = (c.table x p.kind).row place.row p.row

  -- the weight is no more than the total
  pub weight_at_most : state_weight nodes x place.state place.row ≤ℤ pos whole
  weight_at_most = subst (λ z. state_weight nodes x place.state place.row ≤ℤ z) sum_is (one_at_most (λ s. state_weight nodes x s place.row) (least place.row) (states_of nodes x) place.state p.state)

  -- where it is all the total, the others are nought
  pub others_nought : state_weight nodes x place.state place.row ≡ pos whole → OthersWeighNought nodes x place.state place.row
  others_nought e s l k =
      let h = subst (λ z. (state_weight nodes x s place.row +ℤ state_weight nodes x place.state place.row) ≤ℤ z) sum_is (two_at_most (λ s. state_weight nodes x s place.row) (least place.row) (states_of nodes x) s place.state l p.state k) in
      nothing (state_weight nodes x s place.row) (state_weight nodes x place.state place.row) (pos whole) e h (least place.row s)
    where
      nothing : (y z w : ℤ) → z ≡ w → (y +ℤ z) ≤ℤ w → pos 0 ≤ℤ y → y ≡ pos 0
      nothing y z w e h l = omega (arith, ints)

  -- and only there
  pub all_weight : OthersWeighNought nodes x place.state place.row → state_weight nodes x place.state place.row ≡ pos whole
  all_weight none = sym (alone (states_of nodes x) place.state (λ s. state_weight nodes x s place.row) p.state none) ∙ sum_is

  pub is_place : pos 0 <ℤ others_weight nodes x place.state place.row → IsPlace nodes x place.state place.row
  is_place h = record { kind = p.kind; row_within = p.row; state_within = p.state; others = h }

  -- what the others weigh
  pub others_are : (w : ℕ) → pos w ≡ state_weight nodes x place.state place.row → w ≢ whole → (w < whole) × (pos (whole - w) ≡ others_weight nodes x place.state place.row)
  others_are w e k = plain w whole (state_weight nodes x place.state place.row) e k weight_at_most
    where
      plain : (w n : ℕ) (z : ℤ) → pos w ≡ z → w ≢ n → z ≤ℤ pos n → (w < n) × (pos (n - w) ≡ pos n -ℤ z)
      plain w n z e k l = (omega (arith, ints), minus w n z e (omega (arith, ints)))
        where
          minus : (w n : ℕ) (z : ℤ) → pos w ≡ z → w ≤ n → pos (n - w) ≡ pos n -ℤ z
          minus w n z e l = omega (arith, ints)

-- ---- one cell more
pub cells_more : (nodes : List NodeView) (place : Place) (scales : Scales) (s r : ℕ) (cells : List ℤ) (cell : ℤ) → s < states_of nodes place.node
    → cells ≡ new_cells nodes place scales (r * states_of nodes place.node + s) → cell ≡ pos (new_weight nodes place scales s r)
    → cells ++ cell ∷ [] ≡ new_cells nodes place scales (r * states_of nodes place.node + s + 1)
cells_more nodes place scales s r cells cell l e f =
    (λ i. e i ++ f i ∷ [])
    ∙ ap (λ w. new_cells nodes place scales (r * n + s) ++ pos w ∷ []) (λ i. new_weight nodes place scales (sym (mod-mul-add r n s l) i) (sym (div-mul-add r n s l) i))
    ∙ sym (map-append pos (map at (range_with_len 0 (r * n + s))) (at (r * n + s) ∷ []))
    ∙ ap (map pos) (sym (map-range_with_len_more at 0 (r * n + s) (r * n + s) (omega arith)))
  where
    n : ℕ
    n = states_of nodes place.node

    at : ℕ → ℕ
    at c = new_weight nodes place scales (c % states_of nodes place.node) (c / states_of nodes place.node)
