-- Cells that stand in the order of a list of nodes.
use Rattle.std.proofs.Common.{◌≡◌, ◌∙◌, ◌↔◌, ℕ, zero, suc, ◌+◌, ◌*◌, ◌<◌, ◌≤◌, Bool, true, false, cond, ◌||◌, ◌==◌, List, [], ◌∷◌, ◌++◌, drop, refl, sym, ap, arith, Contains, inl, inr}
use Rattle.std.proofs.Math.Nat.{mul-le-mul_right}
use Rattle.std.proofs.lemmas.Bool.{cases_eq}
use Rattle.std.proofs.lemmas.Bool.Decides.{nat_tests}
use Rattle.finite_sums.specs.Sums.{World}
use Rattle.finite_sums.specs.Members.{Among}
use Rattle.maid_laws.proofs.Members.{among_of, contains_of}
use Rattle.maid_model.specs.Nodes.{rows_under}
use Rattle.maid_model.specs.Tables.{row_from}
use Rattle.plan_sums.specs.Plans.{has}
use Rattle.cell_rings.proofs.Runs.{chosen, not_chosen}
use Rattle.factor_core.specs.Copies.{list_stride}
use Rattle.factor_core.specs.Tables.{out_place}
use Rattle.factor_core.proofs.Collapse.{IsNoneOf, AllOnce, none_first, none_rest}
use Rattle.factor_core.proofs.Counts.{row_from_split}

-- ---- membership
test_yes : (x v : ℕ) → v ≡ x → (x == v) ≡ true
test_yes x v e = grind (arith, nat_tests)

test_no : (x v : ℕ) → (v ≡ x → ⊥) → (x == v) ≡ false
test_no x v e = grind (arith, nat_tests)

has_among : (vs : List ℕ) (v : ℕ) → has vs v ≡ true → Among v vs
has_among [] v e = absurd (let no : false ≡ true = e in cc)
has_among (x ∷ xs) v e =
    elim (cases_eq v x) [
      | inl same ↦ inl same
      | inr ne ↦ inr (has_among xs v (sym (ap (λ b. b || has xs v) (test_no x v ne)) ∙ e))
    ]

among_has : (vs : List ℕ) (v : ℕ) → Among v vs → has vs v ≡ true
among_has [] v m = absurd m
among_has (x ∷ xs) v (inl e) = ap (λ b. b || has xs v) (test_yes x v e)
among_has (x ∷ xs) v (inr m) = ap (λ b. (x == v) || b) (among_has xs v m) ∙ or_true (x == v)
  where
    or_true : (b : Bool) → (b || true) ≡ true
    or_true true = refl
    or_true false = refl

pub has_is : (vs : List ℕ) (v : ℕ) → Contains vs v ↔ (has vs v ≡ true)
has_is vs v = ((λ m. among_has vs v (among_of v vs m)), (λ t. contains_of v vs (has_among vs v t)))

-- ---- strides
module _ (count : ℕ → ℕ) (some : (v : ℕ) → 0 < count v) where
  grows : (v : ℕ) (n : ℕ) → n ≤ count v * n
  grows v n = let step : 1 * n ≤ count v * n = mul-le-mul_right n (some v) in omega arith

  pub rows_drop : (i : ℕ) (vs : List ℕ) → rows_under count (drop i vs) ≤ rows_under count vs
  rows_drop zero vs = omega arith
  rows_drop (suc i) [] = omega arith
  rows_drop (suc i) (v ∷ vs) = let rest = rows_drop i vs in let more = grows v (rows_under count vs) in omega arith

  pub stride_le : (vs : List ℕ) (u : ℕ) → list_stride count vs u ≤ rows_under count vs
  stride_le [] u = omega arith
  stride_le (x ∷ xs) u = go (x == u) (stride_le xs u) (grows x (rows_under count xs))
    where
      go : (b : Bool) → list_stride count xs u ≤ rows_under count xs → rows_under count xs ≤ count x * rows_under count xs → cond b (rows_under count xs) (list_stride count xs u) ≤ count x * rows_under count xs
      go true h k = k
      go false h k = omega arith

-- the strides of the list add up to the row that the world picks
out_same : (f g : ℕ → ℕ) (v : ℕ) (vs : List ℕ) (w : World) → IsNoneOf v vs → ((u : ℕ) → (u ≡ v → ⊥) → f u ≡ g u) → out_place f vs w ≡ out_place g vs w
out_same f g v [] w none same = refl
out_same f g v (u ∷ vs) w none same =
    let here = ap (λ k. w u * k) (same u (none_first v u vs none)) in
    omega (arith, here, out_same f g v vs w (none_rest v u vs none) same)

pub list_place : (count : ℕ → ℕ) (vs : List ℕ) (w : World) → AllOnce vs → out_place (list_stride count vs) vs w ≡ row_from count w 0 vs
list_place count [] w once = refl
list_place count (v ∷ vs) w once =
    let mine = ap (λ k. w v * k) (chosen v v (rows_under count vs) (list_stride count vs v) refl) in
    let rest = out_same (list_stride count (v ∷ vs)) (list_stride count vs) v vs w once.0 (λ u ne. not_chosen v u (rows_under count vs) (list_stride count vs u) (λ e. ne (sym e))) in
    let below = list_place count vs w once.1 in
    let whole = row_from_split count w (0 * count v + w v) vs in
    together (w v) (count v) (rows_under count vs) (list_stride count (v ∷ vs) v) (out_place (list_stride count (v ∷ vs)) vs w) (out_place (list_stride count vs) vs w) (row_from count w 0 vs) (row_from count w (0 * count v + w v) vs) mine rest below whole
  where
    together : (s c m k a b q z : ℕ) → s * k ≡ s * m → a ≡ b → b ≡ q → z ≡ (0 * c + s) * m + q → s * k + a ≡ z
    together s c m k a b q z e f g h = omega arith

-- ---- a node behind the others
pub row_behind : (count : ℕ → ℕ) (w : World) (r : ℕ) (us : List ℕ) (v : ℕ) → row_from count w r (us ++ v ∷ []) ≡ row_from count w r us * count v + w v
row_behind count w r [] v = refl
row_behind count w r (u ∷ us) v = row_behind count w (r * count u + w u) us v

pub rows_behind : (count : ℕ → ℕ) (us : List ℕ) (v : ℕ) → rows_under count (us ++ v ∷ []) ≡ rows_under count us * count v
rows_behind count [] v = omega arith
rows_behind count (u ∷ us) v = let rest = rows_behind count us v in ap (λ k. count u * k) rest ∙ regroup (count u) (rows_under count us) (count v)
  where
    regroup : (a b c : ℕ) → a * (b * c) ≡ a * b * c
    regroup a b c = omega arith

pub has_behind : (us : List ℕ) (v u : ℕ) → has (us ++ v ∷ []) u ≡ ((v == u) || has us u)
has_behind [] v u = refl
has_behind (x ∷ xs) v u = ap (λ b. (x == u) || b) (has_behind xs v u) ∙ swap (x == u) (v == u) (has xs u)
  where
    swap : (a b c : Bool) → (a || (b || c)) ≡ (b || (a || c))
    swap true true c = refl
    swap true false c = refl
    swap false true c = refl
    swap false false c = refl
