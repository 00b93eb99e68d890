-- A run of neighbouring cells to which something is added, one cell after another.
use Rattle.std.proofs.Common.{◌≡◌, ℕ, suc, ◌+◌, ◌*◌, ◌<◌, ◌≤◌, List, length, refl, sym, ap, subst, ◌∙◌, arith, set, cond, Bool, true, false, ◌==◌, inl, inr}
use Rattle.std.proofs.lemmas.List.{get_or-set_same, get_or-set_other}
use Rattle.std.proofs.lemmas.Bool.Decides.{nat_tests}
use Rattle.std.proofs.lemmas.Bool.{cases_eq}
use Rattle.cell_rings.specs.Rings.{Ring, IsRing, IsSize, mass_ring}
use Rattle.cell_rings.specs.Sums.{cell_at, run_sum, AddsCells, HasRoom}
use Rattle.cell_rings.proofs.Adding.{adds_then, room_for_next}

-- a choice at a place that is the one, or another
pub chosen : {C : Type 0} (p k : ℕ) (x y : C) → p ≡ k → cond (p == k) x y ≡ x
chosen p k x y e = grind (arith, nat_tests)

pub not_chosen : {C : Type 0} (p k : ℕ) (x y : C) → (p ≡ k → ⊥) → cond (p == k) x y ≡ y
not_chosen p k x y e = grind (arith, nat_tests)

-- a sum of what two cells are
pub sum_is : {C : Type 0} (r : Ring C) {s a b x y : C} → s ≡ r.plus a b → a ≡ x → b ≡ y → s ≡ r.plus x y
sum_is r e f g = cc

module _ {C : Type 0} {r : Ring C} (laws : IsRing r) (sizes : IsSize r r.size) where
  -- a cell written with c added to it
  pub put_adds : (xs : List C) (k : ℕ) (y c : C) → k < length xs → y ≡ r.plus (cell_at r xs k) c → AddsCells r (λ p. cond (p == k) c r.nought) xs (set xs k y)
  put_adds xs k y c h e = record {
    each = λ p.
        elim (cases_eq p k) [
          | inl same ↦
              ap (λ q. cell_at r (set xs k y) q) same ∙ get_or-set_same xs k y r.nought h ∙ e
              ∙ ap (λ q. r.plus (cell_at r xs q) c) (sym same)
              ∙ ap (r.plus (cell_at r xs p)) (sym (chosen p k c r.nought same))
          | inr other ↦
              get_or-set_other xs k p y r.nought other
              ∙ sym (laws.plus_nought (cell_at r xs p))
              ∙ ap (r.plus (cell_at r xs p)) (sym (not_chosen p k c r.nought other))
        ];
  }

  -- a cell that is left out where a test fails
  pub size_if : (b : Bool) (x : C) (n : ℕ) → r.size x ≤ n → r.size (cond b x r.nought) ≤ cond b n 0
  size_if true x n h = h
  size_if false x n h = omega (arith, sizes.nought)

  -- room for the next cell of the run
  pub run_room : (n at : ℕ) (f : ℕ → C) (g : ℕ → ℕ) → ((i : ℕ) → r.size (f i) ≤ g i) → {xs now : List C} → HasRoom r xs (run_sum mass_ring n at g) → (i : ℕ) → i < n → AddsCells r (run_sum r i at f) xs now → r.size (cell_at r now (at + i)) + g i ≤ r.most
  run_room n at f g le {xs} {now} room i h adds =
      let next : HasRoom r now (λ p. cond (p == at + i) (g i) 0) = room_for_next laws sizes n i (λ i p. cond (p == at + i) (f i) r.nought) (λ i p. cond (p == at + i) (g i) 0) xs now h (λ i p. size_if (p == at + i) (f i) (g i) (le i)) room adds in
      omega (arith, next.each (at + i), chosen (at + i) (at + i) (g i) 0 refl)

  -- the next cell of the run
  pub run_step : (at : ℕ) (f : ℕ → C) (i : ℕ) → {xs now : List C} {y : C} → at + i < length now → y ≡ r.plus (cell_at r now (at + i)) (f i) → AddsCells r (run_sum r i at f) xs now → AddsCells r (run_sum r (i + 1) at f) xs (set now (at + i) y)
  run_step at f i {xs} {now} {y} h e adds =
      let both = adds_then laws sizes (run_sum r i at f) (λ p. cond (p == at + i) (f i) r.nought) xs now (set now (at + i) y) adds (put_adds now (at + i) y (f i) h e) in
      subst (λ k. AddsCells r (run_sum r k at f) xs (set now (at + i) y)) (let one : suc i ≡ i + 1 = omega arith in one) both

  -- two products added fit where their sizes do
  pub two_le : (a b x y : C) → r.size (r.plus (r.times a x) (r.times b y)) ≤ r.size a * r.size x + r.size b * r.size y
  two_le a b x y = omega (arith, sizes.plus (r.times a x) (r.times b y), sizes.times a x, sizes.times b y)
