-- Walks whose axes are counted: no axis, one or two, and what a walk over a list says of the walk
-- over an equal one.
use Rattle.std.proofs.Common.{◌≡◌, ◌≢◌, ◌==◌, cond, ℕ, ◌+◌, ◌*◌, ◌<◌, ◌≤◌, true, false, List, [], ◌∷◌, length, drop, get_or, refl, sym, ap, subst, ◌∙◌, arith}
use Rattle.std.proofs.lemmas.Bool.{false≢true}
use Rattle.std.proofs.lemmas.Bool.Decides.{nat_tests}
use Rattle.std.proofs.lemmas.List.{length-drop}
use Rattle.cell_rings.specs.Rings.{Ring, mass_ring}
use Rattle.cell_rings.specs.Sums.{cell_at, product_at, sizes_of, AddsCells}
use Rattle.cell_rings.proofs.Runs.{chosen}
use Rattle.factor_core.specs.Walks.{IsMet, CanWalk, AddsTotal}
use Rattle.factor_core.specs.declared.walks.Axis.{Axis}
use Rattle.factor_core.proofs.Walking.{first_of, split}

-- the test for emptiness
is_none : (n : ℕ) → true ≡ (n == 0) → n ≡ 0
is_none n h = grind (arith, nat_tests)

pub no_axis : (axes : List Axis) → true ≡ (length axes == 0) → axes ≡ []
no_axis [] h = refl
no_axis (a ∷ axes) h = absurd (let none = is_none (length (a ∷ axes)) h in omega arith)

pub some_axis : (axes : List Axis) → false ≡ (length axes == 0) → 0 < length axes
some_axis [] h = absurd (false≢true h)
some_axis (a ∷ axes) h = omega arith

-- the first axis and the rest
pub first_and_rest : (axes rest : List Axis) → 0 < length axes → rest ≡ drop 1 axes → axes ≡ first_of axes ∷ rest
first_and_rest axes rest some e =
    split axes (record { states = 0; out = 0 }) some ∙ ap (λ l. first_of axes ∷ l) (sym e)

pub rest_shorter : (axes rest : List Axis) → 0 < length axes → rest ≡ drop 1 axes → length rest < length axes
rest_shorter axes rest some e = omega (arith, ap length e, length-drop 1 axes)

pub one_axis : (axes : List Axis) → length axes ≡ 1 → axes ≡ first_of axes ∷ []
one_axis [] e = absurd (omega arith)
one_axis (a ∷ []) e = refl
one_axis (a ∷ b ∷ axes) e = absurd (omega arith)

-- a list of more than k axes has a first
pub more_than : (axes : List Axis) (k : ℕ) → k < length axes → 0 < length axes
more_than axes k h = omega (arith, h)

-- how many axes there are where the fewer have been tried
pub one_left : (axes : List Axis) → false ≡ (length axes == 0) → length axes < 2 → length axes ≡ 1
one_left axes some most = omega (arith, some_axis axes some, most)

pub two_left : (axes : List Axis) → false ≡ (length axes == 0) → length axes ≢ 1 → length axes < 3 → length axes ≡ 2
two_left [] some more most = absurd (false≢true some)
two_left (a ∷ []) some more most = absurd (more refl)
two_left (a ∷ b ∷ []) some more most = refl
two_left (a ∷ b ∷ c ∷ axes) some more most = absurd (omega (arith, most))

-- the second and the third axis of a list
abbrev pub second_of : List Axis → Axis
second_of axes = get_or axes 1 (record { states = 0; out = 0 })

pub two_axes : (axes : List Axis) → length axes ≡ 2 → axes ≡ first_of axes ∷ (second_of axes ∷ [])
two_axes [] e = absurd (omega arith)
two_axes (a ∷ []) e = absurd (omega arith)
two_axes (a ∷ b ∷ []) e = refl
two_axes (a ∷ b ∷ c ∷ axes) e = absurd (omega arith)

-- below the first of two rows of strides there is a row
pub row_below : (strides below : List ℕ) (n k : ℕ) → below ≡ drop n strides → length strides ≡ k * n → k ≡ 2 → n ≤ length below
row_below strides below n k b count two =
    let len = ap length b ∙ length-drop n strides in
    let rows : length strides ≡ 2 * n = subst (λ k. length strides ≡ k * n) two count in
    omega (arith, len)

module _ {C : Type 0} {r : Ring C} {cells : List C} {axes list : List Axis} {strides places : List ℕ} {out : List C} {at : ℕ} (can : CanWalk r cells axes strides places out at) (e : axes ≡ list) where
  pub can_as : CanWalk r cells list strides places out at
  can_as = subst (λ l. CanWalk r cells l strides places out at) e can

  pub adds_as : {new : List C} → AddsTotal r cells list strides places at out new → AddsTotal r cells axes strides places at out new
  adds_as {new} adds = subst (λ l. AddsTotal r cells l strides places at out new) (sym e) adds

-- what is added at one place, said in another way
pub adds_same : {C : Type 0} {r : Ring C} (at : ℕ) {old new : List C} {x y : C} → x ≡ y → AddsCells r (λ p. cond (p == at) x r.nought) old new → AddsCells r (λ p. cond (p == at) y r.nought) old new
adds_same {r = r} at {old} {new} e adds = subst (λ z. AddsCells r (λ p. cond (p == at) z r.nought) old new) e adds

-- the walk over no axis: one product at one place
module _ {C : Type 0} {r : Ring C} {cells : List C} {axes : List Axis} {strides places : List ℕ} {out : List C} {at : ℕ} (can : CanWalk r cells axes strides places out at) (e : axes ≡ []) where
  pub met_here : IsMet r cells (length out) places at
  met_here = (can_as can e).met

  pub room_here : {x : C} → r.size x ≤ product_at mass_ring (sizes_of r cells) places → r.size (cell_at r out at) + r.size x ≤ r.most
  room_here le =
      let room = (can_as can e).room.each at in
      omega (arith, room, chosen at at (product_at mass_ring (sizes_of r cells) places) 0 refl)

  pub adds_here : {new : List C} {x : C} → x ≡ product_at r cells places → AddsCells r (λ p. cond (p == at) x r.nought) out new → AddsTotal r cells axes strides places at out new
  adds_here is adds = adds_as can e (adds_same at is adds)
