use Rattle.std.proofs.Common.{◌≡◌, ◌⊎◌, inl, inr, ⊎_elim, ◌%◌, ◌∙◌, arith, refl}
use Rattle.std.proofs.Math.Nat.{pos_of_ne-zero}
use Rattle.whole_num.proofs.Orders.{whole_parts_decide, turned_rests_decide, nought_rest_decides}
use Rattle.whole_num.proofs.comparing.compare_parts.Goals as goal

pub parts-init : goal.parts-init
parts-init c = (c.requires.b_positive, c.requires.d_positive, refl)

pub nonzero_div-whole : goal.nonzero_div-whole
nonzero_div-whole c = omega (arith, c.parts.invariant.0)

pub nonzero_div-other : goal.nonzero_div-other
nonzero_div-other c = omega (arith, c.parts.invariant.1)

pub returns-then-whole-other : goal.returns-then-whole-other
returns-then-whole-other c =
    let is = c.parts.invariant in
    c.cmp.ensures ∙ whole_parts_decide _ _ _ _ is.0 is.1 c.if-whole-other.true ∙ is.2

pub nonzero_rem-rest : goal.nonzero_rem-rest
nonzero_rem-rest c = omega (arith, c.parts.invariant.0)

pub nonzero_rem-beyond : goal.nonzero_rem-beyond
nonzero_rem-beyond c = omega (arith, c.parts.invariant.1)

pub returns-then-rest-eq0 : goal.returns-then-rest-eq0
returns-then-rest-eq0 c =
    let is = c.parts.invariant in
    let nought : (c.parts.a % c.parts.b ≡ 0) ⊎ (c.parts.c % c.parts.d ≡ 0) = ⊎_elim (λ e. inl e) (λ e. inr e.1) c.then-rest-eq0.either in
    c.cmp-then-rest-eq0.ensures ∙ nought_rest_decides _ _ _ _ is.0 is.1 c.if-whole-other.false nought ∙ is.2

pub parts-smaller : goal.parts-smaller
parts-smaller c =
    let is = c.parts.invariant in
    omega (arith, is.0, is.1)

pub parts-preserved : goal.parts-preserved
parts-preserved c =
    let is = c.parts.invariant in (
      pos_of_ne-zero c.if-beyond-eq0.false,
      pos_of_ne-zero c.if-rest-eq0.false,
      turned_rests_decide _ _ _ _ is.0 is.1 c.if-whole-other.false ∙ is.2,
    )
