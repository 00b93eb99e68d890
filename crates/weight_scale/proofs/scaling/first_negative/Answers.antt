use Rattle.std.proofs.Common.{rules, arith, below_more, pos, sym, ap, ◌∙◌, subst, ℤ, ◌≡◌, ◌≤ℤ◌, false, int_lt, FitsSigned}
use Rattle.std.specs.Int.{w128}
use Rattle.std.proofs.lemmas.Int.{ints, to_z-of_z}
use Rattle.std.proofs.lemmas.List.{get_or-map}
use Rattle.weight_scale.proofs.scaling.first_negative.Goals as goal

from_below : (z : ℤ) → int_lt z (pos 0) ≡ false → pos 0 ≤ℤ z
from_below z e = grind (arith, ints)

pub loop-place-preserved : goal.loop-place-preserved
loop-place-preserved c =
    let fits : FitsSigned w128 c.index-rows-place.result.m = search rules in
    let not_below = simp to_z-of_z at c.if-number-lt0.false in
    below_more _ _ c.loop-place.invariant
    (subst (λ z. pos 0 ≤ℤ z) (ap (λ d. d.m) c.index-rows-place.is ∙ sym (get_or-map (λ d. d.m) c.args.rows.now c.loop-place.place c.index-rows-place.result (pos 0) c.loop-place-test.true))
    (from_below c.index-rows-place.result.m not_below))
