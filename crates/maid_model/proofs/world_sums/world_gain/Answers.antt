use Rattle.std.proofs.Common.{◌≡◌, ◌≤◌, ◌<◌, ◌*◌, ◌^◌, ℕ, ℤ, pos, nat_abs, ◌*ℤ◌, arith, ap, ◌∙◌, FitsSigned, to_z, of_z}
use Rattle.std.specs.Int.{w128}
use Rattle.std.proofs.lemmas.Int.{to_z-of_z, to_z_pos, fits_signed_mul}
use Rattle.maid_model.proofs.world_sums.world_gain.Goals as goal

-- the product has room, so its bits mean it
product_is : (w m : ℕ) (u z : ℤ) → nat_abs u ≤ m → w * m < 2 ^ 127 → w < 2 ^ 127 → FitsSigned w128 u → u ≡ z → to_z w128 (of_z w128 (to_z w128 w *ℤ to_z w128 (of_z w128 u))) ≡ pos w *ℤ z
product_is w m u z le fits lw fu is =
    ap (λ x. to_z w128 (of_z w128 (to_z w128 w *ℤ x))) (to_z-of_z w128 u fu)
    ∙ ap (λ x. to_z w128 (of_z w128 (x *ℤ u))) (to_z_pos w128 w lw)
    ∙ to_z-of_z w128 (pos w *ℤ u) (fits_signed_mul w128 (pos w) u w m (omega arith) le fits)
    ∙ ap (λ x. pos w *ℤ x) is

product_fits : (w m : ℕ) (u : ℤ) → nat_abs u ≤ m → w * m < 2 ^ 127 → w < 2 ^ 127 → FitsSigned w128 u → FitsSigned w128 (to_z w128 w *ℤ to_z w128 (of_z w128 u))
product_fits w m u le fits lw fu = rw (to_z-of_z w128 u fu, to_z_pos w128 w lw) (fits_signed_mul w128 (pos w) u w m (omega arith) le fits)

pub returns : goal.returns
returns c = product_is c.args.weight _ c.marked_utility.result _ c.marked_utility.ensures.within (omega (arith, c.requires.fits)) (omega (arith, c.requires.weight)) (record { sfits = c.marked_utility.type_inv }) c.marked_utility.ensures.sum

pub overflow_mul-result : goal.overflow_mul-result
overflow_mul-result c = product_fits c.args.weight _ c.marked_utility.result c.marked_utility.ensures.within (omega (arith, c.requires.fits)) (omega (arith, c.requires.weight)) (record { sfits = c.marked_utility.type_inv })
