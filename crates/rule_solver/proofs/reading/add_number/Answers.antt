-- The room holds the product, the gain and their sum.
use Rattle.std.proofs.Common.{◌≡◌, ◌∙◌, ◌+◌, ◌≤◌, ◌+ℤ◌, ◌*ℤ◌, ℕ, ℤ, pos, negsuc, FitsSigned, to_z, of_z, get_or, set, ap, sym, subst, arith}
use Rattle.std.specs.Int.{w128}
use Rattle.std.specs.Prelude.{nat_abs}
use Rattle.std.proofs.lemmas.Int.{ints, to_z-of_z}
use Rattle.maid_model.specs.Diagrams.{greatest_number}
use Rattle.rule_solver.proofs.reading.add_number.Goals as goal

-- what is within the greatest number fits
fits_by : (z : ℤ) → nat_abs z ≤ greatest_number → FitsSigned w128 z
fits_by (pos n) h = record { sfits = omega (arith, h) }
fits_by (negsuc n) h = record { sfits = omega (arith, h) }

factor_is : (factor : ℕ) → factor ≤ greatest_number → to_z w128 factor ≡ pos factor
factor_is factor h = omega (arith, ints, h)

product_fits : (number : ℤ) (factor : ℕ) → FitsSigned w128 number → factor ≤ greatest_number → nat_abs (number *ℤ pos factor) ≤ greatest_number → FitsSigned w128 (to_z w128 (of_z w128 number) *ℤ to_z w128 factor)
product_fits number factor fits small room =
    let same : to_z w128 (of_z w128 number) *ℤ to_z w128 factor ≡ number *ℤ pos factor = (λ i. to_z-of_z w128 number fits i *ℤ factor_is factor small i) in
    subst (FitsSigned w128) (sym same) (fits_by (number *ℤ pos factor) room)

-- so the sum is that of the numbers
sum_is : (gain number : ℤ) (factor : ℕ) → FitsSigned w128 number → factor ≤ greatest_number → nat_abs gain + nat_abs (number *ℤ pos factor) ≤ greatest_number
    → to_z w128 (of_z w128 gain) +ℤ to_z w128 (of_z w128 (to_z w128 (of_z w128 number) *ℤ to_z w128 factor)) ≡ gain +ℤ (number *ℤ pos factor)
sum_is gain number factor fits small room =
    let one : nat_abs gain ≤ greatest_number = omega (arith, room) in
    let other : nat_abs (number *ℤ pos factor) ≤ greatest_number = omega (arith, room) in
    λ i. to_z-of_z w128 gain (fits_by gain one) i +ℤ (to_z-of_z w128 (to_z w128 (of_z w128 number) *ℤ to_z w128 factor) (product_fits number factor fits small other) ∙ (λ j. to_z-of_z w128 number fits j *ℤ factor_is factor small j)) i

sum_fits : (gain number : ℤ) (factor : ℕ) → FitsSigned w128 number → factor ≤ greatest_number → nat_abs gain + nat_abs (number *ℤ pos factor) ≤ greatest_number
    → FitsSigned w128 (to_z w128 (of_z w128 gain) +ℤ to_z w128 (of_z w128 (to_z w128 (of_z w128 number) *ℤ to_z w128 factor)))
sum_fits gain number factor fits small room =
    subst (FitsSigned w128) (sym (sum_is gain number factor fits small room)) (fits_by (gain +ℤ (number *ℤ pos factor)) (within gain (number *ℤ pos factor) room))
  where
    within : (a b : ℤ) → nat_abs a + nat_abs b ≤ greatest_number → nat_abs (a +ℤ b) ≤ greatest_number
    within a b h = omega (arith, ints, h)

pub overflow_cast-gains : goal.overflow_cast-gains
overflow_cast-gains c = omega (arith, c.requires.factor)

pub overflow_mul-gains : goal.overflow_mul-gains
overflow_mul-gains c = product_fits c.args.number c.args.factor c.ranges.number c.requires.factor (omega (arith, c.requires.room))

pub overflow_add-gains : goal.overflow_add-gains
overflow_add-gains c = sum_fits (get_or c.args.gains.now c.args.at (pos 0)) c.args.number c.args.factor c.ranges.number c.requires.factor c.requires.room

pub returns : goal.returns
returns c =
    let gain = get_or c.args.gains.now c.args.at (pos 0) in
    ap (λ z. set c.args.gains.now c.args.at z) (to_z-of_z w128 _ (sum_fits gain c.args.number c.args.factor c.ranges.number c.requires.factor c.requires.room) ∙ sum_is gain c.args.number c.args.factor c.ranges.number c.requires.factor c.requires.room)
