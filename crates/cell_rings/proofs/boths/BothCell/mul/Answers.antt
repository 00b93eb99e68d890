use Rattle.std.proofs.Common.{rules, ◌≡◌, ◌*◌, pos, nat_abs, ◌+ℤ◌, ◌*ℤ◌, arith, ap, ◌∙◌, FitsSigned, to_z, of_z}
use Rattle.std.specs.Int.{w128}
use Rattle.std.proofs.lemmas.Int.{to_z-of_z, fits_signed_from_abs}
use Rattle.finite_sums.proofs.Ints.{mul_comm}
use Rattle.cell_rings.specs.RingLaws.{abs_add, abs_mul}
use Rattle.cell_rings.specs.Kinds.{both_of}
use Rattle.cell_rings.proofs.boths.BothCell.mul.Goals as goal

first_is : (c : goal.After-scaled-2) → c.scaled.result ≡ pos c.args.self.m *ℤ c.args.other.g
first_is c =
    let fits : FitsSigned w128 c.args.other.g = search rules in
    c.scaled.ensures ∙ ap (λ z. pos c.args.self.m *ℤ z) (to_z-of_z w128 c.args.other.g fits)

second_is : (c : goal.After-scaled-2) → c.scaled-2.result ≡ c.args.self.g *ℤ pos c.args.other.m
second_is c =
    let fits : FitsSigned w128 c.args.self.g = search rules in
    c.scaled-2.ensures
    ∙ ap (λ z. pos c.args.other.m *ℤ z) (to_z-of_z w128 c.args.self.g fits)
    ∙ mul_comm (pos c.args.other.m) c.args.self.g

sum_fits : (c : goal.After-scaled-2) → FitsSigned w128 (c.scaled.result +ℤ c.scaled-2.result)
sum_fits c =
    let first = ap nat_abs (first_is c) ∙ abs_mul (pos c.args.self.m) c.args.other.g in
    let second = ap nat_abs (second_is c) ∙ abs_mul c.args.self.g (pos c.args.other.m) in
    fits_signed_from_abs w128 _ (omega (arith, c.requires, abs_add c.scaled.result c.scaled-2.result, first, second))

pub overflow_mul-result : goal.overflow_mul-result
overflow_mul-result c = record { fits = omega (arith, c.requires) }

pub scaled-requires : goal.scaled-requires
scaled-requires c =
    let fits : FitsSigned w128 c.args.other.g = search rules in
    rw (to_z-of_z w128 c.args.other.g fits) (omega (arith, c.requires))

pub scaled-requires-2 : goal.scaled-requires-2
scaled-requires-2 c =
    let fits : FitsSigned w128 c.args.self.g = search rules in
    rw (to_z-of_z w128 c.args.self.g fits) (omega (arith, c.requires))

pub overflow_add-result : goal.overflow_add-result
overflow_add-result c =
    let fa : FitsSigned w128 c.scaled.result = search rules in
    let fb : FitsSigned w128 c.scaled-2.result = search rules in
    rw (to_z-of_z w128 c.scaled.result fa, to_z-of_z w128 c.scaled-2.result fb) (sum_fits c)

pub returns : goal.returns
returns c =
    let fa : FitsSigned w128 c.scaled.result = search rules in
    let fb : FitsSigned w128 c.scaled-2.result = search rules in
    ap (both_of (c.args.self.m * c.args.other.m))
    (ap (λ z. to_z w128 (of_z w128 (z +ℤ to_z w128 (of_z w128 c.scaled-2.result)))) (to_z-of_z w128 c.scaled.result fa)
    ∙ ap (λ z. to_z w128 (of_z w128 (c.scaled.result +ℤ z))) (to_z-of_z w128 c.scaled-2.result fb)
    ∙ to_z-of_z w128 (c.scaled.result +ℤ c.scaled-2.result) (sum_fits c)
    ∙ cc (first_is c, second_is c))
