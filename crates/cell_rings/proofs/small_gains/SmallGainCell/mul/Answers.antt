use Rattle.std.proofs.Common.{rules, ◌*ℤ◌, arith, ap, ◌∙◌, FitsSigned, to_z, of_z}
use Rattle.std.specs.Int.{w64}
use Rattle.std.proofs.lemmas.Int.{to_z-of_z, fits_signed_from_abs}
use Rattle.cell_rings.specs.RingLaws.{abs_mul}
use Rattle.cell_rings.specs.Kinds.{small_gain_of}
use Rattle.cell_rings.proofs.small_gains.SmallGainCell.mul.Goals as goal

fits : (c : goal.After-struct_told-2-1) → FitsSigned w64 (c.args.self.0 *ℤ c.args.other.0)
fits c = fits_signed_from_abs w64 _ (omega (arith, c.requires, abs_mul c.args.self.0 c.args.other.0))

pub overflow_mul-result : goal.overflow_mul-result
overflow_mul-result c =
    let fa : FitsSigned w64 c.args.self.0 = search rules in
    let fb : FitsSigned w64 c.args.other.0 = search rules in
    rw (to_z-of_z w64 c.args.self.0 fa, to_z-of_z w64 c.args.other.0 fb) (fits c)

pub returns : goal.returns
returns c =
    let fa : FitsSigned w64 c.args.self.0 = search rules in
    let fb : FitsSigned w64 c.args.other.0 = search rules in
    ap (λ z. small_gain_of (to_z w64 (of_z w64 z))) (λ i. to_z-of_z w64 c.args.self.0 fa i *ℤ to_z-of_z w64 c.args.other.0 fb i)
    ∙ ap small_gain_of (to_z-of_z w64 (c.args.self.0 *ℤ c.args.other.0) (fits c))
