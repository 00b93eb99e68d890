use Rattle.std.proofs.Common.{rules, ap, ◌∙◌, FitsSigned, of_z}
use Rattle.std.specs.Int.{w64}
use Rattle.std.proofs.lemmas.Int.{to_z-of_z}
use Rattle.cell_rings.proofs.small_gains.bits_of.Goals as goal

pub returns : goal.returns
returns c =
    let fits : FitsSigned w64 c.args.a.0 = search rules in
    c.cast_unsigned.ensures ∙ ap (of_z w64) (to_z-of_z w64 c.args.a.0 fits)
