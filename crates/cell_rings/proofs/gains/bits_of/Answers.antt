use Rattle.std.proofs.Common.{rules, nat_abs, ap, ◌∙◌, FitsSigned}
use Rattle.std.specs.Int.{w128}
use Rattle.std.proofs.lemmas.Int.{to_z-of_z}
use Rattle.cell_rings.proofs.gains.bits_of.Goals as goal

pub returns : goal.returns
returns c =
    let fits : FitsSigned w128 c.args.a.0 = search rules in
    c.unsigned_abs.ensures.value ∙ ap nat_abs (to_z-of_z w128 c.args.a.0 fits)
