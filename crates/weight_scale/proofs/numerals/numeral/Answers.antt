use Rattle.std.proofs.Common.{refl, rules, FitsSigned}
use Rattle.std.specs.Int.{w128}
use Rattle.std.proofs.lemmas.Int.{to_z-of_z}
use Rattle.weight_scale.proofs.Few.{whole_decimal}
use Rattle.weight_scale.proofs.numerals.numeral.Goals as goal

pub returns-in-Some-clause-some : goal.returns-in-Some-clause-some
returns-in-Some-clause-some c =
    let fits : FitsSigned w128 c.from.result = search rules in
    whole_decimal c.args.text.now c.in-Some.ensures.0.1 c.in-Some.size c.in-Some.ensures.1 _ (simp to_z-of_z c.from.ensures) refl
