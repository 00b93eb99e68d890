use Rattle.std.proofs.Common.{rules, arith, refl, sym, ◌≡◌, ◌<◌, ◌^◌, pos, FitsSigned, to_z, of_z}
use Rattle.std.specs.Int.{w128}
use Rattle.std.proofs.lemmas.Int.{to_z-of_z}
use Rattle.weight_scale.specs.declared.decimal.Decimal.{Decimal}
use Rattle.weight_scale.proofs.Few.{whole_decimal}
use Rattle.weight_scale.proofs.numerals.whole_numeral.Goals as goal

pub returns-clause-decimal : goal.returns-clause-decimal
returns-clause-decimal c =
    let number = c.in_ok-number.number in
    let fits : FitsSigned w128 c.from.result = search rules in
    let m : to_z w128 (of_z w128 c.from.result) ≡ pos number = simp to_z-of_z c.from.ensures in
    let below : number < 2 ^ 64 = search rules in
    let d : Decimal = record { m = pos number; k = 0; small = omega (arith, below); few = omega arith } in
    (d, whole_decimal c.args.text.now c.in_ok-number.ensures.0.1 number c.in_ok-number.ensures.1 d refl refl, sym m, refl)
