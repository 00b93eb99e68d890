use Rattle.std.proofs.Common.{arith, refl, rules, FitsSigned}
use Rattle.std.specs.Int.{w128}
use Rattle.std.proofs.lemmas.Int.{to_z-of_z}
use Rattle.weight_scale.proofs.Tens.{all_decimals, size_kept}
use Rattle.weight_scale.proofs.numerals.with_decimals.Goals as goal

pub returns-then-decimals-gt-MOST_DECIMALS-clause-none : goal.returns-then-decimals-gt-MOST_DECIMALS-clause-none
returns-then-decimals-gt-MOST_DECIMALS-clause-none c = λ d is. omega (arith, all_decimals c.args.minus c.args.size c.args.decimals d c.requires.last is, d.few, c.if-decimals-gt-MOST_DECIMALS.true)

pub returns-clause-some : goal.returns-clause-some
returns-clause-some c =
    let fits : FitsSigned w128 c.signed.result = search rules in
    size_kept c.args.minus c.args.size c.args.decimals _ c.requires.last (simp to_z-of_z c.signed.ensures) refl
