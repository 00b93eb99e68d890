use Rattle.std.proofs.Common.{rules, ◌≡◌, ap, subst, FitsSigned, of_z, eqb-true, eq-eqb}
use Rattle.std.proofs.lemmas.Int.{to_z-of_z}
use Rattle.std.specs.Int.{w128}
use Rattle.whole_num.specs.Fractions.{IsSameFraction}
use Rattle.tree_checker.proofs.FractionTold.{told, tells, signed_same}
use Rattle.tree_checker.proofs.rows.is_fraction.Goals as goal

pub returns-then-ratio-num : goal.returns-then-ratio-num
returns-then-ratio-num c =
    let fits : FitsSigned w128 c.reduce-num.result.0 = search rules in
    let own : FitsSigned w128 c.args.ratio.num = search rules in
    let given : FitsSigned w128 c.args.num = c.ranges.num in
    let same : IsSameFraction c.args.num c.args.den c.reduce-num.result.0 c.reduce-num.result.1 = subst (λ n. IsSameFraction n c.args.den c.reduce-num.result.0 c.reduce-num.result.1) (to_z-of_z w128 c.args.num given) c.reduce-num.ensures.same in
    let num : c.args.ratio.num ≡ c.reduce-num.result.0 = signed_same c.args.ratio.num c.reduce-num.result.0 own fits c.if-ratio-num.true in (
      λ t. told c.args.ratio c.args.num c.reduce-num.result.0 c.args.den c.reduce-num.result.1 c.requires.den same c.reduce-num.ensures.reduced c.requires.reduced num (eqb-true c.args.ratio.den c.reduce-num.result.1 t),
      λ f. eq-eqb c.args.ratio.den c.reduce-num.result.1 (tells c.args.ratio c.args.num c.reduce-num.result.0 c.args.den c.reduce-num.result.1 c.requires.den same c.reduce-num.ensures.reduced f).1,
    )

pub returns-else-ratio-num : goal.returns-else-ratio-num
returns-else-ratio-num c =
    let given : FitsSigned w128 c.args.num = c.ranges.num in
    let same : IsSameFraction c.args.num c.args.den c.reduce-num.result.0 c.reduce-num.result.1 = subst (λ n. IsSameFraction n c.args.den c.reduce-num.result.0 c.reduce-num.result.1) (to_z-of_z w128 c.args.num given) c.reduce-num.ensures.same in (
      λ t. absurd (c.if-ratio-num.false (eqb-true (of_z w128 c.args.ratio.num) (of_z w128 c.reduce-num.result.0) t)),
      λ f. absurd (c.if-ratio-num.false (ap (of_z w128) (tells c.args.ratio c.args.num c.reduce-num.result.0 c.args.den c.reduce-num.result.1 c.requires.den same c.reduce-num.ensures.reduced f).0)),
    )
