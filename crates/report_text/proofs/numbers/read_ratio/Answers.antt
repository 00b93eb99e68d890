use Rattle.std.proofs.Common.{◌≡◌, ◌<◌, ◌^◌, ◌∙◌, sym, rules, subst}
use Rattle.std.specs.Prelude.{FitsSigned}
use Rattle.std.specs.Int.{w128}
use Rattle.std.proofs.lemmas.Int.{to_z-of_z}
use Rattle.maid_model.specs.declared.answers.Ratio.{Ratio}
use Rattle.maid_model.specs.Answers.{IsReduced}
use Rattle.report_text.proofs.Digits.{signed_one, signed_within}
use Rattle.report_text.proofs.Fractions.{none_of, ratio_parts, den_one, same_ratio, not_true}
use Rattle.report_text.proofs.numbers.read_ratio.Goals as goal

pub returns-in_default-clause-none : goal.returns-in_default-clause-none
returns-in_default-clause-none c r stands e =
    let parts = ratio_parts c.args.bytes.now c.front.result.0.now c.front.result.1.now r c.front.ensures stands e in
    none_of c.denominator.result c.in_default.is-1 c.denominator.ensures.none r.den stands.den parts.rest

pub returns-in_default-2-clause-none : goal.returns-in_default-2-clause-none
returns-in_default-2-clause-none c r stands e =
    let parts = ratio_parts c.args.bytes.now c.front.result.0.now c.front.result.1.now r c.front.ensures stands e in
    none_of c.signed.result c.in_default.is-0 c.signed.ensures.none r.num stands.num parts.front

pub returns-else-is_reduced-clause-none : goal.returns-else-is_reduced-clause-none
returns-else-is_reduced-clause-none c r stands e =
    let parts = ratio_parts c.args.bytes.now c.front.result.0.now c.front.result.1.now r c.front.ensures stands e in
    let fits : FitsSigned w128 c.in-Some-Some.num = search rules in
    let num : c.in-Some-Some.num ≡ r.num = signed_one c.in-Some-Some.num r.num (signed_within _ fits) (signed_within r.num stands.num) (sym c.in-Some-Some.ensures.some ∙ parts.front) in
    let small : c.in-Some-Some.den < 2 ^ 128 = search rules in
    let den : c.in-Some-Some.den ≡ r.den = den_one c.in-Some-Some.den r.den small stands.den (sym c.in-Some-Some.ensures'.some ∙ parts.rest) in
    not_true c.is_reduced.result c.if-is_reduced.false (c.is_reduced.ensures.1 (subst (λ (q : Ratio). IsReduced q) (sym (same_ratio _ r (to_z-of_z w128 c.in-Some-Some.num fits ∙ num) den)) stands.reduced))
