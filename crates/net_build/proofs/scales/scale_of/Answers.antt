-- The most decimals are the scale, and to it the values are tried.
use Rattle.first_fault.proofs.HandedOn.{hands_on}
use Rattle.net_build.specs.Passes.{build_fault}
use Rattle.net_build.specs.TableParts.{IsScaleOf, scaled_pass}
use Rattle.net_build.proofs.ScaleLemmas.{scale_found, short_refuses, scaled_refuses, scaled_passes}
use Rattle.std.proofs.lemmas.Result.{IfOk-from_err}
use Rattle.net_build.proofs.scales.scale_of.Goals as goal

pub returns-in_err-decimals-clause-rows : goal.returns-in_err-decimals-clause-rows
returns-in_err-decimals-clause-rows c = hands_on build_fault (scaled_pass c.args.text.now c.args.tokens.now) _ _ c.from_residual.ensures (short_refuses c.args.text.now c.args.tokens.now c.in_err-decimals.field-0.0 c.requires.short c.in_err-decimals.ensures.rows)

pub returns-in_err-check_wide-clause-rows : goal.returns-in_err-check_wide-clause-rows
returns-in_err-check_wide-clause-rows c =
    let is : IsScaleOf c.args.text.now c.args.tokens.now c.most_decimals-scale.result = scale_found c.args.text.now c.args.tokens.now c.deref.result.now c.most_decimals-scale.result (rw c.deref.ensures.value c.in_ok-decimals.ensures.decimals) c.most_decimals-scale.ensures.most c.most_decimals-scale.ensures.reached in
    hands_on build_fault (scaled_pass c.args.text.now c.args.tokens.now) _ _ c.from_residual-in_err-check_wide.ensures
    (scaled_refuses c.args.text.now c.args.tokens.now c.most_decimals-scale.result c.in_err-check_wide.field-0.0 is (c.in_err-check_wide.ensures c.args.text.now (rw c.deref-2.ensures.value c.in_ok-decimals.ensures.decimals)))

pub returns-clause-rows : goal.returns-clause-rows
returns-clause-rows c =
    let is : IsScaleOf c.args.text.now c.args.tokens.now c.most_decimals-scale.result = scale_found c.args.text.now c.args.tokens.now c.deref.result.now c.most_decimals-scale.result (rw c.deref.ensures.value c.in_ok-decimals.ensures.decimals) c.most_decimals-scale.ensures.most c.most_decimals-scale.ensures.reached in
    scaled_passes c.args.text.now c.args.tokens.now c.most_decimals-scale.result is (c.in_ok-check_wide.ensures c.args.text.now (rw c.deref-2.ensures.value c.in_ok-decimals.ensures.decimals))

pub returns-clause-scale : goal.returns-clause-scale
returns-clause-scale c = scale_found c.args.text.now c.args.tokens.now c.deref.result.now c.most_decimals-scale.result (rw c.deref.ensures.value c.in_ok-decimals.ensures.decimals) c.most_decimals-scale.ensures.most c.most_decimals-scale.ensures.reached

pub decimals-requires-clause-own : goal.decimals-requires-clause-own
decimals-requires-clause-own c = c.requires.own

pub decimals-requires-clause-numbers : goal.decimals-requires-clause-numbers
decimals-requires-clause-numbers c = c.requires.numbers

pub returns-in_err-decimals-clause-scale : goal.returns-in_err-decimals-clause-scale
returns-in_err-decimals-clause-scale c = IfOk-from_err _ _ c.from_residual.ensures.0

pub returns-in_err-decimals-clause-narrow : goal.returns-in_err-decimals-clause-narrow
returns-in_err-decimals-clause-narrow c = IfOk-from_err _ _ c.from_residual.ensures.0

pub returns-in_err-decimals-clause-few : goal.returns-in_err-decimals-clause-few
returns-in_err-decimals-clause-few c = IfOk-from_err _ _ c.from_residual.ensures.0

pub check_wide-requires-clause-enough : goal.check_wide-requires-clause-enough
check_wide-requires-clause-enough c = rw (c.deref-2.ensures.value, ← c.deref.ensures.value) c.most_decimals-scale.ensures.most

pub check_wide-requires-clause-few : goal.check_wide-requires-clause-few
check_wide-requires-clause-few c = c.most_decimals-scale.ensures.few

pub returns-in_err-check_wide-clause-scale : goal.returns-in_err-check_wide-clause-scale
returns-in_err-check_wide-clause-scale c = IfOk-from_err _ _ c.from_residual-in_err-check_wide.ensures.0

pub returns-in_err-check_wide-clause-narrow : goal.returns-in_err-check_wide-clause-narrow
returns-in_err-check_wide-clause-narrow c = IfOk-from_err _ _ c.from_residual-in_err-check_wide.ensures.0

pub returns-in_err-check_wide-clause-few : goal.returns-in_err-check_wide-clause-few
returns-in_err-check_wide-clause-few c = IfOk-from_err _ _ c.from_residual-in_err-check_wide.ensures.0

pub returns-clause-few : goal.returns-clause-few
returns-clause-few c = c.most_decimals-scale.ensures.few
