use Rattle.net_build.proofs.LinkLemmas.{map_more}
use Rattle.net_build.specs.TableParts.{Fits, value_at_scale}
use Rattle.weight_scale.specs.declared.decimal.Decimal.{Decimal}
use Rattle.std.proofs.lemmas.List.{get_or_default, take_all}
use Rattle.net_build.specs.Scaling.{decimal_at}
use Rattle.net_build.specs.Zero.{nought}
use Rattle.std.proofs.lemmas.Int.{to_z-of_z}
use Rattle.std.specs.Int.{w128}
use borrow.Author.Count.{falls}
use Rattle.std.proofs.Common.{◌≡◌, ◌≤◌, rules, map, FitsSigned, below_more, subst, sym, ap, ◌∙◌, arith}
use Rattle.std.proofs.lemmas.Result.{IfOk-from_err}
use Rattle.net_build.proofs.scales.cells_within.Goals as goal

pub returns-in_err-cells-clause-cells : goal.returns-in_err-cells-clause-cells
returns-in_err-cells-clause-cells c = IfOk-from_err _ _ c.from_residual.ensures.0

pub returns-in_err-cells-clause-none : goal.returns-in_err-cells-clause-none
returns-in_err-cells-clause-none c = IfOk-from_err _ _ c.from_residual.ensures.0

pub loop-decimal-init : goal.loop-decimal-init
loop-decimal-init c = record { cells = c.in_ok-cells.ensures.items; fit = λ k h. absurd (omega (arith, h)) }

pub bounds-decimals-decimal-index : goal.bounds-decimals-decimal-index
bounds-decimals-decimal-index c = c.loop-decimal-test.true

pub scaled-requires-clause-enough : goal.scaled-requires-clause-enough
scaled-requires-clause-enough c = subst (λ (d : Decimal). d.k ≤ c.args.scale) (sym c.decimal-item.is) (c.requires.enough c.loop-decimal.decimal-index c.decimal-item.result c.loop-decimal-test.true)

pub scaled-requires-clause-few : goal.scaled-requires-clause-few
scaled-requires-clause-few c = c.requires.few

pub returns-in_default-clause-none : goal.returns-in_default-clause-none
returns-in_default-clause-none c = λ all. c.in_default.ensures (subst (Fits c.args.scale) (sym c.decimal-item.is) (all c.loop-decimal.decimal-index c.decimal-item.result c.loop-decimal-test.true))

pub returns-in_err-push-clause-cells : goal.returns-in_err-push-clause-cells
returns-in_err-push-clause-cells c = IfOk-from_err _ _ c.from_residual-in_err-push.ensures.0

pub returns-in_err-push-clause-none : goal.returns-in_err-push-clause-none
returns-in_err-push-clause-none c = IfOk-from_err _ _ c.from_residual-in_err-push.ensures.0

pub loop-decimal-smaller : goal.loop-decimal-smaller
loop-decimal-smaller c = falls _ _ c.loop-decimal-test.true

pub loop-decimal-preserved : goal.loop-decimal-preserved
loop-decimal-preserved c =
    let fits : FitsSigned w128 c.in-Some.cell = search rules in
    let pushed = simp to_z-of_z at c.in_ok-push.ensures.items in
    let here : decimal_at c.args.decimals.now c.loop-decimal.decimal-index ≡ c.decimal-item.result = get_or_default c.args.decimals.now c.loop-decimal.decimal-index nought c.decimal-item.result c.loop-decimal-test.true ∙ sym c.decimal-item.is in
    record {
      cells = map_more (value_at_scale c.args.scale) c.args.decimals.now c.loop-decimal.cells.items c.push.new.self.items c.loop-decimal.decimal-index c.decimal-item.result c.in-Some.cell c.loop-decimal-test.true c.decimal-item.is c.in-Some.ensures.1 c.loop-decimal.invariant.cells pushed;
      fit = below_more _ _ c.loop-decimal.invariant.fit (subst (Fits c.args.scale) (sym here) c.in-Some.ensures.0);
    }

pub returns-clause-cells : goal.returns-clause-cells
returns-clause-cells c = c.loop-decimal.invariant.cells ∙ ap (map (value_at_scale c.args.scale)) (take_all c.loop-decimal.decimal-index c.args.decimals.now c.loop-decimal-test.false)

pub returns-clause-fit : goal.returns-clause-fit
returns-clause-fit c = λ k d h. subst (Fits c.args.scale) (get_or_default c.args.decimals.now k nought d h) (c.loop-decimal.invariant.fit k (omega (arith, h, c.loop-decimal-test.false)))

pub returns-in_err-cells-clause-fit : goal.returns-in_err-cells-clause-fit
returns-in_err-cells-clause-fit c = IfOk-from_err _ _ c.from_residual.ensures.0

pub returns-in_err-push-clause-fit : goal.returns-in_err-push-clause-fit
returns-in_err-push-clause-fit c = IfOk-from_err _ _ c.from_residual-in_err-push.ensures.0
