-- A number of a row is at most the row's sum.
use Rattle.std.proofs.Common.{◌≡◌, ◌++◌, arith, pos, map, get_or}
use Rattle.std.proofs.lemmas.List.Sums.{get_or-le-sum_by}
use Rattle.maid_model.specs.Diagrams.{greatest_number}
use Rattle.weight_scale.proofs.Appending.{appended_none, appended_more, appended_all, number_within, pushed_cast, on_fault}
use Rattle.weight_scale.proofs.rows.push_whole.Goals as goal

pub loop-number-init : goal.loop-number-init
loop-number-init c = appended_none (λ x. pos x) c.args.weights.now.items c.args.row.now

pub bounds-row-number-index : goal.bounds-row-number-index
bounds-row-number-index c = c.loop-number-test.true

pub overflow_cast-number : goal.overflow_cast-number
overflow_cast-number c = omega (arith, c.requires, get_or-le-sum_by (λ x. x) c.args.row.now c.loop-number.number-index 0 c.loop-number-test.true)

pub returns-in_err-push : goal.returns-in_err-push
returns-in_err-push c = on_fault (c.push.new.self.items ≡ c.args.weights.now.items ++ map (λ x. pos x) c.args.row.now) c.from_residual.result c.from_residual.ensures.0

pub loop-number-preserved : goal.loop-number-preserved
loop-number-preserved c =
    let i = c.loop-number.number-index in
    let pushed = pushed_cast (get_or c.args.row.now i 0) c.loop-number.weights.items c.push.new.self.items (number_within c.args.row.now i greatest_number c.loop-number-test.true c.requires) c.in_ok-push.ensures.items in
    appended_more (λ x. pos x) c.args.weights.now.items c.args.row.now c.loop-number.weights.items c.push.new.self.items i c.loop-number-test.true pushed c.loop-number.invariant

pub returns : goal.returns
returns c = appended_all (λ x. pos x) c.args.weights.now.items c.args.row.now c.loop-number.weights.items c.loop-number.number-index c.loop-number-test.false c.loop-number.invariant
