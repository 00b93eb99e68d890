-- A number of a row is at most the row's sum.
use Rattle.std.proofs.Common.{◌≡◌, ◌++◌, ◌*◌, ℕ, ℤ, arith, pos, map, get_or, sum, subst, OnOk}
use Rattle.maid_model.specs.Diagrams.{greatest_number}
use Rattle.weight_scale.proofs.Appending.{appended_none, appended_more, appended_all, multiple_within, pushed_cast, one_times, times_one, on_fault}
use Rattle.weight_scale.proofs.rows.push_weights.Goals as goal

pub push_whole-requires : goal.push_whole-requires
push_whole-requires c = one_times (sum c.args.row.now) c.args.factor greatest_number c.if-factor-eq1.true c.requires

pub returns-then-factor-eq1 : goal.returns-then-factor-eq1
returns-then-factor-eq1 c = subst (λ (f : ℕ → ℤ). OnOk c.push_whole.result (c.push_whole.new.weights.items ≡ c.args.weights.now.items ++ map f c.args.row.now)) (times_one c.args.factor c.if-factor-eq1.true) c.push_whole.ensures

pub loop-number-init : goal.loop-number-init
loop-number-init c = appended_none (λ x. pos (x * c.args.factor)) c.args.weights.now.items c.args.row.now

pub bounds-row-number-index : goal.bounds-row-number-index
bounds-row-number-index c = c.loop-number-test.true

pub overflow_mul-number : goal.overflow_mul-number
overflow_mul-number c = let small = multiple_within c.args.row.now c.loop-number.number-index c.args.factor greatest_number c.loop-number-test.true c.requires in omega (arith, small)

pub overflow_cast-number : goal.overflow_cast-number
overflow_cast-number c = let small = multiple_within c.args.row.now c.loop-number.number-index c.args.factor greatest_number c.loop-number-test.true c.requires in omega (arith, small)

pub returns-in_err-push : goal.returns-in_err-push
returns-in_err-push c = on_fault (c.push.new.self.items ≡ c.args.weights.now.items ++ map (λ x. pos (x * c.args.factor)) c.args.row.now) c.from_residual.result c.from_residual.ensures.0

pub loop-number-preserved : goal.loop-number-preserved
loop-number-preserved c =
    let i = c.loop-number.number-index in
    let pushed = pushed_cast (get_or c.args.row.now i 0 * c.args.factor) c.loop-number.weights.items c.push.new.self.items (multiple_within c.args.row.now i c.args.factor greatest_number c.loop-number-test.true c.requires) c.in_ok-push.ensures.items in
    appended_more (λ x. pos (x * c.args.factor)) c.args.weights.now.items c.args.row.now c.loop-number.weights.items c.push.new.self.items i c.loop-number-test.true pushed c.loop-number.invariant

pub returns : goal.returns
returns c = appended_all (λ x. pos (x * c.args.factor)) c.args.weights.now.items c.args.row.now c.loop-number.weights.items c.loop-number.number-index c.loop-number-test.false c.loop-number.invariant
