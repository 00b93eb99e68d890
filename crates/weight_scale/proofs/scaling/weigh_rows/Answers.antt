use Rattle.std.proofs.Common.{◌≡◌, ◌≤◌, ◌*◌, ◌/◌, ℕ, ℤ, List, Vec, Global, length, sum, sym, subst, arith}
use Rattle.maid_model.specs.Diagrams.{greatest_number}
use Rattle.weight_scale.specs.Rows.{WeighsRows, WeighsAll}
use Rattle.weight_scale.proofs.Appending.{if_fault}
use Rattle.weight_scale.proofs.Weighing.{weighs_start, weighs_step, total_fits, factor_within}
use Rattle.weight_scale.proofs.scaling.weigh_rows.Goals as goal

times_within : (s total most : ℕ) → total ≤ most → s * (total / s) ≤ most
times_within s total most l = omega (arith, l, factor_within s total)

same_end : (i n : ℕ) → i ≤ n → n ≤ i → i ≡ n
same_end i n l m = omega (arith, l, m)

pub returns-in_err-weights : goal.returns-in_err-weights
returns-in_err-weights c = if_fault (λ (w : Vec ℤ Global). WeighsAll c.args.reduced.now c.args.states c.args.total w.items) c.from_residual.result c.from_residual.ensures.0

pub loop-r-init : goal.loop-r-init
loop-r-init c = subst (λ (l : List ℤ). WeighsRows c.args.reduced.now c.args.states c.args.total 0 l) (sym c.in_ok-weights.ensures.items) (weighs_start c.args.reduced.now c.args.states c.args.total)

pub row_at-row-requires-clause-positive : goal.row_at-row-requires-clause-positive
row_at-row-requires-clause-positive c = c.requires.states

pub row_at-row-requires-clause-within : goal.row_at-row-requires-clause-within
row_at-row-requires-clause-within c = c.loop-r-test.true

pub row_total-requires : goal.row_total-requires
row_total-requires c = rw c.row_at-row.ensures.row (total_fits _ c.args.total (c.requires.multiple c.loop-r.r c.loop-r-test.true) c.requires.some c.requires.small)

pub push_weights-requires : goal.push_weights-requires
push_weights-requires c = rw c.row_total.ensures (times_within (sum c.row_at-row.result.now) c.args.total greatest_number c.requires.small)

pub returns-in_err-push_weights : goal.returns-in_err-push_weights
returns-in_err-push_weights c = if_fault (λ (w : Vec ℤ Global). WeighsAll c.args.reduced.now c.args.states c.args.total w.items) c.from_residual-in_err-push_weights.result c.from_residual-in_err-push_weights.ensures.0

pub loop-r-preserved : goal.loop-r-preserved
loop-r-preserved c =
    let pushed = rw (c.row_total.ensures, c.row_at-row.ensures.row) at c.in_ok-push_weights.ensures in
    weighs_step c.args.reduced.now c.args.states c.args.total c.loop-r.r c.loop-r.weights.items c.push_weights.new.weights.items c.loop-r-test.true c.loop-r.invariant pushed

pub returns : goal.returns
returns c = subst (λ n. WeighsRows c.args.reduced.now c.args.states c.args.total n c.loop-r.weights.items) (same_end c.loop-r.r (length c.args.reduced.now / c.args.states) c.loop-r.auto.r-end c.loop-r-test.false) c.loop-r.invariant
