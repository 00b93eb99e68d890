use Rattle.std.proofs.Common.{◌≡◌, ◌/◌, arith, length, subst, sym}
use Rattle.std.proofs.lemmas.Result.{err_from_is_err_and}
use Rattle.weight_scale.specs.Scaling.{raised_row, IsTooWide}
use Rattle.weight_scale.specs.Rows.{ReducesRows, IsWideRow}
use Rattle.weight_scale.proofs.Totals.{reduces_start, reduces_step, added_positive, wide_by_row, wide_by_totals}
use Rattle.weight_scale.proofs.Results.{on_wide_more}
use Rattle.weight_scale.proofs.scaling.reduce_rows.Goals as goal

pub loop-r-init : goal.loop-r-init
loop-r-init c = record {
  reduces = subst (λ xs. ReducesRows c.args.rows.now c.args.states 0 xs 1) (sym c.in_ok-numbers.ensures.items) (reduces_start c.args.rows.now c.args.states c.requires.states);
  small = omega arith;
}

pub returns-in_err-added-clause-err : goal.returns-in_err-added-clause-err
returns-in_err-added-clause-err c =
    let wide = rw c.row_at.ensures.row at c.in_err-added.ensures.err in
    let answer = err_from_is_err_and c.from_residual-in_err-added.result c.from_residual-in_err-added.ensures.1 in
    rw (answer.1, answer.2) (on_wide_more (IsWideRow (raised_row c.args.states c.args.rows.now c.loop-r.r)) (IsTooWide c.args.rows.now c.args.states) (wide_by_row c.args.rows.now c.args.states c.requires.states c.requires.positive c.requires.whole c.loop-r.r c.loop-r-test.true) _ wide)

pub common_total-requires-clause-added : goal.common_total-requires-clause-added
common_total-requires-clause-added c =
    let appends = rw c.row_at.ensures.row at c.in_ok-added.ensures.ok in
    added_positive c.args.rows.now c.args.states c.requires.states c.loop-r.r c.loop-r.numbers.items c.push_reduced.new.reduced.items c.in_ok-added.added c.requires.positive c.loop-r-test.true appends

pub returns-in_default-clause-err : goal.returns-in_default-clause-err
returns-in_default-clause-err c =
    let appends = rw c.row_at.ensures.row at c.in_ok-added.ensures.ok in
    let wide = c.in_default.ensures.none in
    wide_by_totals c.args.rows.now c.args.states c.requires.states c.requires.positive c.requires.whole c.loop-r.r c.loop-r.numbers.items c.push_reduced.new.reduced.items c.loop-r.total c.in_ok-added.added wide.0 c.loop-r-test.true c.loop-r.invariant.reduces appends wide.1 wide.2

pub loop-r-preserved : goal.loop-r-preserved
loop-r-preserved c =
    let appends = rw c.row_at.ensures.row at c.in_ok-added.ensures.ok in
    let common = c.in-Some.ensures.some in
    record {
      reduces = reduces_step c.args.rows.now c.args.states c.requires.states c.loop-r.r c.loop-r.numbers.items c.push_reduced.new.reduced.items c.loop-r.total c.in_ok-added.added c.in-Some.common c.loop-r-test.true c.loop-r.invariant.reduces appends common.0 common.1;
      small = common.2;
    }

-- behind the loop all rows are done
pub returns-clause-ok : goal.returns-clause-ok
returns-clause-ok c =
    let all : c.loop-r.r ≡ length c.args.rows.now / c.args.states = omega (arith, c.loop-r-test.false, c.loop-r.auto.r-end) in
    subst (λ n. ReducesRows c.args.rows.now c.args.states n c.loop-r.numbers.items c.loop-r.total) all c.loop-r.invariant.reduces
