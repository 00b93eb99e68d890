-- One cell after another.
use Rattle.std.proofs.Common.{pos, FitsSigned, get_or, subst, sym}
use Rattle.std.specs.Int.{w128}
use Rattle.net_build.proofs.ScaleLemmas.{tens_fit}
use Rattle.net_build.proofs.RaisedCells.{cell_fits, product_fits, raise_first, raise_last, raise_next, raised_none, tens_signed, written_is}
use Rattle.net_build.proofs.scales.raise.Goals as goal

pub returns-then-decimals-eq0 : goal.returns-then-decimals-eq0
returns-then-decimals-eq0 c = raised_none c.args.cells.now c.args.decimals c.if-decimals-eq0.true

pub pow-tens-requires : goal.pow-tens-requires
pow-tens-requires c = tens_fit _ c.requires.few

pub overflow_cast-tens : goal.overflow_cast-tens
overflow_cast-tens c = subst (λ n. FitsSigned w128 (pos n)) (sym c.pow-tens.ensures) (tens_signed c.args.decimals c.requires.few)

pub loop-cell-init : goal.loop-cell-init
loop-cell-init c = raise_first c.args.decimals c.args.cells.now

pub overflow_mul-cell : goal.overflow_mul-cell
overflow_mul-cell c =
    let fits = cell_fits c.args.decimals c.loop-cell.cell-index c.args.cells.now c.loop-cell.cells c.loop-cell.invariant c.loop-cell-test.true c.requires.narrow in
    product_fits (get_or c.loop-cell.cells c.loop-cell.cell-index (pos 0)) c.args.decimals c.pow-tens.result c.requires.few c.pow-tens.ensures fits

pub loop-cell-preserved : goal.loop-cell-preserved
loop-cell-preserved c =
    let fits = cell_fits c.args.decimals c.loop-cell.cell-index c.args.cells.now c.loop-cell.cells c.loop-cell.invariant c.loop-cell-test.true c.requires.narrow in
    raise_next c.args.decimals c.loop-cell.cell-index c.args.cells.now c.loop-cell.cells _ c.loop-cell.invariant c.loop-cell-test.true
    (written_is (get_or c.loop-cell.cells c.loop-cell.cell-index (pos 0)) c.args.decimals c.pow-tens.result c.requires.few c.pow-tens.ensures fits)

pub returns : goal.returns
returns c = raise_last c.args.decimals c.loop-cell.cell-index c.args.cells.now c.loop-cell.cells c.loop-cell.invariant c.loop-cell-test.false
