use Rattle.std.proofs.Common.{arith, ap, pos, set, slice_index_or}
use Rattle.tree_checker.proofs.SmallSums.{gain_fits, gain_is, product_fits}
use Rattle.tree_checker.proofs.endings.add_to_cell.Goals as goal

pub overflow_mul-gains : goal.overflow_mul-gains
overflow_mul-gains c = product_fits (slice_index_or c.args.gains.now c.args.cell (pos 0)) c.args.utility c.args.product c.ranges.utility (omega (arith, c.requires.mass)) c.requires.gain

pub overflow_add-gains : goal.overflow_add-gains
overflow_add-gains c = gain_fits (slice_index_or c.args.gains.now c.args.cell (pos 0)) c.args.utility c.args.product c.ranges.utility (omega (arith, c.requires.mass)) c.requires.gain

pub bounds-gains-cell : goal.bounds-gains-cell
bounds-gains-cell c = c.requires.gains

pub bounds-masses-cell : goal.bounds-masses-cell
bounds-masses-cell c = c.requires.masses

pub overflow_add-masses : goal.overflow_add-masses
overflow_add-masses c = omega (arith, c.requires.mass)

pub bounds-masses-cell-2 : goal.bounds-masses-cell-2
bounds-masses-cell-2 c = c.requires.masses

pub returns-clause-gains : goal.returns-clause-gains
returns-clause-gains c =
    ap (set c.args.gains.now c.args.cell) (gain_is (slice_index_or c.args.gains.now c.args.cell (pos 0)) c.args.utility c.args.product c.ranges.utility (omega (arith, c.requires.mass)) c.requires.gain)
