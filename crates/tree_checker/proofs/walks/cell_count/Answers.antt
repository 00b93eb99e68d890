use Rattle.std.proofs.Common.{◌*◌, arith}
use Rattle.tree_checker.proofs.walks.cell_count.Goals as goal

pub rows-requires : goal.rows-requires
rows-requires c = omega (arith, c.requires, c.if-left_out-count.false, c.count.ensures.count)

pub states-requires : goal.states-requires
states-requires c = omega (arith, c.requires, c.if-left_out-count.false, c.count.ensures.count)

pub returns-clause-cells : goal.returns-clause-cells
returns-clause-cells c = (λ i. c.rows.ensures i * c.states.ensures.states i)

pub returns-clause-diagram : goal.returns-clause-diagram
returns-clause-diagram c = c.count.ensures.diagram

pub returns-then-left_out-count-clause-diagram : goal.returns-then-left_out-count-clause-diagram
returns-then-left_out-count-clause-diagram c = c.count.ensures.diagram
