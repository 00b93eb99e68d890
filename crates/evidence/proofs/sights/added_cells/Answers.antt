use Rattle.std.proofs.Common.{◌*◌, ◌<◌, ◌≤◌, ap, arith, length}
use Rattle.maid_model.specs.declared.limits.TheConstants.{MOST_CELLS}
use Rattle.evidence.proofs.Seen.{many_cells, own_more}
use Rattle.evidence.proofs.sights.added_cells.Goals as goal

-- with the node's states the cells are as many times more
pub returns-then-cells-gt-MOST_CELLS : goal.returns-then-cells-gt-MOST_CELLS
returns-then-cells-gt-MOST_CELLS c =
    let many : MOST_CELLS < c.rows.result * c.states.result * c.states-2.result = omega (arith, c.if-cells-gt-MOST_CELLS.true) in
    many_cells c.args.diagram.now c.args.node c.states.ensures.diagram c.args.v c.requires.decision c.requires.added _ (λ i. c.rows.ensures i * c.states.ensures.states i * c.states-2.ensures.states i) many

pub returns : goal.returns
returns c =
    let few : c.rows.result * c.states.result * c.states-2.result ≤ MOST_CELLS = omega (arith, c.if-cells-gt-MOST_CELLS.false) in
    own_more c.args.diagram.now c.args.node c.states.ensures.diagram c.args.v c.requires.decision c.requires.added _ (λ i. c.rows.ensures i * c.states.ensures.states i * c.states-2.ensures.states i)
    (omega (arith, c.if-parents-ge-MOST_PARENTS.false, ap (λ l. length l) c.parents.ensures.parents)) few
