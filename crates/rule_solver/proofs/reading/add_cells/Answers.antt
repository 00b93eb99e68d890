use Rattle.std.proofs.Common.{FitsSigned, ◌*ℤ◌, pos, arith, ap, ◌∙◌}
use Rattle.std.specs.Int.{w128}
use Rattle.std.proofs.lemmas.Int.{to_z-of_z}
use Rattle.std.proofs.lemmas.List.{get_or_default}
use Rattle.cell_rings.specs.Sums.{cell_at}
use Rattle.rule_solver.proofs.GainCells.{sum_set}
use Rattle.rule_solver.proofs.OwnOrder.{added_more}
use Rattle.rule_solver.proofs.reading.add_cells.Goals as goal

pub loop-at-preserved : goal.loop-at-preserved
loop-at-preserved g c =
    let fits : FitsSigned w128 c.number.result = record { sfits = c.number.type_inv } in
    added_more (λ i. g.C.HasNumber.number (cell_at g.C.Cell.ring c.args.cells.now i) *ℤ pos c.args.factor) c.args.gains.now c.loop-at.gains c.add_number.new.gains c.loop-at.at
    (omega (arith, c.loop-at-test.true, c.requires.len, c.loop-at.invariant.len)) c.loop-at.invariant
    (sum_set c.loop-at.gains c.loop-at.at c.args.factor c.add_number.ensures
    (to_z-of_z w128 c.number.result fits ∙ c.number.ensures ∙ ap g.C.HasNumber.number (c.index-cells-at.is ∙ get_or_default c.args.cells.now c.loop-at.at c.index-cells-at.result g.C.Cell.ring.nought c.loop-at-test.true)))
