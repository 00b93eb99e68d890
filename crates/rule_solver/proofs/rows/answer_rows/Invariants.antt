use Rattle.std.proofs.Common.{slice_index}
use Rattle.maid_model.specs.Gains.{gain_in}
use Rattle.rule_solver.specs.Rows.{AnswersRows}
use Rattle.rule_solver.proofs.rows.answer_rows.Given as goal

-- the rows so far
abbrev pub invariant-loop-row : goal.invariant-loop-row
invariant-loop-row l = AnswersRows (gain_in l.gains l.states) (slice_index l.masses) l.states l.scale l.row l.rows.items
