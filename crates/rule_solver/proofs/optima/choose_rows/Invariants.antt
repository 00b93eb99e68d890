use Rattle.maid_model.specs.Gains.{gain_in}
use Rattle.rule_solver.specs.Optima.{ChoosesRows}
use Rattle.rule_solver.proofs.optima.choose_rows.Given as goal

-- the rows so far
abbrev pub invariant-loop-row : goal.invariant-loop-row
invariant-loop-row l = ChoosesRows (gain_in l.gains l.states) l.states l.row l.chosen.items
