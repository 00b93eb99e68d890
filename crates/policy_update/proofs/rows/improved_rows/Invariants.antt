use Rattle.policy_update.proofs.Choices.{AreImprovedTo}
use Rattle.policy_update.proofs.rows.improved_rows.Given as goal
use Rattle.maid_model.specs.Gains.{gain_in}

-- the rows so far
abbrev pub invariant-loop-row : goal.invariant-loop-row
invariant-loop-row l = AreImprovedTo (gain_in l.gains l.states) l.states l.rows l.row l.after.items
