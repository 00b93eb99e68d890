use Rattle.std.proofs.Common.{ℕ, ◌<◌}
use Rattle.maid_model.specs.Gains.{gain_in}
use Rattle.reach_laws.specs.Updates.{IsImproved}
use Rattle.policy_update.specs.Steps.{choice_in}
use Rattle.policy_update.proofs.rows.keep_choices.Given as goal

-- the rows so far keep their choices
abbrev pub invariant-loop-row : goal.invariant-loop-row
invariant-loop-row l = (k : ℕ) → k < l.row → IsImproved (λ s. gain_in l.gains l.states s k) l.states (choice_in l.rows k) (choice_in l.rows k)
