-- What becomes of one row.
use Rattle.std.proofs.Common.{subst}
use borrow.Author.Count.{below_more}
use Rattle.maid_model.specs.Gains.{gain_in}
use Rattle.reach_laws.specs.Updates.{IsImproved}
use Rattle.policy_update.specs.Steps.{choice_in}
use Rattle.policy_update.proofs.Choices.{improved_in, one_choice}
use Rattle.policy_update.proofs.rows.keep_choices.Goals as goal

pub loop-row-preserved : goal.loop-row-preserved
loop-row-preserved c =
    let gains = c.args.gains.now in
    let rows = c.args.rows.now in
    let row = c.loop-row.row in
    below_more (λ k. IsImproved (λ s. gain_in gains c.args.states s k) c.args.states (choice_in rows k) (choice_in rows k)) row c.loop-row.invariant
    (subst (IsImproved (λ s. gain_in gains c.args.states s row) c.args.states (choice_in rows row)) c.if-improved-before.false
    (improved_in gains c.row_gains-gains.result.now c.args.states row (choice_in rows row) c.improved.result c.row_gains-gains.ensures.count c.row_gains-gains.ensures.gains c.improved.ensures))

pub returns-then-improved-before : goal.returns-then-improved-before
returns-then-improved-before c =
    let gains = c.args.gains.now in
    let rows = c.args.rows.now in
    let row = c.loop-row.row in (
      (λ e. absurd (cc)),
      (λ h. absurd (c.if-improved-before.true (one_choice (λ s. gain_in gains c.args.states s row) c.args.states (choice_in rows row) c.improved.result
          (improved_in gains c.row_gains-gains.result.now c.args.states row (choice_in rows row) c.improved.result c.row_gains-gains.ensures.count c.row_gains-gains.ensures.gains c.improved.ensures) (h row c.loop-row-test.true)))),
    )
