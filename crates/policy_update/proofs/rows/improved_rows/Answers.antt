use Rattle.std.proofs.Common.{List, ◌+◌, ℕ, ℤ, pos, slice_index_or, refl, sym, subst}
use Rattle.maid_model.specs.declared.answers.Row.{Row}
use Rattle.maid_model.specs.Answers.{no_row}
use Rattle.maid_model.specs.Gains.{gain_in}
use Rattle.reach_laws.specs.Updates.{IsImproved}
use Rattle.policy_update.proofs.Choices.{AreImprovedTo, equal_alike, improved_alike, rows_more}
use Rattle.policy_update.proofs.rows.improved_rows.Goals as goal

pub loop-row-preserved : goal.loop-row-preserved
loop-row-preserved c =
    let own : ℕ → ℤ = λ s. slice_index_or c.row_gains-gains.result.now s (pos 0) in
    let all : ℕ → ℤ = λ s. gain_in c.args.gains.now c.args.states s c.loop-row.row in
    subst (AreImprovedTo (gain_in c.args.gains.now c.args.states) c.args.states c.args.rows.now (c.loop-row.row + 1)) (sym {A = List Row} c.in_ok-push.ensures.items)
    (rows_more (gain_in c.args.gains.now c.args.states) c.args.states c.args.rows.now c.loop-row.row c.loop-row.after.items (record { choice = c.improved.result; worth = no_row.worth }) c.loop-row.invariant
    (improved_alike own all c.args.states (slice_index_or c.args.rows.now c.loop-row.row no_row).choice c.improved.result (equal_alike own all c.args.states c.row_gains-gains.ensures.gains)
    (subst (λ n. IsImproved own n (slice_index_or c.args.rows.now c.loop-row.row no_row).choice c.improved.result) c.row_gains-gains.ensures.count c.improved.ensures)) refl)
