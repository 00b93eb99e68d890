use Rattle.std.proofs.Common.{rules, ◌+◌, ◌<◌, ℕ, ℤ, length, pos, slice_index_or, sym, subst}
use Rattle.policy_update.proofs.Choices.{IsBestSoFar, best_more, best_same}
use Rattle.policy_update.proofs.rows.improved.Goals as goal
use Rattle.policy_update.proofs.rows.improved.Goals.{then-gain-gains, else-gain-gains}

pub loop-state-preserved : goal.loop-state-preserved
loop-state-preserved c =
    let gain : ℕ → ℤ = λ s. slice_index_or c.args.gains.now s (pos 0) in
    let k = c.loop-state.state in
    elim c.if-gain-gains.branch [
      | then-gain-gains w ↦
          subst (λ b. (b < length c.args.gains.now) × IsBestSoFar gain c.args.choice b (k + 1)) (sym w.best-is)
          (c.loop-state-test.true, best_more gain c.args.choice c.loop-state.best k c.loop-state.invariant.1 (let t = w.if-gain-gains.true in search rules))
      | else-gain-gains w ↦
          subst (λ b. (b < length c.args.gains.now) × IsBestSoFar gain c.args.choice b (k + 1)) (sym w.best-is)
          (c.loop-state.invariant.0, best_same gain c.args.choice c.loop-state.best k c.loop-state.invariant.1 (let t = w.if-gain-gains.false in search rules))
    ]
