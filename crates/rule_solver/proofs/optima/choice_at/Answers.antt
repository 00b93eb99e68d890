use Rattle.std.proofs.Common.{◌<◌, ◌≤ℤ◌, pos, slice_index_or, sym, subst}
use Rattle.maid_model.specs.Gains.{gain_in}
use Rattle.rule_solver.proofs.optima.choice_at.Goals as goal

pub first_best-requires : goal.first_best-requires
first_best-requires c = subst (λ n. 0 < n) (sym c.row_gains.ensures.count) c.requires.some

pub returns-clause-within : goal.returns-clause-within
returns-clause-within c = subst (λ n. c.first_best.result < n) c.row_gains.ensures.count c.first_best.ensures.within

pub returns-clause-best : goal.returns-clause-best
returns-clause-best c s h =
    let best = c.first_best.result in
    subst (λ x. x ≤ℤ gain_in c.args.gains.now c.args.states best c.args.row) (c.row_gains.ensures.gains s h)
    (subst (λ x. slice_index_or c.row_gains.result.now s (pos 0) ≤ℤ x) (c.row_gains.ensures.gains best (returns-clause-within c)) (c.first_best.ensures.greatest s (subst (λ n. s < n) (sym c.row_gains.ensures.count) h)))
