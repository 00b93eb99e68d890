use Rattle.std.proofs.Common.{◌∙◌, ◌+◌, ◌*◌, ◌≤◌, arith, length, nat_abs, subst, sym, ◌<◌, ℕ, ℤ, pos, slice_index, slice_index_or}
use Rattle.std.proofs.lemmas.List.{get_or_default}
use Rattle.maid_model.specs.Diagrams.{greatest_number}
use Rattle.maid_model.specs.Gains.{gain_in}
use Rattle.rule_solver.specs.Rows.{AnswersRow}
use Rattle.rule_solver.proofs.RowLemmas.{answers-same, row_end}
use Rattle.rule_solver.proofs.rows.answer_at.Goals as goal

pub returns-clause-row : goal.returns-clause-row
returns-clause-row c =
    let own : ℕ → _ = λ s. slice_index_or c.row_gains.result.now s (pos 0) in
    answers-same own (λ s. gain_in c.args.gains.now c.args.states s c.args.row) c.args.states (slice_index c.args.masses.now c.args.row) c.args.scale c.answer_row.result c.row_gains.ensures.gains
    (subst (λ n. c.answer_row.result.choice < n) c.row_gains.ensures.count c.answer_row.ensures.choice)
    (subst (λ n. AnswersRow own n (slice_index c.args.masses.now c.args.row) c.args.scale c.answer_row.result) c.row_gains.ensures.count c.answer_row.ensures.row)

-- its gains are some of all
pub answer_row-requires-clause-small : goal.answer_row-requires-clause-small
answer_row-requires-clause-small c k d h =
    let inside : k < c.args.states = subst (λ n. k < n) c.row_gains.ensures.count h in
    subst (λ (z : ℤ). nat_abs z ≤ greatest_number) (sym (get_or_default c.row_gains.result.now k d (pos 0) h ∙ c.row_gains.ensures.gains k inside))
    (c.requires.small (c.args.row * c.args.states + k) (omega (arith, row_end c.args.row (length c.args.masses.now) c.args.states c.requires.row, c.requires.all, inside)))
