use Rattle.std.proofs.Common.{◌≡◌, ◌∙◌, ◌+◌, ◌++◌, length, ap, arith}
use Rattle.maid_model.specs.Nodes.{parents_of, rows_under, rows_of, states_of}
use Rattle.maid_model.specs.Views.{AnswerView}
use Rattle.report_text.specs.Runs.{run_lines}
use Rattle.report_text.proofs.RunLemmas.{run_whole}
use Rattle.report_text.proofs.row_runs.push_rows.Goals as goal

pub returns : goal.returns
returns c =
    let nodes = c.args.diagram.now.nodes in
    let names = c.args.names.now in
    let answer : AnswerView = c.args.answer.now in
    let parents : c.parents_of-parents.result.now ≡ parents_of nodes answer.decision = c.parents_of-parents.ensures.parents ∙ ap (λ (a : AnswerView). parents_of nodes a.decision) c.answer.view_is in
    let count : 0 + rows_of nodes answer.decision ≡ length answer.rows = omega (arith, c.requires.answer.rows) in
    c.in_ok-push_run.ensures.lines
    ∙ (λ i. c.args.out.now.items ++ run_lines nodes names answer (c.clear.ensures.items i) (parents i) 0 0 (rows_under (states_of nodes) (parents i)))
    ∙ ap (λ l. c.args.out.now.items ++ l) (run_whole nodes names answer 0 (rows_of nodes answer.decision) count)
