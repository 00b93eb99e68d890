use Rattle.std.proofs.Common.{◌≡◌, ◌∷◌, [], subst, rules}
use Rattle.std.proofs.lemmas.Result.{err_from_is_err_and}
use Rattle.maid_model.specs.Nodes.{rows_of}
use Rattle.maid_model.specs.Reports.{line}
use Rattle.report_text.specs.Slots.{Told, IsStuck, IsTaken, decision_words, row_slots}
use Rattle.report_text.proofs.Stops.{stuck_front}
use Rattle.report_text.proofs.Turns.{answer_read, answer_stuck}
use Rattle.report_text.proofs.next_lines.next_answer.Goals as goal

pub returns-in_err-pass_words-clause-err : goal.returns-in_err-pass_words-clause-err
returns-in_err-pass_words-clause-err c =
    let p = err_from_is_err_and c.from_residual-in_err-pass_words.result c.from_residual-in_err-pass_words.ensures.1 in
    let words : c.deref.result.now ≡ decision_words c.args.diagram.now.nodes c.args.names.now c.args.decision = search rules in
    let stuck = subst (λ w. IsStuck c.args.diagram.now.nodes c.args.names.now (Told (line w) ∷ []) c.args.lines.now c.in_err-pass_words.field-0.0) words (c.in_err-pass_words.ensures.err c.args.diagram.now.nodes c.args.names.now) in
    rw (p.1, p.2)
    (stuck_front c.args.diagram.now.nodes c.args.names.now (Told (line (decision_words c.args.diagram.now.nodes c.args.names.now c.args.decision)) ∷ []) (row_slots c.args.decision 0 (rows_of c.args.diagram.now.nodes c.args.decision)) c.args.lines.now c.in_err-pass_words.field-0.0 stuck)

pub returns-in_err-rows-clause-err : goal.returns-in_err-rows-clause-err
returns-in_err-rows-clause-err c =
    let p = err_from_is_err_and c.from_residual-in_err-rows.result c.from_residual-in_err-rows.ensures.1 in
    let words : c.deref.result.now ≡ decision_words c.args.diagram.now.nodes c.args.names.now c.args.decision = search rules in
    let taken = subst (λ w. IsTaken w c.args.lines.now c.pass_words.new.lines) words c.in_ok-pass_words.ensures.ok in
    rw (p.1, p.2)
    (answer_stuck c.args.diagram.now.nodes c.args.names.now c.args.decision c.args.lines.now c.pass_words.new.lines c.in_err-rows.field-0.0 taken c.in_err-rows.ensures.err)

pub returns-clause-ok : goal.returns-clause-ok
returns-clause-ok c =
    let words : c.deref.result.now ≡ decision_words c.args.diagram.now.nodes c.args.names.now c.args.decision = search rules in
    let taken = subst (λ w. IsTaken w c.args.lines.now c.pass_words.new.lines) words c.in_ok-pass_words.ensures.ok in
    answer_read c.args.diagram.now.nodes c.args.names.now c.args.decision c.in_ok-rows.rows.items c.args.lines.now c.pass_words.new.lines c.next_rows.new.lines taken c.in_ok-rows.ensures.ok
