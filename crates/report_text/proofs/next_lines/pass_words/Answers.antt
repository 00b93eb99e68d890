use Rattle.std.proofs.Common.{◌≡◌, true, ◌∙◌}
use Rattle.std.proofs.lemmas.Result.{err_from_is_err_and}
use Rattle.std.proofs.lemmas.Slice.Eq.{bytes_eq-Decides}
use Rattle.maid_model.specs.Reports.{line}
use Rattle.report_text.specs.Slots.{Told}
use Rattle.report_text.proofs.Stops.{stuck_cut, stuck_line}
use Rattle.report_text.proofs.Tails.{same_front}
use Rattle.report_text.proofs.Unended.{told_ends}
use Rattle.report_text.proofs.next_lines.pass_words.Goals as goal

pub returns-in_err-line-clause-err : goal.returns-in_err-line-clause-err
returns-in_err-line-clause-err c =
    let p = err_from_is_err_and c.from_residual.result c.from_residual.ensures.1 in
    rw (p.1, p.2, c.in_err-line.ensures.fault)
    (λ nodes names. stuck_cut nodes names (Told (line c.args.words.now)) c.args.lines.now c.in_err-line.ensures.none (told_ends nodes names c.args.words.now))

pub returns-else-eq-clause-err : goal.returns-else-eq-clause-err
returns-else-eq-clause-err c nodes names =
    let taken = c.in_ok-line.ensures.ok in
    let differs = c.if-eq.false in
    rw (c.fault.ensures, taken.read)
    (stuck_line nodes names (Told (line c.args.words.now)) c.in_ok-line.line.now c.args.lines.now c.take_line.new.self taken
    (λ e. let same : c.eq.result ≡ true = c.eq.ensures ∙ (bytes_eq-Decides c.in_ok-line.line.now c.args.words.now).1 (same_front c.in_ok-line.line.now c.args.words.now e) in cc))
