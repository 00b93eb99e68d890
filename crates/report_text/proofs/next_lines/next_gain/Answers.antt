use Rattle.std.proofs.Common.{◌∙◌}
use Rattle.std.proofs.lemmas.Result.{err_from_is_err_and}
use Rattle.report_text.specs.Slots.{OfGain, gain_words}
use Rattle.report_text.proofs.Stops.{stuck_cut, stuck_line}
use Rattle.report_text.proofs.Tails.{same_front}
use Rattle.report_text.proofs.Unended.{gain_ends, gain_line_is}
use Rattle.report_text.proofs.next_lines.next_gain.Goals as goal

pub returns-in_err-line-clause-err : goal.returns-in_err-line-clause-err
returns-in_err-line-clause-err c =
    let p = err_from_is_err_and c.from_residual.result c.from_residual.ensures.1 in
    rw (p.1, p.2, c.in_err-line.ensures.fault)
    (λ nodes. stuck_cut nodes c.args.names.now (OfGain c.args.agent) c.args.lines.now c.in_err-line.ensures.none (gain_ends nodes c.args.names.now c.args.agent))

pub returns-in-None-clause-err : goal.returns-in-None-clause-err
returns-in-None-clause-err c nodes =
    let taken = c.in_ok-line.ensures.ok in
    let none = rw c.in-None.is at c.in_ok-gain.ensures in
    rw (c.fault.ensures, taken.read)
    (stuck_line nodes c.args.names.now (OfGain c.args.agent) c.in_ok-line.line.now c.args.lines.now c.take_line.new.self taken
    (λ (gain, is, e). none gain is (same_front c.in_ok-line.line.now (gain_words c.args.names.now c.args.agent gain) (e ∙ gain_line_is c.args.names.now c.args.agent gain))))
