use Rattle.std.proofs.Common.{◌++◌, ◌∙◌, flat_map, codes, ap}
use Rattle.std.proofs.lemmas.List.{take_all}
use Rattle.line_pieces.proofs.Appending.{piece_more}
use Rattle.app_forms.specs.Asking.{asked_line}
use Rattle.app_forms.specs.Control.{control_line}
use Rattle.app_forms.proofs.forms.control.control_text.Goals as goal

pub loop-line-preserved : goal.loop-line-preserved
loop-line-preserved c =
    let shown = control_line c.args.names.now in
    piece_more shown c.args.lines.now c.loop-line.line-index c.line-item.result (asked_line (codes "control") c.args.agent.now) c.loop-line.text.items c.push_line.new.out.items c.loop-line-test.true c.loop-line.invariant
    (c.in_ok-push_line.ensures ∙ ap (λ line. c.loop-line.text.items ++ shown line) c.line-item.is)

pub returns : goal.returns
returns c = c.loop-line.invariant ∙ ap (λ lines. asked_line (codes "control") c.args.agent.now ++ flat_map (control_line c.args.names.now) lines) (take_all c.loop-line.line-index c.args.lines.now c.loop-line-test.false)
