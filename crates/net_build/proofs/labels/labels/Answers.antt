-- One more string has its label.
use Rattle.first_fault.proofs.HandedOn.{hands_on}
use Rattle.net_build.specs.Passes.{build_fault}
use Rattle.first_fault.specs.Passes.{each}
use Rattle.net_lexer.specs.Token.{text_value}
use Rattle.maid_model.specs.Names.{list_of}
use Rattle.std.proofs.lemmas.List.{take_all}
use borrow.Author.Count.{falls}
use Rattle.std.proofs.Common.{map, ap, ◌∙◌}
use Rattle.net_build.proofs.OutOfMemory.{out_of_memory}
use Rattle.std.proofs.lemmas.Result.{IfOk-from_err}
use Rattle.first_fault.proofs.Items.{each_step_at, each_refused_at, each_end}
use Rattle.net_build.specs.Blocks.{no_token}
use Rattle.net_build.specs.Table.{label_row}
use Rattle.net_build.proofs.LabelLemmas.{labels_step}
use Rattle.net_build.proofs.labels.labels.Goals as goal

pub loop-string-preserved : goal.loop-string-preserved
loop-string-preserved c = record {
  lead = each_step_at (label_row c.args.text.now) c.args.strings.now _ c.loop-string.string-index no_token c.loop-string-test.true c.loop-string.invariant.lead c.in_ok-label.ensures.row;
  made = labels_step c.args.text.now c.args.strings.now c.loop-string.labels.items c.push.new.self.items c.loop-string.string-index c.in_ok-label.field-0 c.loop-string-test.true c.loop-string.invariant.made c.in_ok-label.ensures.label c.in_ok-push.ensures.items;
}

pub returns-in_err-labels-clause-rows : goal.returns-in_err-labels-clause-rows
returns-in_err-labels-clause-rows c = out_of_memory (each (label_row c.args.text.now) c.args.strings.now) _ c.from_residual.ensures

pub returns-in_err-labels-clause-labels : goal.returns-in_err-labels-clause-labels
returns-in_err-labels-clause-labels c = IfOk-from_err _ _ c.from_residual.ensures.0

pub loop-string-init : goal.loop-string-init
loop-string-init c = record { lead = λ outcome h. h; made = ap list_of c.in_ok-labels.ensures.items }

pub bounds-strings-string-index : goal.bounds-strings-string-index
bounds-strings-string-index c = c.loop-string-test.true

pub label-requires-clause-own : goal.label-requires-clause-own
label-requires-clause-own c = c.requires.own c.loop-string.string-index no_token c.loop-string-test.true

pub label-requires-clause-string : goal.label-requires-clause-string
label-requires-clause-string c = c.requires.strings c.loop-string.string-index no_token c.loop-string-test.true

pub returns-in_err-label-clause-rows : goal.returns-in_err-label-clause-rows
returns-in_err-label-clause-rows c =
    let rows = each (label_row c.args.text.now) c.args.strings.now in
    hands_on build_fault rows _ _ c.from_residual-in_err-label.ensures
    (each_refused_at (label_row c.args.text.now) c.args.strings.now rows c.loop-string.string-index no_token (build_fault c.in_err-label.field-0.0) c.loop-string-test.true c.loop-string.invariant.lead c.in_err-label.ensures.row)

pub returns-in_err-label-clause-labels : goal.returns-in_err-label-clause-labels
returns-in_err-label-clause-labels c = IfOk-from_err _ _ c.from_residual-in_err-label.ensures.0

pub returns-in_err-push-clause-rows : goal.returns-in_err-push-clause-rows
returns-in_err-push-clause-rows c = out_of_memory (each (label_row c.args.text.now) c.args.strings.now) _ c.from_residual-in_err-push.ensures

pub returns-in_err-push-clause-labels : goal.returns-in_err-push-clause-labels
returns-in_err-push-clause-labels c = IfOk-from_err _ _ c.from_residual-in_err-push.ensures.0

pub loop-string-smaller : goal.loop-string-smaller
loop-string-smaller c = falls _ _ c.loop-string-test.true

pub returns-clause-rows : goal.returns-clause-rows
returns-clause-rows c = each_end (label_row c.args.text.now) c.args.strings.now _ c.loop-string.string-index c.loop-string-test.false c.loop-string.invariant.lead

pub returns-clause-labels : goal.returns-clause-labels
returns-clause-labels c = c.loop-string.invariant.made ∙ ap (map (text_value c.args.text.now)) (take_all c.loop-string.string-index c.args.strings.now c.loop-string-test.false)
