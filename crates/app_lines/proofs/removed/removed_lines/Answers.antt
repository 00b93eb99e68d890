use Rattle.app_lines.specs.Removed.{removed_line}
use Rattle.app_lines.proofs.Lines.{text_next}
use Rattle.std.proofs.lemmas.Result.{IfOk-from_err}
use Rattle.app_lines.proofs.removed.removed_lines.Goals as goal

pub push_removed-requires-clause-from : goal.push_removed-requires-clause-from
push_removed-requires-clause-from c = (c.requires c.loop-arc.arc-index (0, 0) c.loop-arc-test.true).0

pub push_removed-requires-clause-to : goal.push_removed-requires-clause-to
push_removed-requires-clause-to c = (c.requires c.loop-arc.arc-index (0, 0) c.loop-arc-test.true).1

pub loop-arc-preserved : goal.loop-arc-preserved
loop-arc-preserved c = text_next (removed_line c.args.names.now) c.loop-arc.text.items c.push_removed.new.out.items c.args.removed.now c.loop-arc.arc-index (0, 0) c.loop-arc-test.true c.loop-arc.invariant c.in_ok-push_removed.ensures

pub returns-in_err-push_removed : goal.returns-in_err-push_removed
returns-in_err-push_removed c = IfOk-from_err _ _ c.from_residual.ensures.0
