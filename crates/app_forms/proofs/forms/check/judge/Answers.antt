use Rattle.app_forms.specs.Outcome.{written}
use Rattle.app_forms.proofs.Checks.{verdict_judged}
use Rattle.app_forms.proofs.forms.check.judge.Goals as goal

-- the verdict is that on the report which the bytes are
pub returns-in_ok-output-in-Ok-clause-ok : goal.returns-in_ok-output-in-Ok-clause-ok
returns-in_ok-output-in-Ok-clause-ok c =
    let made = c.in_ok-output-in-Ok in
    verdict_judged c.args.diagram.now c.args.names.now c.args.name.now c.args.bytes.now (written made.field-0.status made.field-0.text.items) (record {
      solved = c.in-Ok.solved;
      is_report = c.in-Ok.ensures.ok;
      verdict = c.in_ok-check-in-Ok.field-0;
      is_verdict = c.in_ok-check-in-Ok.ensures.verdict;
      sound = c.in_ok-check-in-Ok.ensures.sound;
      ends = made.ensures.status;
      says = made.ensures.text;
    })
