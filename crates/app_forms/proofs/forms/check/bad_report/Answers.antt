use Rattle.std.proofs.Common.{◌∙◌, ap, subst}
use Rattle.first_fault.specs.Answers.{IsFaultOrNoMemory}
use Rattle.first_fault.specs.Outcomes.{refusals as refusals_of}
use Rattle.report_text.specs.Reading.{bad_line, report_pass}
use Rattle.app_forms.specs.Lines.{bad_line_line}
use Rattle.app_forms.specs.Reading.{Judges}
use Rattle.app_forms.specs.declared.status.Status.TheVariants.{TextFault}
use Rattle.app_forms.proofs.Checks.{line_judged}
use Rattle.app_forms.proofs.Refusals.{told_gives}
use Rattle.app_forms.proofs.forms.check.bad_report.Goals as goal

-- the line tells the report's bad line
pub returns-in-BadLine : goal.returns-in-BadLine
returns-in-BadLine c =
    let d = c.args.diagram.now in
    let names = c.args.names.now in
    let name = c.args.name.now in
    let bytes = c.args.bytes.now in
    told_gives (refusals_of (Judges d names name bytes)) TextFault (bad_line_line c.as_bytes.result.now c.in-BadLine.line) c.bad_line.result c.told.result
    (λ told e. line_judged d names told name bytes (record {
      at = c.in-BadLine.line;
      is_bad = subst (IsFaultOrNoMemory bad_line (report_pass d names bytes)) c.in-BadLine.is c.requires;
      says = e ∙ ap (λ n. bad_line_line n c.in-BadLine.line) c.as_bytes.ensures.value;
    }))
    c.bad_line.ensures
    c.told.ensures
