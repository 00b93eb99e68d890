use Rattle.std.proofs.Common.{sym, subst}
use Rattle.maid_model.specs.Answers.{FitsDiagram}
use Rattle.form_tests.specs.Checking.{reply_diagram}
use Rattle.form_tests.proofs.FittingReports.{fits}
use Rattle.form_tests.proofs.checking.verdict.Goals as goal

pub check-requires-clause-fits : goal.check-requires-clause-fits
check-requires-clause-fits c =
    subst (λ d. FitsDiagram d c.in_ok-report.field-0) (sym c.requires.diagram)
    (subst (FitsDiagram reply_diagram) (sym c.in_ok-report.ensures)
    (fits c.args.first c.args.second c.args.plan c.args.gain (record { choice = c.requires.first; worth = c.requires.first_worth }) (record { choice = c.requires.second; worth = c.requires.second_worth }) (record { choice = c.requires.plan; worth = c.requires.plan_worth }) c.requires.gain))
