use Rattle.std.proofs.Common.{rules, refl, []}
use Rattle.app_forms.specs.Reading.{TellsFor, TellsFound}
use Rattle.app_forms.specs.Solve.{HasReport, solver_stages, solving}
use Rattle.app_forms.proofs.Refusals.{if_err_then, stages_refuse}
use Rattle.app_forms.proofs.Solving.{solved_given}
use Rattle.app_forms.proofs.forms.solve.answer.Goals as goal

-- the report is that of the diagram's answer
pub returns-clause-ok : goal.returns-clause-ok
returns-clause-ok c =
    solved_given c.args.diagram.now c.args.names.now [] HasReport c.in_ok-print_report.field-0.items (λ name bytes is. tt) c.in_ok-solved.ensures.solvable
    (record { solved = c.in_ok-solved.solved; solution = c.in_ok-solved.ensures.ok; is_report = c.in_ok-print_report.ensures })

-- what the solver's stages find refuses it
pub returns-in_err-solved-clause-err : goal.returns-in_err-solved-clause-err
returns-in_err-solved-clause-err c =
    let d = c.args.diagram.now in
    let names = c.args.names.now in
    if_err_then c.from_residual.result (TellsFound d names solver_stages) (TellsFor solving d names) (λ refusal. stages_refuse d names solving solver_stages refusal refl) (search rules)
