use Rattle.std.proofs.Common.{◌≡◌, inl, refl, sym, subst, Ok}
use Rattle.std.proofs.lemmas.Result.{IfOk-weaker, IfErr-weaker}
use Rattle.maid_io.specs.Count.{Rose}
use Rattle.app_forms.specs.Check.{examining}
use Rattle.app_forms.specs.Outcome.{written}
use Rattle.app_forms.specs.Reading.{IsExamined, Judges, TellsOf}
use Rattle.app_forms.specs.Refusal.{status_of, line_of}
use Rattle.app_forms.specs.Request.{check}
use Rattle.maid_app.specs.Steps.{LeadsToText, LeadsToRefusal}
use Rattle.app_forms.specs.Tasks.{comes_of}
use Rattle.maid_app.specs.Told.{IsOfReading}
use Rattle.app_forms.specs.declared.status.Status.TheVariants.{Absent, ReadFault}
use Rattle.maid_app.proofs.HandedOn.{err_handed, rose_later}
use Rattle.maid_app.proofs.Judging.{examining_refuses, report_unread, report_judged, report_refused, report_not_reading}
use Rattle.maid_app.proofs.Steps.{bytes_refused, file_refused, no_text, not_reading}
use Rattle.maid_app.proofs.running.check_output.Goals as goal

-- the diagram's file is not read
pub returns-in_err-text-clause-err : goal.returns-in_err-text-clause-err
returns-in_err-text-clause-err g c =
    let own = check c.args.file.now c.args.report.now in
    let list = g.H.Shelf.list c.args.shelf.now in
    let given = g.H.Shelf.given c.read_file.new.shelf in
    let refusal = c.in_err-text.field-0.0 in
    err_handed c.from_residual.result refusal _ c.from_residual.ensures
    (file_refused list own own given (inl refl) refusal (no_text list own given (status_of refusal) (line_of refusal) tt c.in_err-text.ensures.err) (λ of. c.in_err-text.ensures.bounded))

-- a stage refuses its bytes
pub returns-in_err-diagram-clause-err : goal.returns-in_err-diagram-clause-err
returns-in_err-diagram-clause-err g c =
    let file = c.args.file.now in
    let report = c.args.report.now in
    let own = check file report in
    let list = g.H.Shelf.list c.args.shelf.now in
    let given = g.H.Shelf.given c.read_file.new.shelf in
    let text = c.in_ok-text.text.items in
    let refusal = c.in_err-diagram.field-0.0 in
    err_handed c.from_residual-in_err-diagram.result refusal _ c.from_residual-in_err-diagram.ensures
    (bytes_refused list own own given (inl refl) text c.in_ok-text.ensures.ok refusal (examining_refuses c.request_laws.ensures file report text refusal (subst (λ b. TellsOf (comes_of examining file b) refusal) c.deref.ensures.value c.in_err-diagram.ensures.err)))

pub returns-in_err-diagram-clause-absent_cause : goal.returns-in_err-diagram-clause-absent_cause
returns-in_err-diagram-clause-absent_cause g c =
    let file = c.args.file.now in
    let report = c.args.report.now in
    let own = check file report in
    let list = g.H.Shelf.list c.args.shelf.now in
    let given = g.H.Shelf.given c.read_file.new.shelf in
    let text = c.in_ok-text.text.items in
    let refusal = c.in_err-diagram.field-0.0 in
    err_handed c.from_residual-in_err-diagram.result refusal _ c.from_residual-in_err-diagram.ensures
    (λ same. absurd (not_reading list own own given (inl refl) text c.in_ok-text.ensures.ok refusal (examining_refuses c.request_laws.ensures file report text refusal (subst (λ b. TellsOf (comes_of examining file b) refusal) c.deref.ensures.value c.in_err-diagram.ensures.err)) (subst IsOfReading (sym same) tt)))

pub returns-in_err-diagram-clause-read_cause : goal.returns-in_err-diagram-clause-read_cause
returns-in_err-diagram-clause-read_cause g c =
    let file = c.args.file.now in
    let report = c.args.report.now in
    let own = check file report in
    let list = g.H.Shelf.list c.args.shelf.now in
    let given = g.H.Shelf.given c.read_file.new.shelf in
    let text = c.in_ok-text.text.items in
    let refusal = c.in_err-diagram.field-0.0 in
    err_handed c.from_residual-in_err-diagram.result refusal _ c.from_residual-in_err-diagram.ensures
    (λ same. absurd (not_reading list own own given (inl refl) text c.in_ok-text.ensures.ok refusal (examining_refuses c.request_laws.ensures file report text refusal (subst (λ b. TellsOf (comes_of examining file b) refusal) c.deref.ensures.value c.in_err-diagram.ensures.err)) (subst IsOfReading (sym same) tt)))

-- the report's file is not read
pub returns-in_err-bytes-clause-err : goal.returns-in_err-bytes-clause-err
returns-in_err-bytes-clause-err g c =
    let file = c.args.file.now in
    let report = c.args.report.now in
    let list = g.H.Shelf.list c.args.shelf.now in
    let later = g.H.Shelf.list c.read_file.new.shelf in
    let given = g.H.Shelf.given c.read_file-2.new.shelf in
    let d = c.in_ok-diagram.diagram in
    let names = c.in_ok-diagram.names in
    let refusal = c.in_err-bytes.field-0.0 in
    err_handed c.from_residual-in_err-bytes.result refusal _ c.from_residual-in_err-bytes.ensures
    (report_unread c.request_laws.ensures list file report c.in_ok-text.text.items d names (g.H.Shelf.given c.read_file.new.shelf) c.in_ok-text.ensures.ok (subst (λ b. IsExamined b d names) c.deref.ensures.value c.in_ok-diagram.ensures.ok) later c.in_ok-text.ensures.list given refusal c.in_err-bytes.ensures.err c.in_err-bytes.ensures.bounded)

-- the verdict is given
pub returns-clause-ok : goal.returns-clause-ok
returns-clause-ok g c =
    let file = c.args.file.now in
    let report = c.args.report.now in
    let list = g.H.Shelf.list c.args.shelf.now in
    let given = g.H.Shelf.given c.read_file-2.new.shelf in
    let d = c.in_ok-diagram.diagram in
    let names = c.in_ok-diagram.names in
    IfOk-weaker c.judge.result (λ output. Judges d names report c.deref-2.result.now (Ok (written output.status output.text.items))) (LeadsToText list (check file report) given)
    (λ output h. report_judged c.request_laws.ensures list file report c.in_ok-text.text.items d names (g.H.Shelf.given c.read_file.new.shelf) c.in_ok-text.ensures.ok (subst (λ b. IsExamined b d names) c.deref.ensures.value c.in_ok-diagram.ensures.ok) (g.H.Shelf.list c.read_file.new.shelf) c.in_ok-text.ensures.list given c.in_ok-bytes.bytes.items c.in_ok-bytes.ensures.ok output (subst (λ b. Judges d names report b (Ok (written output.status output.text.items))) c.deref-2.ensures.value h))
    c.judge.ensures.ok

-- or the bytes are no report
pub returns-clause-err : goal.returns-clause-err
returns-clause-err g c =
    let file = c.args.file.now in
    let report = c.args.report.now in
    let list = g.H.Shelf.list c.args.shelf.now in
    let given = g.H.Shelf.given c.read_file-2.new.shelf in
    let d = c.in_ok-diagram.diagram in
    let names = c.in_ok-diagram.names in
    IfErr-weaker c.judge.result (TellsOf (Judges d names report c.deref-2.result.now)) (LeadsToRefusal list (check file report) given)
    (λ refusal h. report_refused c.request_laws.ensures list file report c.in_ok-text.text.items d names (g.H.Shelf.given c.read_file.new.shelf) c.in_ok-text.ensures.ok (subst (λ b. IsExamined b d names) c.deref.ensures.value c.in_ok-diagram.ensures.ok) (g.H.Shelf.list c.read_file.new.shelf) c.in_ok-text.ensures.list given c.in_ok-bytes.bytes.items c.in_ok-bytes.ensures.ok refusal (subst (λ b. TellsOf (Judges d names report b) refusal) c.deref-2.ensures.value h))
    c.judge.ensures.err

pub returns-clause-absent_cause : goal.returns-clause-absent_cause
returns-clause-absent_cause g c =
    let file = c.args.file.now in
    let report = c.args.report.now in
    let list = g.H.Shelf.list c.args.shelf.now in
    let given = g.H.Shelf.given c.read_file-2.new.shelf in
    let d = c.in_ok-diagram.diagram in
    let names = c.in_ok-diagram.names in
    IfErr-weaker c.judge.result (TellsOf (Judges d names report c.deref-2.result.now)) (λ refusal. status_of refusal ≡ Absent → Rose (g.H.Shelf.absences c.args.shelf.now) (g.H.Shelf.absences c.read_file-2.new.shelf))
    (λ refusal h same. absurd (report_not_reading c.request_laws.ensures list file report c.in_ok-text.text.items d names (g.H.Shelf.given c.read_file.new.shelf) c.in_ok-text.ensures.ok (subst (λ b. IsExamined b d names) c.deref.ensures.value c.in_ok-diagram.ensures.ok) (g.H.Shelf.list c.read_file.new.shelf) c.in_ok-text.ensures.list given c.in_ok-bytes.bytes.items c.in_ok-bytes.ensures.ok refusal (subst (λ b. TellsOf (Judges d names report b) refusal) c.deref-2.ensures.value h) (subst IsOfReading (sym same) tt)))
    c.judge.ensures.err

pub returns-clause-read_cause : goal.returns-clause-read_cause
returns-clause-read_cause g c =
    let file = c.args.file.now in
    let report = c.args.report.now in
    let list = g.H.Shelf.list c.args.shelf.now in
    let given = g.H.Shelf.given c.read_file-2.new.shelf in
    let d = c.in_ok-diagram.diagram in
    let names = c.in_ok-diagram.names in
    IfErr-weaker c.judge.result (TellsOf (Judges d names report c.deref-2.result.now)) (λ refusal. status_of refusal ≡ ReadFault → Rose (g.H.Shelf.faults c.args.shelf.now) (g.H.Shelf.faults c.read_file-2.new.shelf))
    (λ refusal h same. absurd (report_not_reading c.request_laws.ensures list file report c.in_ok-text.text.items d names (g.H.Shelf.given c.read_file.new.shelf) c.in_ok-text.ensures.ok (subst (λ b. IsExamined b d names) c.deref.ensures.value c.in_ok-diagram.ensures.ok) (g.H.Shelf.list c.read_file.new.shelf) c.in_ok-text.ensures.list given c.in_ok-bytes.bytes.items c.in_ok-bytes.ensures.ok refusal (subst (λ b. TellsOf (Judges d names report b) refusal) c.deref-2.ensures.value h) (subst IsOfReading (sym same) tt)))
    c.judge.ensures.err

pub returns-in_err-bytes-clause-absent_cause : goal.returns-in_err-bytes-clause-absent_cause
returns-in_err-bytes-clause-absent_cause g c = err_handed c.from_residual-in_err-bytes.result c.in_err-bytes.field-0.0 _ c.from_residual-in_err-bytes.ensures (λ same. rose_later _ _ _ c.read_file.ensures.absences (c.in_err-bytes.ensures.absent_cause same))

pub returns-in_err-bytes-clause-read_cause : goal.returns-in_err-bytes-clause-read_cause
returns-in_err-bytes-clause-read_cause g c = err_handed c.from_residual-in_err-bytes.result c.in_err-bytes.field-0.0 _ c.from_residual-in_err-bytes.ensures (λ same. rose_later _ _ _ c.read_file.ensures.faults (c.in_err-bytes.ensures.read_cause same))
