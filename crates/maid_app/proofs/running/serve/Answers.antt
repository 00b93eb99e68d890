use Rattle.std.proofs.Common.{◌∙◌, le_refl, refl, subst, sym}
use Rattle.std.proofs.lemmas.Option.{none-some, same_Some}
use Rattle.std.proofs.lemmas.Result.{IfOk-from_err}
use Rattle.std.specs.Io.KnownBytes.{Appends}
use Rattle.maid_io.specs.Whole.{AppendsPart}
use Rattle.app_forms.specs.Form.{request_by}
use Rattle.app_forms.specs.Refusal.{status_of}
use Rattle.app_forms.specs.Request.{requested}
use Rattle.maid_app.specs.Steps.{IsOfOutput}
use Rattle.maid_app.specs.Told.{IsAfterWriting, KeepsFileLimits}
use Rattle.app_forms.specs.declared.status.Status.TheVariants.{Absent, ReadFault, Usage, WriteFault}
use Rattle.maid_app.proofs.HandedOn.{err_handed, not_after, other_status}
use Rattle.maid_app.proofs.Steps.{keeps, says, wrote}
use Rattle.maid_app.proofs.running.serve.Goals as goal

-- the words are of no form
pub returns-in_default-clause-err : goal.returns-in_default-clause-err
returns-in_default-clause-err g c = (sym c.in_default.ensures, refl)

pub returns-in_default-clause-bounded : goal.returns-in_default-clause-bounded
returns-in_default-clause-bounded g c = subst (λ r. KeepsFileLimits (g.H.Shelf.list c.args.shelf.now) r Usage (g.H.Shelf.given c.args.shelf.now)) c.in_default.ensures tt

pub returns-in_default-clause-demo_reads_nothing : goal.returns-in_default-clause-demo_reads_nothing
returns-in_default-clause-demo_reads_nothing g c = λ k asks. refl

pub returns-in_default-clause-usage : goal.returns-in_default-clause-usage
returns-in_default-clause-usage g c = (λ e. sym c.in_default.ensures, λ none. refl)

pub returns-in_default-clause-untouched_shelf : goal.returns-in_default-clause-untouched_shelf
returns-in_default-clause-untouched_shelf g c = λ e. refl

pub returns-in_default-clause-part : goal.returns-in_default-clause-part
returns-in_default-clause-part g c = other_status Usage WriteFault refl

pub returns-in_default-clause-absent_cause : goal.returns-in_default-clause-absent_cause
returns-in_default-clause-absent_cause g c = other_status Usage Absent refl

pub returns-in_default-clause-read_cause : goal.returns-in_default-clause-read_cause
returns-in_default-clause-read_cause g c = other_status Usage ReadFault refl

pub returns-in_default-clause-write_cause : goal.returns-in_default-clause-write_cause
returns-in_default-clause-write_cause g c = other_status Usage WriteFault refl

pub returns-in_default-clause-untouched : goal.returns-in_default-clause-untouched
returns-in_default-clause-untouched g c = λ no. refl

pub returns-in_default-clause-not_after : goal.returns-in_default-clause-not_after
returns-in_default-clause-not_after g c = λ after. after

pub returns-in_default-clause-out_faults : goal.returns-in_default-clause-out_faults
returns-in_default-clause-out_faults g c = le_refl _

pub returns-in_default-clause-faults : goal.returns-in_default-clause-faults
returns-in_default-clause-faults g c = le_refl _

pub returns-in_default-clause-absences : goal.returns-in_default-clause-absences
returns-in_default-clause-absences g c = le_refl _

pub returns-in_default-clause-list : goal.returns-in_default-clause-list
returns-in_default-clause-list g c = refl

-- or there is no text for them
pub returns-in_err-output-clause-ok : goal.returns-in_err-output-clause-ok
returns-in_err-output-clause-ok g c = IfOk-from_err _ _ c.from_residual.ensures.0

pub returns-in_err-output-clause-after : goal.returns-in_err-output-clause-after
returns-in_err-output-clause-after g c = IfOk-from_err _ _ c.from_residual.ensures.0

pub returns-in_err-output-clause-ok_words : goal.returns-in_err-output-clause-ok_words
returns-in_err-output-clause-ok_words g c = IfOk-from_err _ _ c.from_residual.ensures.0

pub returns-in_err-output-clause-bounded_done : goal.returns-in_err-output-clause-bounded_done
returns-in_err-output-clause-bounded_done g c = IfOk-from_err _ _ c.from_residual.ensures.0

pub returns-in_err-output-clause-err : goal.returns-in_err-output-clause-err
returns-in_err-output-clause-err g c = err_handed c.from_residual.result c.in_err-output.field-0.0 _ c.from_residual.ensures (says (g.H.Shelf.list c.args.shelf.now) (requested c.args.words.now) (request_by c.in-Some.form) (g.H.Shelf.given c.output_of.new.shelf) c.in-Some.ensures c.in_err-output.field-0.0 c.in_err-output.ensures.err)

pub returns-in_err-output-clause-bounded : goal.returns-in_err-output-clause-bounded
returns-in_err-output-clause-bounded g c = err_handed c.from_residual.result c.in_err-output.field-0.0 _ c.from_residual.ensures (keeps (g.H.Shelf.list c.args.shelf.now) (requested c.args.words.now) (request_by c.in-Some.form) (g.H.Shelf.given c.output_of.new.shelf) c.in-Some.ensures (status_of c.in_err-output.field-0.0) c.in_err-output.ensures.err.bounded)

pub returns-in_err-output-clause-demo_reads_nothing : goal.returns-in_err-output-clause-demo_reads_nothing
returns-in_err-output-clause-demo_reads_nothing g c = λ k asks. c.output_of.ensures.own k (same_Some _ _ (c.in-Some.ensures ∙ asks))

pub returns-in_err-output-clause-usage : goal.returns-in_err-output-clause-usage
returns-in_err-output-clause-usage g c = err_handed c.from_residual.result c.in_err-output.field-0.0 _ c.from_residual.ensures (λ e. absurd (subst IsOfOutput e c.in_err-output.ensures.err.before), λ none. absurd (none-some _ (sym (c.in-Some.ensures ∙ none))))

pub returns-in_err-output-clause-untouched_shelf : goal.returns-in_err-output-clause-untouched_shelf
returns-in_err-output-clause-untouched_shelf g c = err_handed c.from_residual.result c.in_err-output.field-0.0 _ c.from_residual.ensures (λ e. absurd (subst IsOfOutput e c.in_err-output.ensures.err.before))

pub returns-in_err-output-clause-part : goal.returns-in_err-output-clause-part
returns-in_err-output-clause-part g c = err_handed c.from_residual.result c.in_err-output.field-0.0 _ c.from_residual.ensures (λ e. absurd (subst IsOfOutput e c.in_err-output.ensures.err.before))

pub returns-in_err-output-clause-absent_cause : goal.returns-in_err-output-clause-absent_cause
returns-in_err-output-clause-absent_cause g c = err_handed c.from_residual.result c.in_err-output.field-0.0 _ c.from_residual.ensures c.in_err-output.ensures.absent_cause

pub returns-in_err-output-clause-read_cause : goal.returns-in_err-output-clause-read_cause
returns-in_err-output-clause-read_cause g c = err_handed c.from_residual.result c.in_err-output.field-0.0 _ c.from_residual.ensures c.in_err-output.ensures.read_cause

pub returns-in_err-output-clause-write_cause : goal.returns-in_err-output-clause-write_cause
returns-in_err-output-clause-write_cause g c = err_handed c.from_residual.result c.in_err-output.field-0.0 _ c.from_residual.ensures (λ e. absurd (subst IsOfOutput e c.in_err-output.ensures.err.before))

pub returns-in_err-output-clause-untouched : goal.returns-in_err-output-clause-untouched
returns-in_err-output-clause-untouched g c = err_handed c.from_residual.result c.in_err-output.field-0.0 _ c.from_residual.ensures (λ no. refl)

pub returns-in_err-output-clause-not_after : goal.returns-in_err-output-clause-not_after
returns-in_err-output-clause-not_after g c = err_handed c.from_residual.result c.in_err-output.field-0.0 _ c.from_residual.ensures (λ after. not_after IsOfOutput (λ h. h) (λ h. h) (status_of c.in_err-output.field-0.0) after c.in_err-output.ensures.err.before)

pub returns-in_err-output-clause-out_faults : goal.returns-in_err-output-clause-out_faults
returns-in_err-output-clause-out_faults g c = le_refl _

pub returns-in_err-output-clause-faults : goal.returns-in_err-output-clause-faults
returns-in_err-output-clause-faults g c = c.output_of.ensures.faults

pub returns-in_err-output-clause-absences : goal.returns-in_err-output-clause-absences
returns-in_err-output-clause-absences g c = c.output_of.ensures.absences

pub returns-in_err-output-clause-list : goal.returns-in_err-output-clause-list
returns-in_err-output-clause-list g c = c.output_of.ensures.list

-- or the whole text was taken
pub returns-in-Ok-clause-ok : goal.returns-in-Ok-clause-ok
returns-in-Ok-clause-ok g c = wrote (g.H.Shelf.list c.args.shelf.now) (requested c.args.words.now) (request_by c.in-Some.form) (g.H.Shelf.given c.output_of.new.shelf) c.in-Some.ensures (Appends (g.O.Sink.taken c.args.out.now) (g.O.Sink.taken c.write_all.new.sink)) c.in_ok-output.output c.in_ok-output.ensures.ok (subst (Appends (g.O.Sink.taken c.args.out.now) (g.O.Sink.taken c.write_all.new.sink)) c.deref.ensures.value c.in-Ok.ensures.ok)

pub returns-in-Ok-clause-after : goal.returns-in-Ok-clause-after
returns-in-Ok-clause-after g c = c.in_ok-output.ensures.ok.after

pub returns-in-Ok-clause-ok_words : goal.returns-in-Ok-clause-ok_words
returns-in-Ok-clause-ok_words g c = λ none. absurd (none-some _ (sym (c.in-Some.ensures ∙ none)))

pub returns-in-Ok-clause-bounded_done : goal.returns-in-Ok-clause-bounded_done
returns-in-Ok-clause-bounded_done g c = keeps (g.H.Shelf.list c.args.shelf.now) (requested c.args.words.now) (request_by c.in-Some.form) (g.H.Shelf.given c.output_of.new.shelf) c.in-Some.ensures c.in_ok-output.output.status (c.in_ok-output.ensures.ok.bounded c.in_ok-output.output.status (λ e. subst IsAfterWriting e c.in_ok-output.ensures.ok.after))

pub returns-in-Ok-clause-demo_reads_nothing : goal.returns-in-Ok-clause-demo_reads_nothing
returns-in-Ok-clause-demo_reads_nothing g c = λ k asks. c.output_of.ensures.own k (same_Some _ _ (c.in-Some.ensures ∙ asks))

pub returns-in-Ok-clause-out_faults : goal.returns-in-Ok-clause-out_faults
returns-in-Ok-clause-out_faults g c = c.write_all.ensures.faults

pub returns-in-Ok-clause-faults : goal.returns-in-Ok-clause-faults
returns-in-Ok-clause-faults g c = c.output_of.ensures.faults

pub returns-in-Ok-clause-absences : goal.returns-in-Ok-clause-absences
returns-in-Ok-clause-absences g c = c.output_of.ensures.absences

pub returns-in-Ok-clause-list : goal.returns-in-Ok-clause-list
returns-in-Ok-clause-list g c = c.output_of.ensures.list

-- or a front of it
pub returns-clause-err : goal.returns-clause-err
returns-clause-err g c = refl

pub returns-clause-bounded : goal.returns-clause-bounded
returns-clause-bounded g c = keeps (g.H.Shelf.list c.args.shelf.now) (requested c.args.words.now) (request_by c.in-Some.form) (g.H.Shelf.given c.output_of.new.shelf) c.in-Some.ensures WriteFault (c.in_ok-output.ensures.ok.bounded WriteFault (other_status WriteFault Absent refl))

pub returns-clause-usage : goal.returns-clause-usage
returns-clause-usage g c = (other_status WriteFault Usage refl, λ none. absurd (none-some _ (sym (c.in-Some.ensures ∙ none))))

pub returns-clause-untouched_shelf : goal.returns-clause-untouched_shelf
returns-clause-untouched_shelf g c = other_status WriteFault Usage refl

pub returns-clause-absent_cause : goal.returns-clause-absent_cause
returns-clause-absent_cause g c = other_status WriteFault Absent refl

pub returns-clause-read_cause : goal.returns-clause-read_cause
returns-clause-read_cause g c = other_status WriteFault ReadFault refl

pub returns-clause-write_cause : goal.returns-clause-write_cause
returns-clause-write_cause g c = λ _. c.in-Err.ensures.cause

pub returns-clause-untouched : goal.returns-clause-untouched
returns-clause-untouched g c = λ no. absurd (no refl)

pub returns-clause-not_after : goal.returns-clause-not_after
returns-clause-not_after g c = λ after. after

pub returns-clause-demo_reads_nothing : goal.returns-clause-demo_reads_nothing
returns-clause-demo_reads_nothing g c = λ k asks. c.output_of.ensures.own k (same_Some _ _ (c.in-Some.ensures ∙ asks))

pub returns-clause-out_faults : goal.returns-clause-out_faults
returns-clause-out_faults g c = c.write_all.ensures.faults

pub returns-clause-faults : goal.returns-clause-faults
returns-clause-faults g c = c.output_of.ensures.faults

pub returns-clause-absences : goal.returns-clause-absences
returns-clause-absences g c = c.output_of.ensures.absences

pub returns-clause-list : goal.returns-clause-list
returns-clause-list g c = c.output_of.ensures.list

pub returns-clause-part : goal.returns-clause-part
returns-clause-part g c = λ e. (
  c.in_ok-output.output.status,
  wrote (g.H.Shelf.list c.args.shelf.now) (requested c.args.words.now) (request_by c.in-Some.form) (g.H.Shelf.given c.output_of.new.shelf) c.in-Some.ensures
      (AppendsPart (g.O.Sink.taken c.args.out.now) (g.O.Sink.taken c.write_all.new.sink)) c.in_ok-output.output c.in_ok-output.ensures.ok
      (subst (AppendsPart (g.O.Sink.taken c.args.out.now) (g.O.Sink.taken c.write_all.new.sink)) c.deref.ensures.value c.in-Err.ensures.part),
)
