use Rattle.std.proofs.Common.{◌∙◌, le_refl, refl, subst}
use Rattle.app_forms.specs.Refusal.{status_of, line_of}
use Rattle.maid_app.specs.Told.{IsAfterWriting, IsBeforeWriting, TakesLineIn}
use Rattle.maid_app.proofs.Generated.{own_not_reading, own_not_written_reading, own_well, own_refused, own_done, done_own_refused}
use Rattle.maid_app.proofs.HandedOn.{not_after, taken}
use Rattle.maid_app.proofs.Outcomes.{only_absent, only_too_long, only_refused, only_done, only_written, done_not_absent, done_not_too_long, done_refused, done_well, done_written}
use Rattle.maid_app.proofs.running.run.Goals as goal

-- the text was written and nothing was told
pub returns-in-Ok-clause-silent : goal.returns-in-Ok-clause-silent
returns-in-Ok-clause-silent g c = λ _. refl

pub returns-in-Ok-clause-told : goal.returns-in-Ok-clause-told
returns-in-Ok-clause-told g c = λ not_after. absurd (not_after c.in-Ok.ensures.after)

pub returns-in-Ok-clause-usage : goal.returns-in-Ok-clause-usage
returns-in-Ok-clause-usage g c = (λ e. absurd (subst IsAfterWriting e c.in-Ok.ensures.after), λ none. absurd (c.in-Ok.ensures.ok_words none))

pub returns-in-Ok-clause-usage_reads_nothing : goal.returns-in-Ok-clause-usage_reads_nothing
returns-in-Ok-clause-usage_reads_nothing g c = λ e. absurd (subst IsAfterWriting e c.in-Ok.ensures.after)

pub returns-in-Ok-clause-bounded : goal.returns-in-Ok-clause-bounded
returns-in-Ok-clause-bounded g c = c.in-Ok.ensures.bounded_done

pub returns-in-Ok-clause-demo_reads_nothing : goal.returns-in-Ok-clause-demo_reads_nothing
returns-in-Ok-clause-demo_reads_nothing g c = c.in-Ok.ensures.demo_reads_nothing

pub returns-in-Ok-clause-done : goal.returns-in-Ok-clause-done
returns-in-Ok-clause-done g c = λ _. c.in-Ok.ensures.ok

pub returns-in-Ok-clause-part : goal.returns-in-Ok-clause-part
returns-in-Ok-clause-part g c = λ e. absurd (subst IsAfterWriting e c.in-Ok.ensures.after)

pub returns-in-Ok-clause-untouched : goal.returns-in-Ok-clause-untouched
returns-in-Ok-clause-untouched g c = λ before. absurd (not_after IsBeforeWriting (λ h. h) (λ h. h) c.in-Ok.status c.in-Ok.ensures.after before)

pub returns-in-Ok-clause-absent_cause : goal.returns-in-Ok-clause-absent_cause
returns-in-Ok-clause-absent_cause g c = λ e. absurd (subst IsAfterWriting e c.in-Ok.ensures.after)

pub returns-in-Ok-clause-read_cause : goal.returns-in-Ok-clause-read_cause
returns-in-Ok-clause-read_cause g c = λ e. absurd (subst IsAfterWriting e c.in-Ok.ensures.after)

pub returns-in-Ok-clause-write_cause : goal.returns-in-Ok-clause-write_cause
returns-in-Ok-clause-write_cause g c = λ e. absurd (subst IsAfterWriting e c.in-Ok.ensures.after)

pub returns-in-Ok-clause-list : goal.returns-in-Ok-clause-list
returns-in-Ok-clause-list g c = c.in-Ok.ensures.list

pub returns-in-Ok-clause-faults : goal.returns-in-Ok-clause-faults
returns-in-Ok-clause-faults g c = c.in-Ok.ensures.faults

pub returns-in-Ok-clause-absences : goal.returns-in-Ok-clause-absences
returns-in-Ok-clause-absences g c = c.in-Ok.ensures.absences

pub returns-in-Ok-clause-out_faults : goal.returns-in-Ok-clause-out_faults
returns-in-Ok-clause-out_faults g c = c.in-Ok.ensures.out_faults

pub returns-in-Ok-clause-err_faults : goal.returns-in-Ok-clause-err_faults
returns-in-Ok-clause-err_faults g c = le_refl _

-- the line was told
pub returns-in-Err-clause-told : goal.returns-in-Err-clause-told
returns-in-Err-clause-told g c = λ _. (
  line_of c.in-Err.refusal,
  rw c.status.ensures c.in-Err.ensures.err,
  subst (TakesLineIn g.E.Sink c.args.err.now c.write_all.new.sink) c.line.ensures (taken c.write_all.result c.write_all.ensures.ok c.write_all.ensures.part c.write_all.ensures.cause),
)

pub returns-in-Err-clause-silent : goal.returns-in-Err-clause-silent
returns-in-Err-clause-silent g c = λ after. absurd (c.in-Err.ensures.not_after (subst IsAfterWriting c.status.ensures after))

pub returns-in-Err-clause-done : goal.returns-in-Err-clause-done
returns-in-Err-clause-done g c = λ after. absurd (c.in-Err.ensures.not_after (subst IsAfterWriting c.status.ensures after))

pub returns-in-Err-clause-usage : goal.returns-in-Err-clause-usage
returns-in-Err-clause-usage g c = rw c.status.ensures c.in-Err.ensures.usage

pub returns-in-Err-clause-usage_reads_nothing : goal.returns-in-Err-clause-usage_reads_nothing
returns-in-Err-clause-usage_reads_nothing g c = rw c.status.ensures c.in-Err.ensures.untouched_shelf

pub returns-in-Err-clause-bounded : goal.returns-in-Err-clause-bounded
returns-in-Err-clause-bounded g c = rw c.status.ensures c.in-Err.ensures.bounded

pub returns-in-Err-clause-demo_reads_nothing : goal.returns-in-Err-clause-demo_reads_nothing
returns-in-Err-clause-demo_reads_nothing g c = c.in-Err.ensures.demo_reads_nothing

pub returns-in-Err-clause-part : goal.returns-in-Err-clause-part
returns-in-Err-clause-part g c = rw c.status.ensures c.in-Err.ensures.part

pub returns-in-Err-clause-untouched : goal.returns-in-Err-clause-untouched
returns-in-Err-clause-untouched g c = λ before. c.in-Err.ensures.untouched (λ e. subst IsBeforeWriting (c.status.ensures ∙ e) before)

pub returns-in-Err-clause-absent_cause : goal.returns-in-Err-clause-absent_cause
returns-in-Err-clause-absent_cause g c = rw c.status.ensures c.in-Err.ensures.absent_cause

pub returns-in-Err-clause-read_cause : goal.returns-in-Err-clause-read_cause
returns-in-Err-clause-read_cause g c = rw c.status.ensures c.in-Err.ensures.read_cause

pub returns-in-Err-clause-write_cause : goal.returns-in-Err-clause-write_cause
returns-in-Err-clause-write_cause g c = rw c.status.ensures c.in-Err.ensures.write_cause

pub returns-in-Err-clause-list : goal.returns-in-Err-clause-list
returns-in-Err-clause-list g c = c.in-Err.ensures.list

pub returns-in-Err-clause-faults : goal.returns-in-Err-clause-faults
returns-in-Err-clause-faults g c = c.in-Err.ensures.faults

pub returns-in-Err-clause-absences : goal.returns-in-Err-clause-absences
returns-in-Err-clause-absences g c = c.in-Err.ensures.absences

pub returns-in-Err-clause-out_faults : goal.returns-in-Err-clause-out_faults
returns-in-Err-clause-out_faults g c = c.in-Err.ensures.out_faults

pub returns-in-Err-clause-err_faults : goal.returns-in-Err-clause-err_faults
returns-in-Err-clause-err_faults g c = c.write_all.ensures.faults

-- a run that ended well took the file's text, so the file is there, keeps the limit and is not
-- refused
pub returns-in-Ok-clause-always_absent : goal.returns-in-Ok-clause-always_absent
returns-in-Ok-clause-always_absent g c lacks no_read = absurd (done_not_absent c.request_laws.ensures _ _ _ lacks _ c.in-Ok.status c.in-Ok.ensures.ok)

pub returns-in-Ok-clause-always_too_long : goal.returns-in-Ok-clause-always_too_long
returns-in-Ok-clause-always_too_long g c request bytes has long no_read = absurd (done_not_too_long c.request_laws.ensures _ _ _ request bytes has long _ c.in-Ok.status c.in-Ok.ensures.ok)

pub returns-in-Ok-clause-always_refused : goal.returns-in-Ok-clause-always_refused
returns-in-Ok-clause-always_refused g c request bytes has refusal is no_read = absurd (done_refused c.request_laws.ensures _ _ _ request bytes has.has _ c.in-Ok.status c.in-Ok.ensures.ok refusal is)

pub returns-in-Ok-clause-always_done : goal.returns-in-Ok-clause-always_done
returns-in-Ok-clause-always_done g c request bytes has clear no_read no_write = done_well c.request_laws.ensures _ _ _ request bytes has.has _ c.in-Ok.status c.in-Ok.ensures.ok

pub returns-in-Ok-clause-always_answers : goal.returns-in-Ok-clause-always_answers
returns-in-Ok-clause-always_answers g c request bytes has d names is can no_read no_write = done_well c.request_laws.ensures _ _ _ request bytes has.has _ c.in-Ok.status c.in-Ok.ensures.ok

pub returns-in-Ok-clause-always_written : goal.returns-in-Ok-clause-always_written
returns-in-Ok-clause-always_written g c request bytes has output is no_read no_write = done_written c.request_laws.ensures _ _ _ request bytes has.has _ c.in-Ok.status c.in-Ok.ensures.ok output is

-- what was told is what the file comes to
pub returns-in-Err-clause-always_absent : goal.returns-in-Err-clause-always_absent
returns-in-Err-clause-always_absent g c lacks no_read =
    rw c.status.ensures (only_absent c.request_laws.ensures _ _ _ lacks (status_of c.in-Err.refusal) (line_of c.in-Err.refusal) _ c.in-Err.ensures.err (λ e. no_read (c.status.ensures ∙ e)) c.in-Err.ensures.part)

pub returns-in-Err-clause-always_too_long : goal.returns-in-Err-clause-always_too_long
returns-in-Err-clause-always_too_long g c request bytes has long no_read =
    rw c.status.ensures (only_too_long c.request_laws.ensures _ _ _ request bytes has long (status_of c.in-Err.refusal) (line_of c.in-Err.refusal) _ c.in-Err.ensures.err (λ e. no_read (c.status.ensures ∙ e)) c.in-Err.ensures.part)

pub returns-in-Err-clause-always_refused : goal.returns-in-Err-clause-always_refused
returns-in-Err-clause-always_refused g c request bytes has refusal is no_read =
    rw c.status.ensures (only_refused c.request_laws.ensures _ _ _ request bytes has.has has.fits (status_of c.in-Err.refusal) (line_of c.in-Err.refusal) _ c.in-Err.ensures.err (λ e. no_read (c.status.ensures ∙ e)) c.in-Err.ensures.part refusal is)

pub returns-in-Err-clause-always_done : goal.returns-in-Err-clause-always_done
returns-in-Err-clause-always_done g c request bytes has clear no_read no_write =
    rw c.status.ensures (only_done c.request_laws.ensures _ _ _ request bytes has.has has.fits (status_of c.in-Err.refusal) (line_of c.in-Err.refusal) c.in-Err.ensures.err (λ e. no_read (c.status.ensures ∙ e)) (λ e. no_write (c.status.ensures ∙ e)) clear)

pub returns-in-Err-clause-always_answers : goal.returns-in-Err-clause-always_answers
returns-in-Err-clause-always_answers g c request bytes has d names is can no_read no_write =
    rw c.status.ensures (only_done c.request_laws.ensures _ _ _ request bytes has.has has.fits (status_of c.in-Err.refusal) (line_of c.in-Err.refusal) c.in-Err.ensures.err (λ e. no_read (c.status.ensures ∙ e)) (λ e. no_write (c.status.ensures ∙ e)) (c.request_laws.ensures.answered request bytes d names is can))

pub returns-in-Err-clause-always_written : goal.returns-in-Err-clause-always_written
returns-in-Err-clause-always_written g c request bytes has output is no_read no_write =
    rw c.status.ensures (only_written c.request_laws.ensures _ _ _ request bytes has.has has.fits (status_of c.in-Err.refusal) (line_of c.in-Err.refusal) c.in-Err.ensures.err (λ e. no_read (c.status.ensures ∙ e)) (λ e. no_write (c.status.ensures ∙ e)) output is)

-- so it is where the text is generated
pub returns-in-Ok-clause-demo_status : goal.returns-in-Ok-clause-demo_status
returns-in-Ok-clause-demo_status g c k asks = own_not_written_reading _ _ _ k asks c.request_laws.ensures _ c.in-Ok.status c.in-Ok.ensures.ok

pub returns-in-Ok-clause-always_demo_refused : goal.returns-in-Ok-clause-always_demo_refused
returns-in-Ok-clause-always_demo_refused g c k asks refusal is = absurd (done_own_refused _ _ _ k asks c.request_laws.ensures _ c.in-Ok.status c.in-Ok.ensures.ok refusal is)

pub returns-in-Ok-clause-always_demo_done : goal.returns-in-Ok-clause-always_demo_done
returns-in-Ok-clause-always_demo_done g c k asks clear no_write = own_well _ _ _ k asks c.request_laws.ensures _ c.in-Ok.status c.in-Ok.ensures.ok

pub returns-in-Err-clause-demo_status : goal.returns-in-Err-clause-demo_status
returns-in-Err-clause-demo_status g c k asks = rw c.status.ensures (own_not_reading _ _ _ k asks c.request_laws.ensures (status_of c.in-Err.refusal) (line_of c.in-Err.refusal) c.in-Err.ensures.err)

pub returns-in-Err-clause-always_demo_refused : goal.returns-in-Err-clause-always_demo_refused
returns-in-Err-clause-always_demo_refused g c k asks refusal is =
    rw c.status.ensures (own_refused _ _ _ k asks c.request_laws.ensures (status_of c.in-Err.refusal) (line_of c.in-Err.refusal) _ c.in-Err.ensures.err c.in-Err.ensures.part refusal is)

pub returns-in-Err-clause-always_demo_done : goal.returns-in-Err-clause-always_demo_done
returns-in-Err-clause-always_demo_done g c k asks clear no_write =
    rw c.status.ensures (own_done _ _ _ k asks c.request_laws.ensures (status_of c.in-Err.refusal) (line_of c.in-Err.refusal) c.in-Err.ensures.err (λ e. no_write (c.status.ensures ∙ e)) clear)
