-- With which statuses a run ends for what comes of a request's bytes.
use Rattle.std.proofs.Common.{◌≡◌, ◌⊎◌, inl, inr, ℕ, List, IfErr, Result, Ok, Err, refl, sym, subst}
use Rattle.first_fault.specs.Outcomes.{Outcomes}
use Rattle.app_forms.specs.Answers.{Answers}
use Rattle.app_forms.specs.Laws.{IsOfBytes, IsOfText}
use Rattle.app_forms.specs.Outcome.{Written, Refused, refused}
use Rattle.app_forms.specs.Reading.{TellsOf}
use Rattle.app_forms.specs.Refusal.{status_of, line_of}
use Rattle.app_forms.specs.Request.{Request, solve, check, judge, graph, print, trim, pure, update, info, control, evidence, threshold, demo}
use Rattle.app_forms.specs.declared.refusal.Refusal.{Refusal}
use Rattle.app_forms.specs.declared.refusal.Refusal.TheVariants as refusals
use Rattle.app_forms.specs.declared.status.Status.{Status}
use Rattle.app_forms.specs.declared.status.Status.TheVariants.{Done, Usage, Absent, ReadFault, TextTooLong, TextFault, Cycle, WeightBound, TooLarge, WriteFault, NoMemory, Rejected, UnknownAgent, NoPure, NotOneAgent, RoundsSpent, UnknownNode, UnknownState, BelowDecision, Impossible, UnknownRow, NoOthers}
use Rattle.maid_app.specs.Steps.{RequestLaws, IsOfOutput, RefusesAs}
use Rattle.maid_app.specs.Told.{EndsWell, IsAfterWriting, IsOfReading}
use Rattle.maid_app.proofs.HandedOn.{not_after}

-- ---- refusals
-- a status of bytes is one before an output is made, and none of reading
pub of_bytes : (status : Status) → IsOfBytes status → IsOfOutput status × (IsOfReading status → ⊥)
of_bytes Done of = absurd of
of_bytes Usage of = absurd of
of_bytes Absent of = absurd of
of_bytes ReadFault of = absurd of
of_bytes TextTooLong of = absurd of
of_bytes WriteFault of = absurd of
of_bytes NoMemory of = absurd of
of_bytes Rejected of = absurd of
of_bytes TextFault of = (tt, λ reading. reading)
of_bytes Cycle of = (tt, λ reading. reading)
of_bytes WeightBound of = (tt, λ reading. reading)
of_bytes TooLarge of = (tt, λ reading. reading)
of_bytes UnknownAgent of = (tt, λ reading. reading)
of_bytes NoPure of = (tt, λ reading. reading)
of_bytes NotOneAgent of = (tt, λ reading. reading)
of_bytes RoundsSpent of = (tt, λ reading. reading)
of_bytes UnknownNode of = (tt, λ reading. reading)
of_bytes UnknownState of = (tt, λ reading. reading)
of_bytes BelowDecision of = (tt, λ reading. reading)
of_bytes Impossible of = (tt, λ reading. reading)
of_bytes UnknownRow of = (tt, λ reading. reading)
of_bytes NoOthers of = (tt, λ reading. reading)

module _ (laws : RequestLaws) (request : Request) (bytes : List ℕ) where
  as_refused : (status : Status) (told : List ℕ) → Answers request bytes (Err (refused status told)) → RefusesAs (Answers request bytes) status told
  as_refused status told h = inr (laws.refused request bytes (refused status told) h, h)

  -- what is told of an outcome that comes of the bytes too, the refusal's status and line say
  pub refuses_by : (Comes : Outcomes Written Refused) → ((f : Refused) → Comes (Err f) → Answers request bytes (Err f)) → (refusal : Refusal) → TellsOf Comes refusal → RefusesAs (Answers request bytes) (status_of refusal) (line_of refusal)
  refuses_by Comes too refusals.Usage h = as_refused (status_of refusals.Usage) (line_of refusals.Usage) (too (refused (status_of refusals.Usage) (line_of refusals.Usage)) h)
  refuses_by Comes too (refusals.Told status told) h = as_refused status told.items (too (refused status told.items) h)
  refuses_by Comes too refusals.WriteFault h = as_refused (status_of refusals.WriteFault) (line_of refusals.WriteFault) (too (refused (status_of refusals.WriteFault) (line_of refusals.WriteFault)) h)
  refuses_by Comes too refusals.NoMemory h = inl (refl, refl)

  pub refuses_if_err : {A : Type 0} (result : Result A Refusal) → IfErr result (TellsOf (Answers request bytes)) → IfErr result (λ refusal. RefusesAs (Answers request bytes) (status_of refusal) (line_of refusal))
  refuses_if_err (Ok printed) h = tt
  refuses_if_err (Err refusal) h = refuses_by (Answers request bytes) (λ f k. k) refusal h

-- ---- texts
of_text : (request : Request) (status : Status) → IsOfText request status → (status ≡ Done) ⊎ (status ≡ Rejected)
of_text (solve file) status h = inl h
of_text (check file report) status h = absurd h
of_text (judge text report) status h = h
of_text (graph file) status h = inl h
of_text (print file) status h = inl h
of_text (trim file) status h = inl h
of_text (pure file) status h = inl h
of_text (update file) status h = inl h
of_text (info file agent) status h = inl h
of_text (control file agent) status h = inl h
of_text (evidence file node state) status h = inl h
of_text (threshold file node row state) status h = inl h
of_text (demo k) status h = inl h

after_text : (status : Status) → (status ≡ Done) ⊎ (status ≡ Rejected) → IsAfterWriting status
after_text status (inl e) = subst IsAfterWriting (sym e) tt
after_text status (inr e) = subst IsAfterWriting (sym e) tt

-- what is written has a status that comes after writing
pub gives_after : RequestLaws → (request : Request) (bytes : List ℕ) (output : Written) → Answers request bytes (Ok output) → IsAfterWriting output.status
gives_after laws request bytes output h = after_text output.status (of_text request output.status (laws.written request bytes output h))

-- so what is refused is not written
pub apart : RequestLaws → (request : Request) (bytes : List ℕ) (output : Written) (refusal : Refused) → Answers request bytes (Ok output) → Answers request bytes (Err refusal) → ⊥
apart laws request bytes output refusal h k =
    not_after IsOfBytes (λ of. of) (λ of. of) output.status (gives_after laws request bytes output h)
    (subst IsOfBytes (sym (laws.one request bytes (Ok output) (Err refusal) h k)) (laws.refused request bytes refusal k))

text_ends : (request : Request) (status : Status) → IsOfText request status → EndsWell request status
text_ends (solve file) status h = inl h
text_ends (check file report) status h = tt
text_ends (judge text report) status (inl e) = inl (inl e)
text_ends (judge text report) status (inr e) = inr e
text_ends (graph file) status h = inl h
text_ends (print file) status h = inl h
text_ends (trim file) status h = inl h
text_ends (pure file) status h = inl h
text_ends (update file) status h = inl h
text_ends (info file agent) status h = inl h
text_ends (control file agent) status h = inl h
text_ends (evidence file node state) status h = inl h
text_ends (threshold file node row state) status h = inl h
text_ends (demo k) status h = inl h

-- what is written ends a run well
pub gives_well : RequestLaws → (request : Request) (bytes : List ℕ) (output : Written) → Answers request bytes (Ok output) → EndsWell request output.status
gives_well laws request bytes output h = text_ends request output.status (laws.written request bytes output h)
