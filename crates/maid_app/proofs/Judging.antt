-- The second step of a check: where nothing is found in the first file, the words lead to the
-- report.
use Rattle.std.proofs.Common.{◌≡◌, inr, ℕ, List, Option, Result, Ok, Err, refl, subst}
use Rattle.maid_io.specs.Device.{File}
use Rattle.maid_model.specs.Names.{NamesView}
use Rattle.maid_model.specs.Views.{DiagramView}
use Rattle.app_forms.specs.Answers.{Answers}
use Rattle.app_forms.specs.Check.{examining}
use Rattle.app_forms.specs.Outcome.{Written, Refused, written}
use Rattle.app_forms.specs.Reading.{IsExamined, Judges, TellsOf}
use Rattle.app_forms.specs.Refusal.{status_of, line_of}
use Rattle.app_forms.specs.Request.{check, judge}
use Rattle.maid_app.specs.Steps.{RequestLaws, LeadsToText, LeadsToRefusal, RefusesAs}
use Rattle.app_forms.specs.Tasks.{comes_of}
use Rattle.maid_app.specs.Told.{IsFileText, IsUnread, KeepsLimit, LeadsTo, IsOfReading}
use Rattle.app_forms.specs.declared.output.Output.{Output}
use Rattle.app_forms.specs.declared.refusal.Refusal.{Refusal}
use Rattle.maid_app.specs.declared.running.TheConstants.{LIMIT, REPORT_LIMIT}
use Rattle.maid_app.proofs.Ends.{gives_after, refuses_by}
use Rattle.maid_app.proofs.Steps.{text_made, bytes_refused, not_reading, file_refused, no_text}

-- what comes of the report's file, with a text of the diagram at hand
here : (text report bytes : List ℕ) (d : DiagramView) (names : NamesView) (outcome : Result Written Refused) → IsExamined text d names → Judges d names report bytes outcome → Answers (judge text report) bytes outcome
unfolding Answers
here text report bytes d names outcome e h = h text e.is

-- what comes of the first file, on its bytes
pub examining_refuses : RequestLaws → (file report bytes : List ℕ) (refusal : Refusal) → TellsOf (comes_of examining file bytes) refusal → RefusesAs (Answers (check file report) bytes) (status_of refusal) (line_of refusal)
unfolding Answers
examining_refuses laws file report bytes refusal h = refuses_by laws (check file report) bytes (Answers (check file report) bytes) (λ f k. k) refusal h

module _ (laws : RequestLaws) (list : Option (List File)) (file report text : List ℕ) (d : DiagramView) (names : NamesView) (before : ℕ) (is : IsFileText list file LIMIT before text) (e : IsExamined text d names) where
  leads : LeadsTo list (check file report) (judge text report)
  leads = inr (record { file = file; report = report; text = text; asks = refl; judges = refl; there = is.told; fits = is.fits; clear = laws.answered (check file report) text d names e.is e.can })

  module _ (later : Option (List File)) (same : later ≡ list) (given : ℕ) where
    -- its bytes are not had
    pub report_unread : (refusal : Refusal) → IsUnread later report REPORT_LIMIT given (status_of refusal) (line_of refusal) → KeepsLimit REPORT_LIMIT (status_of refusal) given → LeadsToRefusal list (check file report) given refusal
    report_unread refusal h keeps =
        file_refused list (check file report) (judge text report) given leads refusal
        (no_text list (judge text report) given (status_of refusal) (line_of refusal) tt (subst (λ l. IsUnread l report REPORT_LIMIT given (status_of refusal) (line_of refusal)) same h))
        (λ of. keeps)

    module _ (bytes : List ℕ) (read : IsFileText later report REPORT_LIMIT given bytes) where
      refuses : (refusal : Refusal) → TellsOf (Judges d names report bytes) refusal → RefusesAs (Answers (judge text report) bytes) (status_of refusal) (line_of refusal)
      refuses refusal h = refuses_by laws (judge text report) bytes (Judges d names report bytes) (λ f k. here text report bytes d names (Err f) e k) refusal h

      -- it is judged
      pub report_judged : (output : Output) → Judges d names report bytes (Ok (written output.status output.text.items)) → LeadsToText list (check file report) given output
      report_judged output h =
          let answers = here text report bytes d names (Ok (written output.status output.text.items)) e h in
          text_made list (check file report) (judge text report) given leads bytes (subst (λ l. IsFileText l report REPORT_LIMIT given bytes) same read) output answers
          (gives_after laws (judge text report) bytes (written output.status output.text.items) answers)

      -- or it is none
      pub report_refused : (refusal : Refusal) → TellsOf (Judges d names report bytes) refusal → LeadsToRefusal list (check file report) given refusal
      report_refused refusal h =
          bytes_refused list (check file report) (judge text report) given leads bytes (subst (λ l. IsFileText l report REPORT_LIMIT given bytes) same read) refusal (refuses refusal h)

      -- which is not told as a fault of reading
      pub report_not_reading : (refusal : Refusal) → TellsOf (Judges d names report bytes) refusal → IsOfReading (status_of refusal) → ⊥
      report_not_reading refusal h =
          not_reading list (check file report) (judge text report) given leads bytes (subst (λ l. IsFileText l report REPORT_LIMIT given bytes) same read) refusal (refuses refusal h)
