-- Laws of what comes of a request.
use Rattle.std.specs.Prelude.{◌≡◌, ◌⊎◌, ℕ, List, Ok, Err}
use Rattle.first_fault.specs.Properties.{IsCovered, EndsAlike}
use Rattle.maid_model.specs.Names.{NamesView}
use Rattle.maid_model.specs.Views.{DiagramView}
use Rattle.app_forms.specs.Answers.{Answers, FindsNothing, CanAnswer}
use Rattle.app_forms.specs.Diagrams.{IsDiagramOf}
use Rattle.app_forms.specs.Outcome.{Written, Refused, status_with}
use Rattle.app_forms.specs.Request.{Request, check, judge}
use Rattle.app_forms.specs.Stages.{text_fault, Finds}
use Rattle.app_forms.specs.declared.status.Status.{Status}
use Rattle.app_forms.specs.declared.status.Status.TheVariants.{Done, Usage, Absent, ReadFault, TextTooLong, WriteFault, NoMemory, Rejected}

-- a request's file comes to one status
abbrev pub OneStatus : Type 0
OneStatus = (request : Request) (bytes : List ℕ) → EndsAlike status_with (Answers request bytes)

-- and is not refused where no stage finds anything
abbrev pub ClearOrRefused : Type 0
ClearOrRefused =
    (request : Request) (bytes : List ℕ) (refusal : Refused) → FindsNothing request bytes
    → Answers request bytes (Err refusal) → ⊥

-- a status with which bytes are refused: none of the words, of reading, of writing, of memory or of
-- a text that is written
abbrev pub IsOfBytes : Status → Type 0
IsOfBytes Done = ⊥
IsOfBytes Usage = ⊥
IsOfBytes Absent = ⊥
IsOfBytes ReadFault = ⊥
IsOfBytes TextTooLong = ⊥
IsOfBytes WriteFault = ⊥
IsOfBytes NoMemory = ⊥
IsOfBytes Rejected = ⊥
IsOfBytes status = Unit {0}

-- what is refused has such a status
abbrev pub RefusedAsBytes : Type 0
RefusedAsBytes = (request : Request) (bytes : List ℕ) (refusal : Refused)
    → Answers request bytes (Err refusal) → IsOfBytes refusal.status

-- a status with which a text comes: that of a run that is done, or of a verdict where a report is
-- judged. Of the first step of a check no text comes.
abbrev pub IsOfText : Request → Status → Type 0
IsOfText (check file report) status = ⊥
IsOfText (judge text report) status = (status ≡ Done) ⊎ (status ≡ Rejected)
IsOfText request status = status ≡ Done

-- what is written has such a status
abbrev pub WrittenAsText : Type 0
WrittenAsText = (request : Request) (bytes : List ℕ) (output : Written)
    → Answers request bytes (Ok output) → IsOfText request output.status

-- no stage finds anything in bytes that stand for a diagram which the request can answer
abbrev pub ClearIfAnswered : Type 0
ClearIfAnswered =
    (request : Request) (bytes : List ℕ) (d : DiagramView) (names : NamesView)
    → IsDiagramOf bytes d names → CanAnswer request d names → FindsNothing request bytes

-- a file's bytes stand for a diagram, or have a fault that is told
abbrev pub TextOrFault : Type 0
TextOrFault = (name bytes : List ℕ) → IsCovered (Finds text_fault (name, bytes))
