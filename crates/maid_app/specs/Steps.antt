-- What the steps of a run come to before anything is written. Only contracts of private functions
-- cite this.
use Rattle.std.specs.Prelude.{◌≡◌, ◌≢◌, ◌↔◌, ◌⊎◌, ℕ, List, Option, None, Some, String, IfOk, IfErr, Result, Err}
use Rattle.std.specs.Global.{Vec}
use Rattle.maid_io.specs.Device.{File}
use Rattle.maid_io.specs.declared.devices.Shelf.{Ghosts as ShelfGhosts}
use Rattle.maid_io.specs.declared.devices.Sink.{Ghosts as SinkGhosts}
use Rattle.app_forms.specs.Lines.{no_memory_line}
use Rattle.app_forms.specs.Laws.{OneStatus, ClearOrRefused, RefusedAsBytes, WrittenAsText, ClearIfAnswered, IsOfBytes}
use Rattle.app_forms.specs.Refusal.{status_of, line_of}
use Rattle.app_forms.specs.Request.{Request, IsOfFile, requested}
use Rattle.maid_app.specs.Told.{AppendsWhole, KeepsFileLimits, KeepsLimitsOf, HasNoBytes, HasText, IsAfterWriting, IsFileText, IsTextFor, LeadsTo, RoseIn, Says, IsUnread, WritesPart, KeepsLimit, limit_of}
use Rattle.app_forms.specs.declared.output.Output.{Output}
use Rattle.app_forms.specs.declared.refusal.Refusal.{Refusal}
use Rattle.app_forms.specs.declared.status.Status.{Status}
use Rattle.app_forms.specs.declared.status.Status.TheVariants.{Done, Usage, Absent, WriteFault, NoMemory, Rejected}
use Rattle.app_forms.specs.Outcome.{Written, Refused, refused}
use Rattle.first_fault.specs.Outcomes.{Outcomes}

-- the laws of what comes of a request's bytes
pub record RequestLaws : Type 0 where
  pub one : OneStatus
  pub clear : ClearOrRefused
  pub refused : RefusedAsBytes
  pub written : WrittenAsText
  pub answered : ClearIfAnswered

-- why a request's bytes were not had: its file's were not, or memory ran out
abbrev pub HasNoText : Option (List File) → Request → ℕ → Status → List ℕ → Type 0
HasNoText list request given NoMemory told = told ≡ no_memory_line
HasNoText list request given status told = HasNoBytes list request given status told

-- what was asked leads to a request whose text this is, and the files keep their limits, whatever
-- the run ends with
pub record LeadsToText
    (list : Option (List File)) (asked : Request) (given : ℕ) (output : Output) : Type 0 where
  pub request : Request
  pub leads : LeadsTo list asked request
  pub text : HasText list request given output.status output.text.items
  pub after : IsAfterWriting output.status
  pub bounded :
      (status : Status) → (status ≡ Absent → ⊥) → KeepsFileLimits list (Some asked) status given

-- a status with which a run is refused before its output is made
abbrev pub IsOfOutput : Status → Type 0
IsOfOutput Done = ⊥
IsOfOutput Usage = ⊥
IsOfOutput WriteFault = ⊥
IsOfOutput Rejected = ⊥
IsOfOutput status = Unit {0}

-- memory ran out, or the status is of the bytes, and it and the line come of them
abbrev pub RefusesAs : Outcomes Written Refused → Status → List ℕ → Type 0
RefusesAs Comes status told = ((status ≡ NoMemory) × (told ≡ no_memory_line))
    ⊎ (IsOfBytes status × Comes (Err (refused status told)))

-- the refusal says why there is no such text, and the files keep their limits
pub record LeadsToRefusal
    (list : Option (List File)) (asked : Request) (given : ℕ) (refusal : Refusal) : Type 0 where
  pub says : Says list (Some asked) given (status_of refusal) (line_of refusal)
  pub before : IsOfOutput (status_of refusal)
  pub bounded : KeepsFileLimits list (Some asked) (status_of refusal) given

-- a refusal with that status has its cause: the device's count rose
abbrev pub IsCounted : {D : Type 0} → Status → (D → ℕ) → D → D → Refusal → Type 0
IsCounted status count before now refusal = status_of refusal ≡ status → RoseIn count before now

-- the bytes were read of the file and keep its limit
abbrev pub GivesFileText : Option (List File) → List ℕ → ℕ → ℕ → Vec ℕ → Type 0
GivesFileText list name limit given bytes = IsFileText list name limit given bytes.items

-- where it is refused, the file keeps its limit
abbrev pub RefusesWithinLimit : ℕ → ℕ → Refusal → Type 0
RefusesWithinLimit limit given refusal = KeepsLimit limit (status_of refusal) given

-- so does the file of the words that was started last
abbrev pub RefusesWithinLimits :
    {Z S : Type 0} → List (String Z) → ShelfGhosts S → S → S → Refusal → Type 0
RefusesWithinLimits words shelf before now refusal =
    KeepsLimitsOf words shelf before now (status_of refusal)

-- ---- what a refusal says, by its status and its line
-- why a file's bytes were not had
abbrev pub RefusesFile : Option (List File) → List ℕ → ℕ → ℕ → Refusal → Type 0
RefusesFile list name limit given refusal =
    IsUnread list name limit given (status_of refusal) (line_of refusal)

-- what the bytes come to
abbrev pub RefusesBytes : Outcomes Written Refused → Refusal → Type 0
RefusesBytes Comes refusal = RefusesAs Comes (status_of refusal) (line_of refusal)

-- why not the whole text was written
abbrev pub RefusesWords :
    {Z S : Type 0} → List (String Z) → ShelfGhosts S → S → S → Refusal → Type 0
RefusesWords words shelf before now refusal =
    Says (shelf.list before) (requested words) (shelf.given now) (status_of refusal)
    (line_of refusal)

-- the words are of no form just where the refusal says so
abbrev pub IsUsageFor : {Z : Type 0} → List (String Z) → Refusal → Type 0
IsUsageFor words refusal = (status_of refusal ≡ Usage) ↔ (requested words ≡ None)

-- it is so where the refusal has that status
abbrev pub WhereStatus : Status → Type 0 → Refusal → Type 0
WhereStatus status So refusal = status_of refusal ≡ status → So

-- it is so where the refusal has another status
abbrev pub UnlessStatus : Status → Type 0 → Refusal → Type 0
UnlessStatus status So refusal = status_of refusal ≢ status → So

-- where nothing is refused, the whole text was appended
abbrev pub ServesWhole : {Z S O : Type 0} → List (String Z) → ShelfGhosts S → S → S
    → SinkGhosts O → O → O → Result Status Refusal → Type 0
ServesWhole words shelf before now sink out out_now result =
    IfOk result (AppendsWhole words shelf before now sink out out_now)

-- where writing failed, a proper front of it was
abbrev pub StopsInText : {Z S O : Type 0} → List (String Z) → ShelfGhosts S → S → S
    → SinkGhosts O → O → O → Result Status Refusal → Type 0
StopsInText words shelf before now sink out out_now result = IfErr result
    (λ refusal. WritesPart words shelf before now sink out out_now (status_of refusal))

-- the file of the request, where it has one, keeps its limit
abbrev pub KeepsFileLimit : Request → ℕ → Refusal → Type 0
KeepsFileLimit request given refusal =
    IsOfFile request → KeepsLimit (limit_of request) (status_of refusal) given

-- ---- what a request comes to on a shelf, before and now
-- the bytes are its text
abbrev pub GivesBytes : {S : Type 0} → Request → ShelfGhosts S → S → S → Vec ℕ → Type 0
GivesBytes request shelf before now bytes =
    IsTextFor (shelf.list before) request (shelf.given now) bytes.items

-- its bytes were not had, and the refusal says why
abbrev pub LacksBytes : {S : Type 0} → Request → ShelfGhosts S → S → S → Refusal → Type 0
LacksBytes request shelf before now refusal = HasNoText (shelf.list before) request
    (shelf.given now) (status_of refusal) (line_of refusal)

-- it leads to the output
abbrev pub MakesText : {S : Type 0} → Request → ShelfGhosts S → S → S → Output → Type 0
MakesText request shelf before now output =
    LeadsToText (shelf.list before) request (shelf.given now) output

-- it leads to the refusal
abbrev pub LacksText : {S : Type 0} → Request → ShelfGhosts S → S → S → Refusal → Type 0
LacksText request shelf before now refusal =
    LeadsToRefusal (shelf.list before) request (shelf.given now) refusal
