-- What a run read, wrote and told.
use Rattle.std.specs.Prelude.{◌≡◌, ◌≢◌, ◌<◌, ◌≤◌, ◌+◌, ◌⊎◌, ℕ, List, length, Option, None, Some, Ok, Err, String, IfSome, IsSomeAnd}
use Rattle.std.specs.Io.KnownBytes.{Appends}
use Rattle.app_lines.specs.Demo.{demo_text}
use Rattle.maid_io.specs.Count.{Rose}
use Rattle.maid_io.specs.Device.{File, file_of}
use Rattle.maid_io.specs.declared.devices.Shelf.{Ghosts as ShelfGhosts}
use Rattle.maid_io.specs.declared.devices.Sink.{Ghosts as SinkGhosts}
use Rattle.maid_io.specs.Whole.{AppendsPart}
use Rattle.maid_app.specs.declared.running.TheConstants.{LIMIT, REPORT_LIMIT}
use Rattle.app_forms.specs.Answers.{Answers, FindsNothing, CanAnswer}
use Rattle.app_forms.specs.Lines.{usage_line, absent_line, read_fault_line, too_long_line, write_fault_line, no_memory_line}
use Rattle.app_forms.specs.Outcome.{written, refused, Written, Refused}
use Rattle.app_forms.specs.Request.{Request, check, judge, demo, file_name, requested, IsOfFile}
use Rattle.app_forms.specs.declared.status.Status.{Status}
use Rattle.app_forms.specs.declared.status.Status.TheVariants.{Done, Usage, Absent, ReadFault, TextTooLong, WriteFault, NoMemory, Rejected}
use Rattle.app_forms.specs.Diagrams.{IsDiagramOf}
use Rattle.maid_model.specs.Names.{NamesView}
use Rattle.maid_model.specs.Views.{DiagramView}

-- the most bytes of the file that a request names: a report's, or a diagram's
abbrev pub limit_of : Request → ℕ
limit_of (judge text report) = REPORT_LIMIT
limit_of request = LIMIT

-- These bytes were read of the file and keep its limit. The shelf counted them, and where its list
-- is told they are the file's.
pub record IsFileText
    (list : Option (List File)) (name : List ℕ) (limit given : ℕ) (bytes : List ℕ) : Type 0 where
  pub told : IfSome list (λ files. file_of files name ≡ Some bytes)
  pub counted : given ≡ length bytes
  pub fits : length bytes ≤ limit

-- the bytes are the request's text: the generated one, or that of its file
abbrev pub IsTextFor : Option (List File) → Request → ℕ → List ℕ → Type 0
IsTextFor list (demo k) given bytes = bytes ≡ demo_text k
IsTextFor list request given bytes =
    IsFileText list (file_name request) (limit_of request) given bytes

-- In the file that the words of a check name first, which keeps its limit and where the list is
-- told has these bytes, nothing is found: the report in the other file is to be judged.
pub record IsJudging (list : Option (List File)) (asked request : Request) : Type 0 where
  pub file : List ℕ
  pub report : List ℕ
  pub text : List ℕ
  pub asks : asked ≡ check file report
  pub judges : request ≡ judge text report
  pub there : IfSome list (λ files. file_of files file ≡ Some text)
  pub fits : length text ≤ LIMIT
  pub clear : FindsNothing (check file report) text

-- what the words asked for leads to the request: it is that itself, or the second step of a check
abbrev pub LeadsTo : Option (List File) → Request → Request → Type 0
LeadsTo list asked request = (request ≡ asked) ⊎ IsJudging list asked request

-- the words lead to a request of which that holds
abbrev pub OfRequest : Option (List File) → Option Request → (Request → Type 0) → Type 0
OfRequest list requested Holds =
    IsSomeAnd requested (λ asked. (request : Request) × LeadsTo list asked request × Holds request)

-- One byte more than the limit was read of the file. Where the list is told the file has more bytes
-- than the limit.
pub record IsTooLong (list : Option (List File)) (name : List ℕ) (limit given : ℕ) : Type 0 where
  pub told : IfSome list (λ files. IsSomeAnd (file_of files name) (λ bytes. limit < length bytes))
  pub counted : given ≡ limit + 1

-- that status, or want of memory
abbrev pub IsOneOf : Status → Status → Type 0
IsOneOf status wanted = (status ≡ wanted) ⊎ (status ≡ NoMemory)

-- At most one byte more than the limit was given, that one only of a file that is too long, and
-- nothing of an absent one.
pub record KeepsLimit (limit : ℕ) (status : Status) (given : ℕ) : Type 0 where
  pub most : given ≤ limit + 1
  pub one_more : limit < given → IsOneOf status TextTooLong
  pub absent : status ≡ Absent → given ≡ 0

-- and so of the file that was started last, where the words name one
abbrev pub KeepsFileLimits : Option (List File) → Option Request → Status → ℕ → Type 0
KeepsFileLimits list requested status given = IfSome requested (λ asked.
    (request : Request) × LeadsTo list asked request
    × (IsOfFile request → KeepsLimit (limit_of request) status given))

-- where the list is told it lacks the name
abbrev pub IsAbsent : Option (List File) → List ℕ → Type 0
IsAbsent list name = IfSome list (λ files. file_of files name ≡ None)

-- with that status the text is what comes of the request on its own text
pub record HasText
    (list : Option (List File)) (request : Request) (given : ℕ) (status : Status) (printed : List ℕ)
    : Type 0 where
  pub bytes : List ℕ
  pub is_text : IsTextFor list request given bytes
  pub answers : Answers request bytes (Ok (written status printed))

-- the text that the words lead to was taken so, and the run is to end with that status
abbrev pub WritesText :
    Option (List File) → Option Request → ℕ → (List ℕ → Type 0) → Status → Type 0
WritesText list requested given IsTaken status = OfRequest list requested (λ request.
    (printed : List ℕ) × HasText list request given status printed × IsTaken printed)

-- a status that comes after the whole text was written: its own, or that of a verdict
abbrev pub IsAfterWriting : Status → Type 0
IsAfterWriting Done = Unit {0}
IsAfterWriting Rejected = Unit {0}
IsAfterWriting status = ⊥

-- the limits of the files are kept that the shelf started
abbrev pub KeepsLimitsOf :
    {Z S : Type 0} → List (String Z) → ShelfGhosts S → S → S → Status → Type 0
KeepsLimitsOf words shelf before now status =
    KeepsFileLimits (shelf.list before) (requested words) status (shelf.given now)

-- it is so where the words ask for a demo
abbrev pub WhereDemo : {Z : Type 0} → List (String Z) → Type 0 → Type 0
WhereDemo words So = (k : ℕ) → requested words ≡ Some (demo k) → So

-- ---- What the sink `out` took, on a shelf, each before the run and now
-- the whole text that the words lead to was appended
abbrev pub AppendsWhole : {Z S O : Type 0} → List (String Z) → ShelfGhosts S → S → S
    → SinkGhosts O → O → O → Status → Type 0
AppendsWhole words shelf before now sink out out_now status =
    WritesText (shelf.list before) (requested words) (shelf.given now)
    (Appends (sink.taken out) (sink.taken out_now)) status

-- so it was, where the run ended after writing
abbrev pub WritesWhole : {Z S O : Type 0} → List (String Z) → ShelfGhosts S → S → S
    → SinkGhosts O → O → O → Status → Type 0
WritesWhole words shelf before now sink out out_now status =
    IsAfterWriting status → AppendsWhole words shelf before now sink out out_now status

-- a proper front of it was, where writing failed
abbrev pub WritesPart : {Z S O : Type 0} → List (String Z) → ShelfGhosts S → S → S
    → SinkGhosts O → O → O → Status → Type 0
WritesPart words shelf before now sink out out_now ended = ended ≡ WriteFault → (status : Status)
    × WritesText (shelf.list before) (requested words) (shelf.given now)
    (AppendsPart (sink.taken out) (sink.taken out_now)) status

-- the request comes to nothing on its text's bytes, with that status and that line
pub record Refuses
    (list : Option (List File)) (request : Request) (given : ℕ) (status : Status) (told : List ℕ) :
    Type 0 where
  pub bytes : List ℕ
  pub is_text : IsTextFor list request given bytes
  pub answers : Answers request bytes (Err (refused status told))

-- why a file's bytes were not had, and the line that says so
abbrev pub IsUnread : Option (List File) → List ℕ → ℕ → ℕ → Status → List ℕ → Type 0
IsUnread list name limit given Absent told = IsAbsent list name × (told ≡ absent_line name)
IsUnread list name limit given ReadFault told = told ≡ read_fault_line name
IsUnread list name limit given TextTooLong told =
    IsTooLong list name limit given × (told ≡ too_long_line name)
IsUnread list name limit given NoMemory told = told ≡ no_memory_line
IsUnread list name limit given status told = ⊥

-- why a request's bytes were not had: its file's were not
abbrev pub HasNoBytes : Option (List File) → Request → ℕ → Status → List ℕ → Type 0
HasNoBytes list request given status told =
    IsOfFile request × IsUnread list (file_name request) (limit_of request) given status told

-- What a status tells behind which not the whole text was written, and the line that is told with
-- it: of the words, of reading, of writing, of memory, or else of the request's bytes.
abbrev pub Says : Option (List File) → Option Request → ℕ → Status → List ℕ → Type 0
Says list requested given Usage told = (requested ≡ None) × (told ≡ usage_line)
Says list requested given Absent told =
    OfRequest list requested (λ request. HasNoBytes list request given Absent told)
Says list requested given ReadFault told =
    OfRequest list requested (λ request. HasNoBytes list request given ReadFault told)
Says list requested given TextTooLong told =
    OfRequest list requested (λ request. HasNoBytes list request given TextTooLong told)
Says list requested given WriteFault told = told ≡ write_fault_line
Says list requested given NoMemory told = told ≡ no_memory_line
Says list requested given status told =
    OfRequest list requested (λ request. Refuses list request given status told)

-- that count of a device rose
abbrev pub RoseIn : {D : Type 0} → (D → ℕ) → D → D → Type 0
RoseIn count before now = Rose (count before) (count now)

-- the whole line was taken, or where a write failed a proper front of it
abbrev pub TakesLine : Option (List ℕ) → Option (List ℕ) → ℕ → ℕ → List ℕ → Type 0
TakesLine old new before now told =
    Appends old new told ⊎ (Rose before now × AppendsPart old new told)

-- so of the sink `err`
abbrev pub TakesLineIn : {E : Type 0} → SinkGhosts E → E → E → List ℕ → Type 0
TakesLineIn sink err err_now told =
    TakesLine (sink.taken err) (sink.taken err_now) (sink.faults err) (sink.faults err_now) told

-- the words lead to this, which names a file, and the shelf tells that this file has these bytes
pub record HasFile
    (list : Option (List File)) (requested : Option Request) (request : Request) (bytes : List ℕ) :
    Type 0 where
  pub asked : Request
  pub asks : requested ≡ Some asked
  pub leads : LeadsTo list asked request
  pub of_file : IsOfFile request
  pub files : List File
  pub told : list ≡ Some files
  pub there : file_of files (file_name request) ≡ Some bytes

-- such a file, whose bytes keep the limit
pub record HasFileWithin
    (list : Option (List File)) (requested : Option Request) (request : Request) (bytes : List ℕ) :
    Type 0 where
  pub has : HasFile list requested request bytes
  pub fits : length bytes ≤ limit_of request

-- the words lead to what names a file, and the shelf tells that it lacks it
pub record LacksFile (list : Option (List File)) (requested : Option Request) : Type 0 where
  pub asked : Request
  pub asks : requested ≡ Some asked
  pub request : Request
  pub leads : LeadsTo list asked request
  pub of_file : IsOfFile request
  pub files : List File
  pub told : list ≡ Some files
  pub absent : file_of files (file_name request) ≡ None

-- a status that is of reading a file
abbrev pub IsOfReading : Status → Type 0
IsOfReading Absent = Unit {0}
IsOfReading ReadFault = Unit {0}
IsOfReading TextTooLong = Unit {0}
IsOfReading status = ⊥

-- unless the whole text was written, `err` took the line that says why not
abbrev pub SaysWhyNot : {Z S E : Type 0} → List (String Z) → ShelfGhosts S → S → S
    → SinkGhosts E → E → E → Status → Type 0
SaysWhyNot words shelf before now sink err err_now status = ¬ IsAfterWriting status
    → (line : List ℕ) × Says (shelf.list before) (requested words) (shelf.given now) status line
    × TakesLineIn sink err err_now line

-- a status that comes before the first write to `out`
abbrev pub IsBeforeWriting : Status → Type 0
IsBeforeWriting Done = ⊥
IsBeforeWriting Rejected = ⊥
IsBeforeWriting WriteFault = ⊥
IsBeforeWriting status = Unit {0}

-- The run wrote its text or memory ran out. Only a report that is judged may be rejected; of the
-- first step of a check nothing is said here, since the second decides.
abbrev pub EndsWell : Request → Status → Type 0
EndsWell (check file report) status = Unit {0}
EndsWell (judge text report) status = IsOneOf status Done ⊎ (status ≡ Rejected)
EndsWell request status = IsOneOf status Done

-- ---- What always comes of a file that the words lead to and the shelf tells, or want of memory
-- it is so unless reading failed
abbrev pub UnlessUnread : Status → Type 0 → Type 0
UnlessUnread status So = status ≢ ReadFault → So

-- it is so unless reading or writing failed
abbrev pub UnlessFailed : Status → Type 0 → Type 0
UnlessFailed status So = status ≢ ReadFault → status ≢ WriteFault → So

-- the shelf tells that it lacks the file
abbrev pub AlwaysAbsent : {Z : Type 0} → List (String Z) → Option (List File) → Status → Type 0
AlwaysAbsent words list status =
    LacksFile list (requested words) → UnlessUnread status (IsOneOf status Absent)

-- the file passes its limit
abbrev pub AlwaysTooLong : {Z : Type 0} → List (String Z) → Option (List File) → Status → Type 0
AlwaysTooLong words list status = (request : Request) (bytes : List ℕ)
    → HasFile list (requested words) request bytes → limit_of request < length bytes
    → UnlessUnread status (IsOneOf status TextTooLong)

-- the request is refused on its bytes
abbrev pub AlwaysRefused : {Z : Type 0} → List (String Z) → Option (List File) → Status → Type 0
AlwaysRefused words list status = (request : Request) (bytes : List ℕ)
    → HasFileWithin list (requested words) request bytes → (refusal : Refused)
    → Answers request bytes (Err refusal) → UnlessUnread status (IsOneOf status refusal.status)

-- nothing is found in its bytes
abbrev pub AlwaysDone : {Z : Type 0} → List (String Z) → Option (List File) → Status → Type 0
AlwaysDone words list status = (request : Request) (bytes : List ℕ)
    → HasFileWithin list (requested words) request bytes → FindsNothing request bytes
    → UnlessFailed status (EndsWell request status)

-- its bytes stand for a diagram that can be answered
abbrev pub AlwaysAnswers : {Z : Type 0} → List (String Z) → Option (List File) → Status → Type 0
AlwaysAnswers words list status = (request : Request) (bytes : List ℕ)
    → HasFileWithin list (requested words) request bytes → (d : DiagramView) (names : NamesView)
    → IsDiagramOf bytes d names → CanAnswer request d names
    → UnlessFailed status (EndsWell request status)

-- an output comes of its bytes
abbrev pub AlwaysWritten : {Z : Type 0} → List (String Z) → Option (List File) → Status → Type 0
AlwaysWritten words list status = (request : Request) (bytes : List ℕ)
    → HasFileWithin list (requested words) request bytes → (output : Written)
    → Answers request bytes (Ok output) → UnlessFailed status (IsOneOf status output.status)

-- the generated text of a demo is refused
abbrev pub AlwaysDemoRefused : {Z : Type 0} → List (String Z) → Status → Type 0
AlwaysDemoRefused words status = (k : ℕ) → requested words ≡ Some (demo k) → (refusal : Refused)
    → Answers (demo k) (demo_text k) (Err refusal) → IsOneOf status refusal.status

-- nothing is found in it
abbrev pub AlwaysDemoDone : {Z : Type 0} → List (String Z) → Status → Type 0
AlwaysDemoDone words status = (k : ℕ) → requested words ≡ Some (demo k)
    → FindsNothing (demo k) (demo_text k) → status ≢ WriteFault → IsOneOf status Done
