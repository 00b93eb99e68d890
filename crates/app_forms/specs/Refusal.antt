-- Why a run doesn't write the whole text of its form.
use Rattle.std.specs.Prelude.{ℕ, List, Option, None, Some}
use Rattle.app_forms.specs.Lines.{usage_line, write_fault_line, no_memory_line}
use Rattle.app_forms.specs.Outcome.{Refused, refused}
use Rattle.app_forms.specs.declared.refusal.Refusal.{Refusal}
use Rattle.app_forms.specs.declared.refusal.Refusal.TheVariants as refusals
use Rattle.app_forms.specs.declared.status.Status.{Status}
use Rattle.app_forms.specs.declared.status.Status.TheVariants.{Usage, WriteFault, NoMemory}
use Rattle.first_fault.specs.Answers.{IsFaultOrNoMemory}
use Rattle.first_fault.specs.Passes.{Pass}

-- the status of each refusal
abbrev pub status_of : Refusal → Status
status_of refusals.Usage = Usage
status_of (refusals.Told status told) = status
status_of refusals.WriteFault = WriteFault
status_of refusals.NoMemory = NoMemory

-- the line of each refusal
abbrev pub line_of : Refusal → List ℕ
line_of refusals.Usage = usage_line
line_of (refusals.Told status told) = told.items
line_of refusals.WriteFault = write_fault_line
line_of refusals.NoMemory = no_memory_line

-- what is refused, or None where memory ran out
abbrev pub refused_as : Refusal → Option Refused
refused_as refusals.NoMemory = None
refused_as refusal = Some (refused (status_of refusal) (line_of refusal))

-- the refusal is the first fault of the pass, or tells that memory ran out
abbrev pub RefusesBy : Pass Refused → Refusal → Type 0
RefusesBy P refusal = IsFaultOrNoMemory refused_as P refusal
