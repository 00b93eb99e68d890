-- What comes of a request on its file's bytes: a text for `out`, or a refusal.
use Rattle.std.specs.Prelude.{ℕ, List, Result, Ok, Err}
use Rattle.app_forms.specs.declared.status.Status.{Status}
use Rattle.app_forms.specs.declared.status.Status.TheVariants.{Done}

-- the text for `out`, and the status that a run ends with once it is written
pub record Written : Type 0 where
  pub status : Status
  pub text : List ℕ

-- that status, and that text for `out`
abbrev pub written : Status → List ℕ → Written
written status text = record { status = status; text = text }

-- the text with which a run is done
abbrev pub done_with : List ℕ → Written
done_with text = written Done text

-- why there is no text: the status that a run ends with, and the line for `err`
pub record Refused : Type 0 where
  pub status : Status
  pub told : List ℕ

-- that status, and that line for `err`
abbrev pub refused : Status → List ℕ → Refused
refused status told = record { status = status; told = told }

-- the status that a run with this outcome ends with
abbrev pub status_with : Result Written Refused → Status
status_with (Ok output) = output.status
status_with (Err refusal) = refusal.status
