-- What a form of words does with its file.
use Rattle.std.specs.Prelude.{◌≡◌, ℕ, List}
use Rattle.first_fault.specs.Outcomes.{Outcomes, staged}
use Rattle.maid_io.specs.Device.{File}
use Rattle.maid_model.specs.Names.{NamesView}
use Rattle.maid_model.specs.Views.{DiagramView}
use Rattle.app_forms.specs.Diagrams.{of_diagram}
use Rattle.app_forms.specs.Outcome.{Written, Refused}
use Rattle.app_forms.specs.Stages.{Stage, Finds}
use Rattle.app_forms.specs.declared.status.Status.TheVariants.{Done}

-- the stages that may refuse the file, in order, and else what is written
pub record Task : Type 1 where
  pub stages : List Stage
  pub Gives : File → Written → Type 0

-- after these stages a run is done with a text of the file's diagram and names
abbrev pub text_task : List Stage → (DiagramView → NamesView → List ℕ → Type 0) → Task
text_task stages IsTextOf = record {
  stages = stages;
  Gives = λ file output. (output.status ≡ Done) × of_diagram file.1 IsTextOf output.text;
}

-- what comes of the task on the bytes of the file of that name: what its stages find first, or else
-- what it gives
unfoldable pub comes_of : Task → List ℕ → List ℕ → Outcomes Written Refused
comes_of task name bytes = staged Finds task.stages task.Gives (name, bytes)
