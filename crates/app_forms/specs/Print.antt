-- What `print` writes: the text of the diagram, which stands for it again.
use Rattle.std.specs.Prelude.{◌≡◌, ℕ, List, [], ◌∷◌}
use Rattle.maid_model.specs.Names.{NamesView}
use Rattle.maid_model.specs.Views.{DiagramView}
use Rattle.net_print.specs.Printed.{printed}
use Rattle.app_forms.specs.Diagrams.{IsDiagramOf}
use Rattle.app_forms.specs.Stages.{text_fault}
use Rattle.app_forms.specs.Tasks.{Task, text_task}

-- the text of the diagram, which stands for the very same diagram and names
pub record HasPrint (d : DiagramView) (names : NamesView) (told : List ℕ) : Type 0 where
  pub is : told ≡ printed d names
  pub reads_back : IsDiagramOf told d names

-- the text's fault, and else the printed diagram
abbrev pub printing : Task
printing = text_task (text_fault ∷ []) HasPrint
