-- What `trim` writes: the arcs that were removed, and then the diagram without them, for which the
-- text stands.
use Rattle.std.specs.Prelude.{◌≡◌, ℕ, List, [], ◌∷◌, ◌++◌}
use Rattle.app_lines.specs.Removed.{removed_lines}
use Rattle.maid_model.specs.Names.{NamesView}
use Rattle.maid_model.specs.Views.{DiagramView}
use Rattle.net_print.specs.Printed.{printed}
use Rattle.requisite_trim.specs.Trims.{IsTrimming}
use Rattle.app_forms.specs.Diagrams.{IsDiagramOf}
use Rattle.app_forms.specs.Stages.{text_fault}
use Rattle.app_forms.specs.Tasks.{Task, text_task}
use Rattle.std.specs.Global.{Vec}

-- A line for each arc that trimming removes, in order of removal, and then the text of the diagram
-- without these arcs. The lines are comments: the whole text stands for the trimmed diagram, which
-- has the same optimum where one agent owns all decisions (`optimum` of `IsTrimming`).
pub record HasTrim (d : DiagramView) (names : NamesView) (told : List ℕ) : Type 0 where
  pub trimmed : DiagramView
  pub removed : List (ℕ × ℕ)
  pub is_trimming : IsTrimming d trimmed removed
  pub is : told ≡ removed_lines names removed ++ printed trimmed names
  pub reads_back : IsDiagramOf told trimmed names

-- the text's fault, and else the removed arcs and the trimmed diagram
abbrev pub trimming : Task
trimming = text_task (text_fault ∷ []) HasTrim

-- the text of the bytes is the lines of the removed arcs and then the diagram without them
abbrev pub IsTrimmedText : DiagramView → NamesView → List (ℕ × ℕ) → Vec ℕ → Type 0
IsTrimmedText d names removed text = text.items ≡ removed_lines names removed ++ printed d names
