-- What `demo` writes: a summary of the solved diagram of the generated text.
use Rattle.std.specs.Prelude.{◌≡◌, ℕ, List, ◌++◌, codes, decimal, length}
use Rattle.maid_model.specs.Names.{NamesView}
use Rattle.maid_model.specs.Reports.{line, gain_lines}
use Rattle.maid_model.specs.Views.{DiagramView, SolvedView}
use Rattle.app_forms.specs.Solve.{IsSolution, solving_stages}
use Rattle.app_forms.specs.Tasks.{Task, text_task}

-- the number of stages, the number of nodes, and each agent's expected utility
abbrev pub summary : ℕ → DiagramView → NamesView → SolvedView → List ℕ
summary k d names solved = line (codes "demo " ++ decimal k)
    ++ line (codes "nodes " ++ decimal (length d.nodes)) ++ gain_lines names 0 solved.gains

-- the summary of the diagram's answer
pub record HasSummary
    (k : ℕ) (d : DiagramView) (names : NamesView) (printed : List ℕ) : Type 0 where
  pub solved : SolvedView
  pub solution : IsSolution d solved
  pub is_summary : printed ≡ summary k d names solved

-- the stages of solving, and else the summary
abbrev pub summing : ℕ → Task
summing k = text_task solving_stages (HasSummary k)
