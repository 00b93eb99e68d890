-- What `control` writes: what control of chance nodes is worth to an agent, and its incentives
-- there.
use Rattle.std.specs.Prelude.{◌≡◌, ℕ, List, [], ◌∷◌, ◌++◌, All, codes, map, if◌then◌else◌}
use Rattle.std.specs.List.{flat_map}
use Rattle.control_incentive.specs.Lines.{IsControlLine, IsTrimmedAlone, TellsControl, chance_nodes, line_node}
use Rattle.control_incentive.specs.declared.lines.ControlLine.{ControlLine}
use Rattle.maid_model.specs.Names.{NamesView, IsFirstPlace, name_of}
use Rattle.maid_model.specs.Reports.{line}
use Rattle.maid_model.specs.Views.{NodeView, DiagramView, SolvedView}
use Rattle.app_forms.specs.Asking.{asked_line, asking_stages}
use Rattle.app_forms.specs.Found.{cycle_told, found_words}
use Rattle.app_forms.specs.Solve.{IsSolution}
use Rattle.app_forms.specs.Tasks.{Task, text_task}

-- the chance node, the two flags where they hold, and what is found of its control
abbrev pub control_line : NamesView → ControlLine → List ℕ
control_line names told = line (name_of names told.node
    ++ (if told.response then codes " response" else [])
    ++ (if told.instrumental then codes " instrumental" else [])
    ++ codes ": " ++ found_words names told.found)

-- the nodes that a line names
abbrev pub control_nodes : ControlLine → List ℕ
control_nodes told = told.node ∷ cycle_told told.found

-- the first line, and then one for each chance node
abbrev pub control_text : List ℕ → NamesView → List ControlLine → List ℕ
control_text agent names lines =
    asked_line (codes "control") agent ++ flat_map (control_line names) lines

-- A line for each chance node: the two flags by paths, and the first reason why its control has no
-- value, or the control value, which is not below nought, against the answer of the diagram.
pub record HasControl
    (agent : List ℕ) (d : DiagramView) (names : NamesView) (printed : List ℕ) : Type 0 where
  pub solved : SolvedView
  pub solution : IsSolution d solved
  pub number : ℕ
  pub is_agent : IsFirstPlace names.agents agent number
  pub lines : List ControlLine
  pub nodes : map line_node lines ≡ chance_nodes d.nodes
  pub trimmed : List NodeView
  pub is_trimmed : IsTrimmedAlone d solved.answers number trimmed
  pub found : All (IsControlLine d solved.answers number trimmed) lines
  pub worths : All (TellsControl d solved.answers number) lines
  pub is : printed ≡ control_text agent names lines

-- the stages of what is asked of an agent, and else its lines
abbrev pub weighing_control : List ℕ → Task
weighing_control agent = text_task (asking_stages agent) (HasControl agent)
