-- What `info` writes: what information is worth to an agent before it decides.
use Rattle.std.specs.Prelude.{◌≡◌, ℕ, List, ◌∷◌, ◌++◌, All, codes, map, if◌then◌else◌}
use Rattle.std.specs.List.{flat_map}
use Rattle.info_value.specs.Lines.{IsInfoLine, TellsWorth, arc_of, asked_arcs}
use Rattle.info_value.specs.declared.lines.InfoLine.{InfoLine}
use Rattle.maid_model.specs.Names.{NamesView, IsFirstPlace, name_of}
use Rattle.maid_model.specs.Reports.{line}
use Rattle.maid_model.specs.Views.{DiagramView, SolvedView}
use Rattle.app_forms.specs.Asking.{asked_line, asking_stages}
use Rattle.app_forms.specs.Found.{cycle_told, found_words}
use Rattle.app_forms.specs.Solve.{IsSolution}
use Rattle.app_forms.specs.Tasks.{Task, text_task}

-- whether the arc is there, from which node to which decision it leads, and what is found of it
abbrev pub info_line : NamesView → InfoLine → List ℕ
info_line names told = line ((if told.has then codes "has " else codes "new ")
    ++ name_of names told.from ++ codes " -> " ++ name_of names told.to ++ codes ": "
    ++ found_words names told.found)

-- the nodes that a line names
abbrev pub info_nodes : InfoLine → List ℕ
info_nodes told = told.from ∷ told.to ∷ cycle_told told.found

-- the first line, and then one for each arc
abbrev pub info_text : List ℕ → NamesView → List InfoLine → List ℕ
info_text agent names lines = asked_line (codes "info") agent ++ flat_map (info_line names) lines

-- A line for each arc that is asked about: the first reason why it has no value, or its information
-- value, which is not below nought, against the answer of the diagram.
pub record HasInfo
    (agent : List ℕ) (d : DiagramView) (names : NamesView) (printed : List ℕ) : Type 0 where
  pub solved : SolvedView
  pub solution : IsSolution d solved
  pub number : ℕ
  pub is_agent : IsFirstPlace names.agents agent number
  pub lines : List InfoLine
  pub asked : map arc_of lines ≡ asked_arcs d.nodes number
  pub found : All (IsInfoLine d solved.answers number) lines
  pub worths : All (TellsWorth d solved.answers number) lines
  pub is : printed ≡ info_text agent names lines

-- the stages of what is asked of an agent, and else its lines
abbrev pub weighing_information : List ℕ → Task
weighing_information agent = text_task (asking_stages agent) (HasInfo agent)
