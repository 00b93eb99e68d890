-- What decisions choose, without what it is worth.
use Rattle.std.specs.Prelude.{◌≡◌, ◌<◌, ℕ, ◌+◌, List, [], ◌∷◌, ◌++◌, All, length}
use Rattle.std.specs.Global.{Vec}
use Rattle.std.specs.List.{flat_map}
use Rattle.maid_model.specs.declared.answers.Row.{Row}
use Rattle.maid_model.specs.Views.{DiagramView, NodeView, AnswerView}
use Rattle.maid_model.specs.Names.{NamesView}
use Rattle.maid_model.specs.Nodes.{IsDecision, rows_of, states_of}
use Rattle.maid_model.specs.Reports.{decision_head, line}
use Rattle.report_text.specs.Slots.{row_front, state_text}

-- an answer of a decision, with a row for each choice of its parents' states and choices in range
pub record HasChoices (nodes : List NodeView) (answer : AnswerView) : Type 0 where
  pub decision : IsDecision nodes answer.decision
  pub rows : length answer.rows ≡ rows_of nodes answer.decision
  pub choices : All (λ r. r.choice < states_of nodes answer.decision) answer.rows

-- a row of a report up to the label of its choice
abbrev pub choice_line : List NodeView → NamesView → ℕ → ℕ → ℕ → List ℕ
choice_line nodes names d number choice =
    line (row_front nodes names d number ++ state_text names d choice)

-- the rows from that number on
abbrev pub choice_rows : List NodeView → NamesView → ℕ → ℕ → List Row → List ℕ
choice_rows nodes names d number [] = []
choice_rows nodes names d number (row ∷ rows) =
    choice_line nodes names d number row.choice ++ choice_rows nodes names d (number + 1) rows

-- a decision's line, and then its rows
abbrev pub decision_choices : List NodeView → NamesView → AnswerView → List ℕ
decision_choices nodes names answer = decision_head nodes names answer.decision
    ++ choice_rows nodes names answer.decision 0 answer.rows

-- decision by decision
abbrev pub choice_lines : List NodeView → NamesView → List AnswerView → List ℕ
choice_lines nodes names answers = flat_map (decision_choices nodes names) answers

-- the text of the bytes is that
abbrev pub TellsChoices : DiagramView → NamesView → List AnswerView → Vec ℕ → Type 0
TellsChoices d names answers text = text.items ≡ choice_lines d.nodes names answers
