-- The report of an answered diagram, as bytes.
use Rattle.std.specs.Prelude.{◌≢◌, ℕ, ◌+◌, ◌/◌, ◌%◌, ◌||◌, List, [], ◌∷◌, ◌++◌, map, codes, decimal, All, ◌==◌, if◌then◌else◌, Option, None, Some}
use Rattle.std.specs.Fmt.{signed_decimal}
use Rattle.std.specs.List.{flat_map}
use Rattle.maid_model.specs.declared.answers.Ratio.{Ratio}
use Rattle.maid_model.specs.declared.answers.Row.{Row}
use Rattle.maid_model.specs.Views.{NodeView, DiagramView, AnswerView, SolvedView}
use Rattle.maid_model.specs.Nodes.{agent_of, states_of, parents_of, rows_under}
use Rattle.maid_model.specs.Names.{NamesView, name_of, label_of, agent_name}

-- a backslash before a quote and before a backslash
abbrev pub escaped : ℕ → List ℕ
escaped byte = if (byte == 34) || (byte == 92) then 92 ∷ byte ∷ [] else byte ∷ []

-- a label or an agent's name between quotes
abbrev pub quoted : List ℕ → List ℕ
quoted bytes = 34 ∷ flat_map escaped bytes ++ 34 ∷ []

-- each after one space
abbrev pub spaced : List (List ℕ) → List ℕ
spaced pieces = flat_map (λ piece. 32 ∷ piece) pieces

-- no byte ends a line
abbrev pub IsOneLine : List ℕ → Type 0
IsOneLine bytes = All (λ byte. byte ≢ 10) bytes

-- a line, ended by LF
abbrev pub line : List ℕ → List ℕ
line bytes = bytes ++ 10 ∷ []

-- a whole number or a fraction: the numerator, and a slash and the denominator where that isn't 1
abbrev pub ratio_text : Ratio → List ℕ
ratio_text r = signed_decimal r.num ++ (if r.den == 1 then [] else 47 ∷ decimal r.den)

-- the head, and each node's name after one space
abbrev pub names_line : List ℕ → NamesView → List ℕ → List ℕ
names_line head names list = line (head ++ spaced (map (name_of names) list))

-- the states of the parents in a row, the first parent slowest
abbrev pub parent_states : (ℕ → ℕ) → List ℕ → ℕ → List ℕ
parent_states count [] row = []
parent_states count (u ∷ us) row =
    row / rows_under count us ∷ parent_states count us (row % rows_under count us)

-- the quoted labels of the parents' states, each after one space
abbrev pub state_labels : NamesView → List ℕ → List ℕ → List ℕ
state_labels names (u ∷ us) (s ∷ states) =
    32 ∷ quoted (label_of names u s) ++ state_labels names us states
state_labels names [] states = []
state_labels names (u ∷ us) [] = []

-- what a row is worth, or that it is never reached
abbrev pub worth_text : Option Ratio → List ℕ
worth_text (Some worth) = codes " = " ++ ratio_text worth
worth_text None = codes " never"

-- the chosen state's number from 1, its label, and what it is worth
abbrev pub choice_text : NamesView → ℕ → Row → List ℕ
choice_text names d row = codes " -> " ++ decimal (row.choice + 1) ++ 32
    ∷ quoted (label_of names d row.choice) ++ worth_text row.worth

-- a row of a decision: its number from 1, its parents' states, and what is chosen
abbrev pub row_line : List NodeView → NamesView → ℕ → ℕ → Row → List ℕ
row_line nodes names d number row = line (codes "row " ++ decimal (number + 1) ++ codes ":"
    ++ state_labels names (parents_of nodes d) (parent_states (states_of nodes) (parents_of nodes d)
    number) ++ choice_text names d row)

-- the rows from that number on
abbrev pub row_lines : List NodeView → NamesView → ℕ → ℕ → List Row → List ℕ
row_lines nodes names d number [] = []
row_lines nodes names d number (row ∷ rows) =
    row_line nodes names d number row ++ row_lines nodes names d (number + 1) rows

-- a decision, whose it is and what it sees
abbrev pub decision_head : List NodeView → NamesView → ℕ → List ℕ
decision_head nodes names d = names_line
    (codes "decision " ++ name_of names d ++ codes " by "
    ++ quoted (agent_name names (agent_of nodes d)) ++ codes " sees") names
    (parents_of nodes d)

-- a decision's line, and then its rows
abbrev pub decision_lines : List NodeView → NamesView → AnswerView → List ℕ
decision_lines nodes names answer =
    decision_head nodes names answer.decision ++ row_lines nodes names answer.decision 0 answer.rows

-- what the plan is worth to an agent
abbrev pub gain_line : NamesView → ℕ → Ratio → List ℕ
gain_line names agent gain =
    line (codes "agent " ++ quoted (agent_name names agent) ++ codes " = " ++ ratio_text gain)

-- a line for each agent, from that number on
abbrev pub gain_lines : NamesView → ℕ → List Ratio → List ℕ
gain_lines names agent [] = []
gain_lines names agent (gain ∷ gains) =
    gain_line names agent gain ++ gain_lines names (agent + 1) gains

-- the report: the order of solving, each decision in that order, and each agent's expected utility
abbrev pub report : DiagramView → NamesView → SolvedView → List ℕ
report d names solved =
    line (codes "maidsolve report 1")
    ++ names_line (codes "order:") names solved.order
    ++ flat_map (decision_lines d.nodes names) solved.answers
    ++ gain_lines names 0 solved.gains
