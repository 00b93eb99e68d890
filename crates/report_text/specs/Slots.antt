-- What each line of a report may show, and at which line a text stops to be one: the words of the
-- reading, line by line.
use Rattle.std.specs.Prelude.{◌≡◌, ◌≢◌, ◌⊎◌, ℕ, zero, suc, ◌+◌, ◌<◌, List, [], ◌∷◌, ◌++◌, Option, IfSome, map, length, codes, decimal, ◌==◌, if◌then◌else◌, Bool, true, not, All, Contains}
use Rattle.std.specs.List.{flat_map, list_all}
use Rattle.std.specs.Option.{MatchOption}
use Rattle.std.specs.Borrow.{Bor}
use Rattle.maid_model.specs.declared.answers.Ratio.{Ratio}
use Rattle.maid_model.specs.declared.answers.Row.{Row}
use Rattle.maid_model.specs.Views.{NodeView, DiagramView, AnswerView, SolvedView}
use Rattle.maid_model.specs.Graph.{AllDifferent}
use Rattle.maid_model.specs.Names.{NamesView, name_of, label_of, agent_name}
use Rattle.maid_model.specs.Nodes.{IsDecision, agent_of, states_of, parents_of, rows_of}
use Rattle.maid_model.specs.Reports.{decision_head, decision_lines, gain_line, gain_lines, line, parent_states, quoted, ratio_text, row_line, row_lines, spaced, state_labels, worth_text}
use Rattle.report_text.specs.Reading.{HasRatio, FitsRatio, lines_of}
use Rattle.report_text.specs.declared.reading.ReportFault.{ReportFault}
use Rattle.report_text.specs.declared.reading.ReportFault.TheVariants.{BadLine, NoMemory}
use Rattle.std.specs.Global.{Vec}

-- the byte stands nowhere in the list
abbrev pub lacks : ℕ → List ℕ → Bool
lacks byte bytes = list_all (λ b. not (b == byte)) bytes

-- the list is empty or begins with the byte
abbrev pub IsEndOr : ℕ → List ℕ → Type 0
IsEndOr byte [] = Unit {0}
IsEndOr byte (b ∷ bytes) = b ≡ byte

-- the bytes before the first such byte, and the others
pub record IsFront (byte : ℕ) (bytes front rest : List ℕ) : Type 0 where
  pub whole : bytes ≡ front ++ rest
  pub lacks : lacks byte front ≡ true
  pub next : IsEndOr byte rest

-- the bytes do not begin with this front
abbrev pub LacksFront : List ℕ → List ℕ → Type 0
LacksFront front bytes = (rest : List ℕ) → bytes ≢ front ++ rest

-- what stands behind the front; none where the bytes do not begin with it
abbrev pub IsBehindFront : List ℕ → List ℕ → Option (Bor (List ℕ)) → Type 0
IsBehindFront front bytes found =
    MatchOption found (LacksFront front bytes) (λ rest. bytes ≡ front ++ rest.now)

-- what is written behind a numerator
abbrev pub den_text : ℕ → List ℕ
den_text den = if den == 1 then [] else 47 ∷ decimal den

-- a decision's line without its end
abbrev pub decision_words : List NodeView → NamesView → ℕ → List ℕ
decision_words nodes names d = codes "decision " ++ name_of names d ++ codes " by "
    ++ quoted (agent_name names (agent_of nodes d)) ++ codes " sees"
    ++ spaced (map (name_of names) (parents_of nodes d))

-- the line of the order without its end
abbrev pub order_words : NamesView → List ℕ → List ℕ
order_words names order = codes "order:" ++ spaced (map (name_of names) order)

-- a row's line up to its choice
abbrev pub row_front : List NodeView → NamesView → ℕ → ℕ → List ℕ
row_front nodes names d number = codes "row " ++ decimal (number + 1) ++ codes ":"
    ++ state_labels names (parents_of nodes d) (parent_states (states_of nodes) (parents_of nodes d)
    number) ++ codes " -> "

-- the chosen state, by its number from 1 and its label
abbrev pub state_text : NamesView → ℕ → ℕ → List ℕ
state_text names d choice = decimal (choice + 1) ++ 32 ∷ quoted (label_of names d choice)

-- an agent's line up to its gain
abbrev pub gain_front : NamesView → ℕ → List ℕ
gain_front names agent = codes "agent " ++ quoted (agent_name names agent) ++ codes " = "

-- a row's line without its end
abbrev pub row_words : List NodeView → NamesView → ℕ → ℕ → Row → List ℕ
row_words nodes names d number row =
    row_front nodes names d number ++ (state_text names d row.choice ++ worth_text row.worth)

-- an agent's line without its end
abbrev pub gain_words : NamesView → ℕ → Ratio → List ℕ
gain_words names agent gain = gain_front names agent ++ ratio_text gain

-- an order of all decisions, each once
pub record IsDecisionOrder (nodes : List NodeView) (order : List ℕ) : Type 0 where
  pub decisions : All (IsDecision nodes) order
  pub all : (v : ℕ) → IsDecision nodes v → Contains order v
  pub once : AllDifferent order

-- a decision of that name
abbrev pub IsDecisionNamed : List NodeView → NamesView → List ℕ → ℕ → Type 0
IsDecisionNamed nodes names name v = IsDecision nodes v × (name_of names v ≡ name)

-- there is none
abbrev pub NamesNoDecision : List NodeView → NamesView → List ℕ → Type 0
NamesNoDecision nodes names name = (v : ℕ) → IsDecision nodes v → name_of names v ≢ name

-- such an order whose line it is, and none only where it is the line of none
abbrev pub TellsOrder : List NodeView → NamesView → List ℕ → Option (Vec ℕ) → Type 0
TellsOrder nodes names line found =
    MatchOption found ((order : List ℕ) → IsDecisionOrder nodes order → line ≢ order_words names order)
    (λ order. IsDecisionOrder nodes order.items × (line ≡ order_words names order.items))

-- a row of the decision, with a choice in range
pub record IsRow (nodes : List NodeView) (d : ℕ) (row : Row) : Type 0 where
  pub choice : row.choice < states_of nodes d
  pub worth : HasRatio row

-- what the line shows: one of these whose words it is, and nothing where it has the words of none
abbrev pub ShowsOne : {A : Type 0} → (A → Type 0) → (A → List ℕ) → List ℕ → Option A → Type 0
ShowsOne {A} Is words line found =
    MatchOption found ((x : A) → Is x → line ≢ words x) (λ x. Is x × (line ≡ words x))

-- a row of the decision, where the line shows one
abbrev pub ShowsRow :
    List NodeView → NamesView → ℕ → ℕ → List ℕ → Option Row → Type 0
ShowsRow nodes names d number line found =
    ShowsOne (IsRow nodes d) (row_words nodes names d number) line found

-- what the text behind a row's choice says that the choice is worth
abbrev pub ShowsWorth : List ℕ → Option Ratio → Type 0
ShowsWorth bytes worth = IfSome worth FitsRatio × (bytes ≡ worth_text worth)

-- the text says no such worth
abbrev pub ShowsNoWorth : List ℕ → Type 0
ShowsNoWorth bytes = (worth : Option Ratio) → IfSome worth FitsRatio → bytes ≢ worth_text worth

-- no state's number, from 1, stands at the front with a space behind it
abbrev pub ShowsNoChoice : ℕ → List ℕ → Type 0
ShowsNoChoice states bytes =
    (choice : ℕ) (rest : List ℕ) → choice < states → bytes ≢ decimal (choice + 1) ++ 32 ∷ rest

-- of the states it is the one whose number stands at the front, from 1, with a space behind it
abbrev pub IsShownChoice : ℕ → List ℕ → ℕ → Type 0
IsShownChoice states bytes choice = (other : ℕ) (rest : List ℕ) → other < states
    → bytes ≡ decimal (other + 1) ++ 32 ∷ rest → choice ≡ other

-- a place for a line: this very line, the line of a decision's row, an agent's line, or the text's
-- end
pub data Slot : Type 0 where
  Told : List ℕ → Slot
  OfRow : ℕ → ℕ → Slot
  OfGain : ℕ → Slot
  End : Slot

-- the line may stand there
abbrev pub Shows : List NodeView → NamesView → Slot → List ℕ → Type 0
Shows nodes names (Told told) line = line ≡ told
Shows nodes names (OfRow d number) line =
    (row : Row) × IsRow nodes d row × (line ≡ row_line nodes names d number row)
Shows nodes names (OfGain agent) line =
    (gain : Ratio) × FitsRatio gain × (line ≡ gain_line names agent gain)
Shows nodes names End line = line ≡ []

-- the rows of a decision from that number on
abbrev pub row_slots : ℕ → ℕ → ℕ → List Slot
row_slots d number zero = []
row_slots d number (suc count) = OfRow d number ∷ row_slots d (number + 1) count

-- all rows of a decision
abbrev pub all_row_slots : List NodeView → ℕ → List Slot
all_row_slots nodes d = row_slots d 0 (rows_of nodes d)

-- a decision's own line, and those of all its rows
abbrev pub answer_slots : List NodeView → NamesView → ℕ → List Slot
answer_slots nodes names d = Told (decision_head nodes names d) ∷ all_row_slots nodes d

-- the answers of these decisions
abbrev pub all_answer_slots : List NodeView → NamesView → List ℕ → List Slot
all_answer_slots nodes names order = flat_map (answer_slots nodes names) order

-- the agents from that number on
abbrev pub gain_slots : ℕ → ℕ → List Slot
gain_slots agent zero = []
gain_slots agent (suc count) = OfGain agent ∷ gain_slots (agent + 1) count

-- what follows the line of the order
abbrev pub slots_of : DiagramView → NamesView → List ℕ → List Slot
slots_of d names order =
    all_answer_slots d.nodes names order ++ gain_slots 0 d.agents ++ End ∷ []

-- the text behind the line of the order
abbrev pub lines_behind : List NodeView → NamesView → SolvedView → List ℕ
lines_behind nodes names solved =
    flat_map (decision_lines nodes names) solved.answers ++ gain_lines names 0 solved.gains

-- these bytes are that text
abbrev pub ShowsSolved : DiagramView → NamesView → List ℕ → SolvedView → Type 0
ShowsSolved d names bytes solved = bytes ≡ lines_behind d.nodes names solved

-- the line of that number, where so many were read before, is the first that may not stand at its
-- place
abbrev pub StopsIn : List NodeView → NamesView → List Slot → List (List ℕ) → ℕ → ℕ → Type 0
StopsIn nodes names [] lines read number = ⊥
StopsIn nodes names (slot ∷ slots) [] read number =
    (Shows nodes names slot [] → ⊥) × (number ≡ read + 1)
StopsIn nodes names (slot ∷ slots) (line ∷ lines) read number = ((Shows nodes names slot line → ⊥)
    × (number ≡ read + 1))
    ⊎ (Shows nodes names slot line × StopsIn nodes names slots lines (read + 1) number)

-- the bytes that are still to be read, and how many lines were read
pub record LinesView : Type 0 where
  pub rest : List ℕ
  pub read : ℕ

-- the fault tells the first line that may not stand at its place, or that memory ran out
abbrev pub IsStuck : List NodeView → NamesView → List Slot → LinesView → ReportFault → Type 0
IsStuck nodes names slots lines NoMemory = Unit {0}
IsStuck nodes names slots lines (BadLine number) =
    StopsIn nodes names slots (lines_of lines.rest) lines.read number

-- the fault is that whatever the diagram is, and its names
abbrev pub IsStuckAlways : List Slot → LinesView → ReportFault → Type 0
IsStuckAlways slots lines fault =
    (nodes : List NodeView) (names : NamesView) → IsStuck nodes names slots lines fault

-- stuck in the line of a decision's row
abbrev pub IsStuckInRow : DiagramView → NamesView → ℕ → ℕ → LinesView → ReportFault → Type 0
IsStuckInRow d names v number lines fault = IsStuck d.nodes names (OfRow v number ∷ []) lines fault

-- in those of all its rows
abbrev pub IsStuckInRows : DiagramView → NamesView → ℕ → LinesView → ReportFault → Type 0
IsStuckInRows d names v lines fault = IsStuck d.nodes names (all_row_slots d.nodes v) lines fault

-- in its own line or in those of its rows
abbrev pub IsStuckInAnswer : DiagramView → NamesView → ℕ → LinesView → ReportFault → Type 0
IsStuckInAnswer d names v lines fault =
    IsStuck d.nodes names (answer_slots d.nodes names v) lines fault

-- in those of the decisions of an order
abbrev pub IsStuckInAnswers : DiagramView → NamesView → List ℕ → LinesView → ReportFault → Type 0
IsStuckInAnswers d names order lines fault =
    IsStuck d.nodes names (all_answer_slots d.nodes names order) lines fault

-- in those, in an agent's, or at the end
abbrev pub IsStuckBehindOrder : DiagramView → NamesView → List ℕ → LinesView → ReportFault → Type 0
IsStuckBehindOrder d names order lines fault =
    IsStuck d.nodes names (slots_of d names order) lines fault

-- with these names, whatever the diagram is
abbrev pub IsStuckByNames : NamesView → List Slot → LinesView → ReportFault → Type 0
IsStuckByNames names slots lines fault = (nodes : List NodeView) → IsStuck nodes names slots lines fault

-- Lines at these places were read: where the others stop, so do all.
abbrev pub PassesLines : List NodeView → NamesView → List Slot → LinesView → LinesView → Type 0
PassesLines nodes names slots old new = (others : List Slot) (number : ℕ)
    → StopsIn nodes names others (lines_of new.rest) new.read number
    → StopsIn nodes names (slots ++ others) (lines_of old.rest) old.read number

-- one line was read, which ended with LF
pub record IsTaken (line : List ℕ) (old new : LinesView) : Type 0 where
  pub bytes : old.rest ≡ line ++ 10 ∷ new.rest
  pub one : lacks 10 line ≡ true
  pub read : new.read ≡ old.read + 1

-- one line was read, which shows the row of the decision
abbrev pub TakesRow : DiagramView → NamesView → ℕ → ℕ → LinesView → LinesView → Row → Type 0
TakesRow d names v number old new row =
    IsRow d.nodes v row × IsTaken (row_words d.nodes names v number row) old new

-- which shows an agent's gain
abbrev pub TakesGain : NamesView → ℕ → LinesView → LinesView → Ratio → Type 0
TakesGain names agent old new gain =
    FitsRatio gain × IsTaken (gain_words names agent gain) old new

-- which shows the order
abbrev pub TakesOrder : NamesView → LinesView → LinesView → Vec ℕ → Type 0
TakesOrder names old new order = IsTaken (order_words names order.items) old new

-- the line of the order shows no order, or memory ran out
abbrev pub IsOrderless : List NodeView → NamesView → LinesView → ReportFault → Type 0
IsOrderless nodes names lines NoMemory = Unit {0}
IsOrderless nodes names lines (BadLine number) = (number ≡ lines.read + 1)
    × ((order : List ℕ) (others : List (List ℕ)) → IsDecisionOrder nodes order
    → lines_of lines.rest ≢ line (order_words names order) ∷ others)

-- the rows of a decision were read
pub record ReadsRows
    (nodes : List NodeView) (names : NamesView) (d number : ℕ) (list : List Row)
    (old new : LinesView) : Type 0 where
  pub count : length list ≡ number
  pub rows : All (IsRow nodes d) list
  pub bytes : old.rest ≡ row_lines nodes names d 0 list ++ new.rest
  pub passes : PassesLines nodes names (row_slots d 0 number) old new

-- all rows of a decision were
abbrev pub TakesRows : DiagramView → NamesView → ℕ → LinesView → LinesView → Vec Row → Type 0
TakesRows d names v old new rows =
    ReadsRows d.nodes names v (rows_of d.nodes v) rows.items old new

-- a decision was read
pub record ReadsAnswer
    (nodes : List NodeView) (names : NamesView) (d : ℕ) (answer : AnswerView) (old new : LinesView)
    : Type 0 where
  pub decision : answer.decision ≡ d
  pub count : length answer.rows ≡ rows_of nodes d
  pub rows : All (IsRow nodes d) answer.rows
  pub bytes : old.rest ≡ decision_lines nodes names answer ++ new.rest
  pub passes : PassesLines nodes names (answer_slots nodes names d) old new

-- so it was, and this is its answer
abbrev pub TakesAnswer : DiagramView → NamesView → ℕ → LinesView → LinesView → AnswerView → Type 0
TakesAnswer d names v old new answer = ReadsAnswer d.nodes names v answer old new

-- an answer with a row for each choice of its parents' states
pub record IsRead (nodes : List NodeView) (answer : AnswerView) : Type 0 where
  pub count : length answer.rows ≡ rows_of nodes answer.decision
  pub rows : All (IsRow nodes answer.decision) answer.rows

-- the decisions of an order were read
pub record ReadsAnswers
    (nodes : List NodeView) (names : NamesView) (order : List ℕ) (answers : List AnswerView)
    (old new : LinesView) : Type 0 where
  pub follow : map (λ (a : AnswerView). a.decision) answers ≡ order
  pub each : All (IsRead nodes) answers
  pub bytes : old.rest ≡ flat_map (decision_lines nodes names) answers ++ new.rest
  pub passes : PassesLines nodes names (flat_map (answer_slots nodes names) order) old new

-- so they were, and these are their answers
abbrev pub TakesAnswers :
    DiagramView → NamesView → List ℕ → LinesView → LinesView → Vec AnswerView → Type 0
TakesAnswers d names order old new answers =
    ReadsAnswers d.nodes names order answers.items old new

-- so many agents were read
pub record ReadsGains
    (nodes : List NodeView) (names : NamesView) (agents : ℕ) (list : List Ratio)
    (old new : LinesView) : Type 0 where
  pub count : length list ≡ agents
  pub gains : All FitsRatio list
  pub bytes : old.rest ≡ gain_lines names 0 list ++ new.rest
  pub passes : PassesLines nodes names (gain_slots 0 agents) old new

-- so they were, and these are their gains, whatever the diagram is
abbrev pub TakesGains : NamesView → ℕ → LinesView → LinesView → Vec Ratio → Type 0
TakesGains names agents old new gains =
    (nodes : List NodeView) → ReadsGains nodes names agents gains.items old new
