-- The lines of rows under one choice of some parents' states. Only private functions cite it.
use Rattle.std.specs.Prelude.{◌≢◌, ℕ, zero, suc, ◌+◌, ◌<◌, ◌≤◌, length, List, Result, [], ◌++◌, codes, decimal, slice_index_or}
use Rattle.std.specs.Global.{Vec}
use Rattle.line_pieces.specs.Pushed.{PushAppends}
use Rattle.report_text.specs.declared.row_runs.Sheet.{Sheet}
use Rattle.maid_model.specs.declared.answers.Row.{Row}
use Rattle.maid_model.specs.declared.diagrams.Kind.TheVariants.{Utility}
use Rattle.maid_model.specs.Views.{DiagramView, NodeView, AnswerView}
use Rattle.maid_model.specs.Answers.{no_row}
use Rattle.maid_model.specs.Names.{NamesView}
use Rattle.maid_model.specs.Nodes.{node_at, states_of, rows_under}
use Rattle.maid_model.specs.Reports.{choice_text, line, parent_states, state_labels, row_lines}

-- the line of a row whose parents' states have these labels
abbrev pub labelled_line : NamesView → ℕ → List ℕ → ℕ → Row → List ℕ
labelled_line names d labels number row =
    line (codes "row " ++ decimal (number + 1) ++ codes ":" ++ labels ++ choice_text names d row)

-- so many rows from `at` on, of which the first of all has the number `first`: each has these
-- labels, and then those of the other parents' states
abbrev pub run_lines :
    List NodeView → NamesView → AnswerView → List ℕ → List ℕ → ℕ → ℕ → ℕ → List ℕ
run_lines nodes names answer labels others first at zero = []
run_lines nodes names answer labels others first at (suc count) =
    labelled_line names answer.decision
    (labels ++ state_labels names others (parent_states (states_of nodes) others at)) (first + at)
    (slice_index_or answer.rows (first + at) no_row)
    ++ run_lines nodes names answer labels others first (at + 1) count

-- one for each choice of the others' states
abbrev pub lines_under : DiagramView → NamesView → AnswerView → List ℕ → List ℕ → ℕ → List ℕ
lines_under d names answer labels others first =
    run_lines d.nodes names answer labels others first 0 (rows_under (states_of d.nodes) others)

-- the lines of a run of rows that begins with these labels
abbrev pub PushesRun : {R E : Type 0} → Sheet → Vec ℕ → List ℕ → ℕ → Vec ℕ → Vec ℕ → Result R E
    → Type 0
PushesRun sheet labels others first before now result = PushAppends before now result
    (lines_under sheet.diagram.now sheet.names.now sheet.answer.now labels.items others first)

-- the number behind the last of them
abbrev pub row_behind : DiagramView → List ℕ → ℕ → ℕ
row_behind d others first = first + rows_under (states_of d.nodes) others

-- the answer has all these rows
abbrev pub HasRowsUnder : Sheet → List ℕ → ℕ → Type 0
HasRowsUnder sheet others first =
    row_behind sheet.diagram.now others first ≤ length sheet.answer.now.rows

-- a node whose states have labels: one that is no utility
abbrev pub HasLabels : List NodeView → ℕ → Type 0
HasLabels nodes v = (v < length nodes) × ((node_at nodes v).kind ≢ Utility)

-- the labels of the parents' states in a row
abbrev pub row_labels : List NodeView → NamesView → List ℕ → ℕ → List ℕ
row_labels nodes names parents row =
    state_labels names parents (parent_states (states_of nodes) parents row)

-- the lines of all rows of an answer
abbrev pub answer_rows : List NodeView → NamesView → AnswerView → List ℕ
answer_rows nodes names answer = row_lines nodes names answer.decision 0 answer.rows
