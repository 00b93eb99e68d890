-- What the steps of printing append: each says what stands behind the text once its call has ended
-- well.
use Rattle.std.specs.Prelude.{ℕ, List, Result}
use Rattle.std.specs.Global.{Vec}
use Rattle.std.specs.List.{flat_map}
use Rattle.line_pieces.specs.Pushed.{PushAppends}
use Rattle.maid_model.specs.declared.answers.Row.{Row}
use Rattle.maid_model.specs.Views.{DiagramView, AnswerView}
use Rattle.maid_model.specs.Names.{NamesView}
use Rattle.maid_model.specs.Reports.{decision_head, decision_lines, row_line}
use Rattle.report_text.specs.Slots.{decision_words, row_front}
use Rattle.report_text.specs.Runs.{answer_rows, labelled_line, row_labels}

-- the labels of the parents' states in the row
abbrev pub PushesLabels : {R E : Type 0} → DiagramView → NamesView → List ℕ → ℕ → Vec ℕ → Vec ℕ
    → Result R E → Type 0
PushesLabels d names parents row before now result =
    PushAppends before now result (row_labels d.nodes names parents row)

-- the row's line up to its choice
abbrev pub PushesRowFront : {R E : Type 0} → DiagramView → NamesView → ℕ → ℕ → Vec ℕ → Vec ℕ
    → Result R E → Type 0
PushesRowFront d names decision number before now result =
    PushAppends before now result (row_front d.nodes names decision number)

-- the row's line
abbrev pub PushesRow : {R E : Type 0} → DiagramView → NamesView → ℕ → ℕ → Row → Vec ℕ → Vec ℕ
    → Result R E → Type 0
PushesRow d names decision number row before now result =
    PushAppends before now result (row_line d.nodes names decision number row)

-- the same, where its parents' states have these labels
abbrev pub PushesLabelled : {R E : Type 0} → NamesView → ℕ → List ℕ → ℕ → Row → Vec ℕ → Vec ℕ
    → Result R E → Type 0
PushesLabelled names decision labels number row before now result =
    PushAppends before now result (labelled_line names decision labels number row)

-- the lines of all rows of an answer
abbrev pub PushesRows : {R E : Type 0} → DiagramView → NamesView → AnswerView → Vec ℕ → Vec ℕ
    → Result R E → Type 0
PushesRows d names answer before now result =
    PushAppends before now result (answer_rows d.nodes names answer)

-- the decision's line without its end
abbrev pub PushesWords : {R E : Type 0} → DiagramView → NamesView → ℕ → Vec ℕ → Vec ℕ
    → Result R E → Type 0
PushesWords d names decision before now result =
    PushAppends before now result (decision_words d.nodes names decision)

-- the decision's line
abbrev pub PushesHead : {R E : Type 0} → DiagramView → NamesView → ℕ → Vec ℕ → Vec ℕ
    → Result R E → Type 0
PushesHead d names decision before now result =
    PushAppends before now result (decision_head d.nodes names decision)

-- the decision's line and those of its rows
abbrev pub PushesAnswer : {R E : Type 0} → DiagramView → NamesView → AnswerView → Vec ℕ → Vec ℕ
    → Result R E → Type 0
PushesAnswer d names answer before now result =
    PushAppends before now result (decision_lines d.nodes names answer)

-- those of each answer in turn
abbrev pub PushesAnswers : {R E : Type 0} → DiagramView → NamesView → List AnswerView → Vec ℕ
    → Vec ℕ → Result R E → Type 0
PushesAnswers d names answers before now result =
    PushAppends before now result (flat_map (decision_lines d.nodes names) answers)
