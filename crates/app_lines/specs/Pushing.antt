-- What the steps of printing append: each says what stands behind the text once its call has ended
-- well.
use Rattle.std.specs.Prelude.{ℕ, Result}
use Rattle.std.specs.Global.{Vec}
use Rattle.line_pieces.specs.Pushed.{PushAppends}
use Rattle.maid_model.specs.Views.{DiagramView, AnswerView}
use Rattle.maid_model.specs.Names.{NamesView}
use Rattle.app_lines.specs.Choices.{choice_line, decision_choices}

-- the line of one row's choice
abbrev pub PushesChoice : {R E : Type 0} → DiagramView → NamesView → ℕ → ℕ → ℕ → Vec ℕ → Vec ℕ
    → Result R E → Type 0
PushesChoice d names decision number choice before now result =
    PushAppends before now result (choice_line d.nodes names decision number choice)

-- a decision's line and those of its rows' choices
abbrev pub PushesChoices : {R E : Type 0} → DiagramView → NamesView → AnswerView → Vec ℕ → Vec ℕ
    → Result R E → Type 0
PushesChoices d names answer before now result =
    PushAppends before now result (decision_choices d.nodes names answer)
