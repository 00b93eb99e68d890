-- Each place but the end wants a line with an end.
use Rattle.std.proofs.Common.{◌≡◌, ℕ, ◌+◌, List, [], ◌∷◌, ◌++◌, true, refl, ◌∙◌, subst, append_assoc}
use Rattle.std.specs.Prelude.{codes, decimal}
use Rattle.maid_model.specs.declared.answers.Ratio.{Ratio}
use Rattle.maid_model.specs.declared.answers.Row.{Row}
use Rattle.maid_model.specs.Views.{NodeView}
use Rattle.maid_model.specs.Names.{NamesView, label_of}
use Rattle.maid_model.specs.Nodes.{parents_of, states_of}
use Rattle.maid_model.specs.Reports.{gain_line, line, parent_states, quoted, row_line, state_labels, worth_text}
use Rattle.report_text.specs.Slots.{Told, OfRow, OfGain, Shows, lacks, row_words, gain_words}
use Rattle.report_text.proofs.Stops.{ended_has}

pub regroup : (a b c d e f : List ℕ) → (a ++ (b ++ c ++ d ++ e)) ++ f ≡ ((a ++ b) ++ ((c ++ d) ++ e)) ++ f
regroup a b c d e f = simp append_assoc

-- a row's line is its words, ended
pub row_line_is : (nodes : List NodeView) (names : NamesView) (d number : ℕ) (row : Row) → row_line nodes names d number row ≡ row_words nodes names d number row ++ 10 ∷ []
row_line_is nodes names d number row =
    regroup (codes "row " ++ decimal (number + 1) ++ codes ":" ++ state_labels names (parents_of nodes d) (parent_states (states_of nodes) (parents_of nodes d) number))
    (codes " -> ") (decimal (row.choice + 1)) (32 ∷ quoted (label_of names d row.choice)) (worth_text row.worth) (10 ∷ [])

pub gain_line_is : (names : NamesView) (agent : ℕ) (gain : Ratio) → gain_line names agent gain ≡ gain_words names agent gain ++ 10 ∷ []
gain_line_is names agent gain = refl

module _ (nodes : List NodeView) (names : NamesView) where
  pub told_ends : (words bytes : List ℕ) → Shows nodes names (Told (line words)) bytes → lacks 10 bytes ≡ true → ⊥
  told_ends words bytes e l = ended_has words (subst (λ x. lacks 10 x ≡ true) e l)

  pub row_ends : (d number : ℕ) (bytes : List ℕ) → Shows nodes names (OfRow d number) bytes → lacks 10 bytes ≡ true → ⊥
  row_ends d number bytes (row, is, e) l = ended_has (row_words nodes names d number row) (subst (λ x. lacks 10 x ≡ true) (e ∙ row_line_is nodes names d number row) l)

  pub gain_ends : (agent : ℕ) (bytes : List ℕ) → Shows nodes names (OfGain agent) bytes → lacks 10 bytes ≡ true → ⊥
  gain_ends agent bytes (gain, is, e) l = ended_has (gain_words names agent gain) (subst (λ x. lacks 10 x ≡ true) (e ∙ gain_line_is names agent gain) l)
