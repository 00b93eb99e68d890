-- A row's line, from what is appended for its parts.
use Rattle.std.proofs.Common.{◌≡◌, ℕ, ◌+◌, List, [], ◌∷◌, ◌++◌, ◌∙◌, ap, sym, append_assoc, append-nil}
use Rattle.std.specs.Prelude.{codes, decimal}
use Rattle.maid_model.specs.declared.answers.Row.{Row}
use Rattle.maid_model.specs.Views.{NodeView}
use Rattle.maid_model.specs.Names.{NamesView, label_of}
use Rattle.maid_model.specs.Reports.{quoted, row_line, worth_text}
use Rattle.report_text.specs.Runs.{labelled_line}
use Rattle.report_text.specs.Slots.{row_front, state_text}
use Rattle.report_text.proofs.Unended.{regroup, row_line_is}

in_turn : (start front state worth p q r s : List ℕ) → p ≡ start ++ front → q ≡ p ++ state → r ≡ q ++ worth → s ≡ r ++ 10 ∷ [] → s ≡ start ++ ((front ++ (state ++ worth)) ++ 10 ∷ [])
in_turn start front state worth p q r s first second third fourth =
    fourth
    ∙ ap (λ x. x ++ 10 ∷ []) (third ∙ ap (λ x. x ++ worth) (second ∙ ap (λ x. x ++ state) first) ∙ append_assoc (start ++ front) state worth ∙ append_assoc start front (state ++ worth))
    ∙ append_assoc start (front ++ (state ++ worth)) (10 ∷ [])

pieces : (a b c l e : List ℕ) → a ++ (b ++ (c ++ (l ++ (e ++ [])))) ≡ a ++ b ++ c ++ l ++ e
pieces a b c l e = simp (append_assoc, append-nil)

module _ (names : NamesView) (d number : ℕ) (row : Row) (start p q r s : List ℕ) where
  pub row_parts : (nodes : List NodeView) → p ≡ start ++ row_front nodes names d number → q ≡ p ++ state_text names d row.choice → r ≡ q ++ worth_text row.worth → s ≡ r ++ 10 ∷ [] → s ≡ start ++ row_line nodes names d number row
  row_parts nodes first second third fourth =
      in_turn start (row_front nodes names d number) (state_text names d row.choice) (worth_text row.worth) p q r s first second third fourth
      ∙ ap (λ x. start ++ x) (sym (row_line_is nodes names d number row))

  pub labelled_parts : (labels : List ℕ) → p ≡ start ++ (codes "row " ++ (decimal (number + 1) ++ (codes ":" ++ (labels ++ (codes " -> " ++ []))))) → q ≡ p ++ state_text names d row.choice → r ≡ q ++ worth_text row.worth → s ≡ r ++ 10 ∷ [] → s ≡ start ++ labelled_line names d labels number row
  labelled_parts labels first second third fourth =
      let front = codes "row " ++ decimal (number + 1) ++ codes ":" ++ labels in
      let opened = first ∙ ap (λ x. start ++ x) (pieces (codes "row ") (decimal (number + 1)) (codes ":") labels (codes " -> ")) in
      in_turn start (front ++ codes " -> ") (state_text names d row.choice) (worth_text row.worth) p q r s opened second third fourth
      ∙ ap (λ x. start ++ x) (sym (regroup front (codes " -> ") (decimal (row.choice + 1)) (32 ∷ quoted (label_of names d row.choice)) (worth_text row.worth) (10 ∷ [])))
