-- The rows in which a decision sees the evidence, one after the other.
use Rattle.std.proofs.Common.{◌≡◌, ◌∙◌, ℕ, ◌+◌, ◌<◌, ◌≤◌, List, ◌++◌, length, get_or, drop, sym, ap, append_assoc, append-nil}
use Rattle.std.proofs.lemmas.List.{at_drop_all, drop_more}
use Rattle.maid_model.specs.Names.{NamesView}
use Rattle.maid_model.specs.Views.{NodeView}
use Rattle.maid_model.specs.declared.answers.Row.{Row}
use Rattle.app_forms.specs.Given.{row_given, rows_given}
use Rattle.app_forms.specs.declared.forms.chances.StatePlace.{StatePlace}

module _ (nodes : List NodeView) (names : NamesView) (place : StatePlace) (d : ℕ) (rows : List Row) where
  -- a row's line stands behind the text so far, and the lines of the rows still to come behind it
  pub row_more : (n : ℕ) (none : Row) (text more all : List ℕ) → n < length rows → more ≡ text ++ row_given nodes names place d n (get_or rows n none)
      → text ++ rows_given nodes names place d n (drop n rows) ≡ all → more ++ rows_given nodes names place d (n + 1) (drop (n + 1) rows) ≡ all
  row_more n none text more all h made so =
      let line = row_given nodes names place d n (get_or rows n none) in
      let rest = rows_given nodes names place d (n + 1) (drop (n + 1) rows) in
      ap (λ xs. xs ++ rest) made ∙ append_assoc text line rest ∙ ap (λ left. text ++ rows_given nodes names place d n left) (sym (drop_more rows n none h)) ∙ so

  -- behind the last row the text is whole
  pub rows_end : (n : ℕ) (text all : List ℕ) → length rows ≤ n → text ++ rows_given nodes names place d n (drop n rows) ≡ all → text ≡ all
  rows_end n text all h so =
      sym (append-nil text) ∙ ap (λ xs. text ++ xs) (sym (at_drop_all (rows_given nodes names place d n) rows n h)) ∙ so
