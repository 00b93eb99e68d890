-- Rows of a table of gains, and answered rows.
use Rattle.std.proofs.Common.{◌≡◌, ◌∙◌, ℕ, ◌+◌, ◌*◌, ◌<◌, ◌≤◌, List, [], ◌∷◌, ◌++◌, length, IfSome, get_or, sym, ap, subst, ℤ, ◌≤ℤ◌, ◌<ℤ◌, arith, length-append}
use Rattle.std.proofs.lemmas.List.{get_or_append_left}
use Rattle.std.proofs.Math.Seq.{get_or-append_seam}
use Rattle.std.proofs.lemmas.List.Elements.{All-push}
use Rattle.std.proofs.Math.Nat.{mul-le-mul_left}
use Rattle.std.proofs.Math.Decide.{ℕ_discrete}
use Rattle.maid_model.specs.declared.answers.Row.{Row}
use Rattle.maid_model.specs.Answers.{IsFraction, IsReduced, no_row}
use Rattle.rule_solver.specs.Rows.{AnswersRow, AnswersRows}

-- what is answered looks at the gains of the row's states alone
pub answers-same : (f g : ℕ → ℤ) (states mass scale : ℕ) (r : Row) → ((s : ℕ) → s < states → f s ≡ g s) → r.choice < states → AnswersRow f states mass scale r → AnswersRow g states mass scale r
answers-same f g states mass scale r same inside a = record {
  best = λ h. record {
    within = (a.best h).within;
    greatest = λ s k. subst (λ x. x ≤ℤ g r.choice) (same s k) (subst (λ x. f s ≤ℤ x) (same r.choice inside) ((a.best h).greatest s k));
    first = λ s k. subst (λ x. x <ℤ g r.choice) (same s (before s k)) (subst (λ x. f s <ℤ x) (same r.choice inside) ((a.best h).first s k));
  };
  worth = λ h. let w = a.worth h in (w.0, w.1, subst (λ x. IsFraction w.0 x (mass * scale)) (same r.choice inside) w.2);
  never = a.never;
}
  where
    before : (s : ℕ) → s < r.choice → s < states
    before s k = omega arith

-- one more answered row
pub answers-push : (gain : ℕ → ℕ → ℤ) (mass : ℕ → ℕ) (states scale number : ℕ) (rows : List Row) (r : Row) → AnswersRows gain mass states scale number rows → AnswersRow (λ s. gain s number) states (mass number) scale r → r.choice < states → IfSome r.worth IsReduced → AnswersRows gain mass states scale (number + 1) (rows ++ r ∷ [])
answers-push gain mass states scale number rows r a h inside reduced = record {
  count = length-append rows (r ∷ []) ∙ ap (λ n. n + 1) a.count;
  each = λ row k. go row k (ℕ_discrete row number);
  choices = All-push (λ x. x.choice < states) rows r a.choices inside;
  worths = All-push (λ x. IfSome x.worth IsReduced) rows r a.worths reduced;
}
  where
    smaller : (row : ℕ) → row < number + 1 → (row ≡ number → ⊥) → row < number
    smaller row k n = omega arith

    go : (row : ℕ) → row < number + 1 → Dec (row ≡ number) → AnswersRow (λ s. gain s row) states (mass row) scale (get_or (rows ++ r ∷ []) row no_row)
    go row k (yes e) = subst (λ i. AnswersRow (λ s. gain s i) states (mass i) scale (get_or (rows ++ r ∷ []) i no_row)) (sym e) (subst (λ x. AnswersRow (λ s. gain s number) states (mass number) scale x) (sym last) h)
      where
        last : get_or (rows ++ r ∷ []) number no_row ≡ r
        last = subst (λ i. get_or (rows ++ r ∷ []) i no_row ≡ r) a.count (get_or-append_seam rows r [] no_row)
    go row k (no n) =
        let l : row < length rows = subst (λ i. row < i) (sym a.count) (smaller row k n) in
        subst (λ x. AnswersRow (λ s. gain s row) states (mass row) scale x) (sym (get_or_append_left rows (r ∷ []) no_row row l)) (a.each row (smaller row k n))

-- a row ends within the table
pub row_end : (row rows states : ℕ) → row < rows → row * states + states ≤ rows * states
row_end row rows states h = let most = mul-le-mul_left states (next h) in omega (arith, most)
  where
    next : row < rows → row + 1 ≤ rows
    next h = omega (arith, h)
