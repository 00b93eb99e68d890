-- What the two sums of a decision in the part of its scope make of its answered rows.
use Rattle.std.proofs.Common.{◌≡◌, ◌∙◌, ◌⊎◌, inl, inr, ℕ, ◌*◌, ◌^◌, ◌<◌, List, length, slice_index, get_or, sym, subst, ℤ, pos, ◌<ℤ◌, ◌≤ℤ◌, nat_abs, arith}
use Rattle.std.proofs.lemmas.Int.{ints}
use Rattle.maid_model.specs.declared.answers.Row.{Row}
use Rattle.maid_model.specs.Answers.{IsAnswerRow, IsFraction, no_row}
use Rattle.maid_model.specs.Gains.{gain_at, mass_at, gain_in}
use Rattle.maid_model.specs.Nodes.{states_of}
use Rattle.maid_model.specs.Scopes.{scope_of}
use Rattle.maid_model.specs.Views.{NodeView, RuleView}
use Rattle.part_laws.specs.PartLaws.{DecidesAlike}
use Rattle.rule_solver.specs.Answered.{IsAnsweredBy}
use Rattle.rule_solver.specs.Rows.{AnswersRow, AnswersRows}
use Rattle.rule_solver.specs.Sums.{IsRowSums, scope_gain, scope_mass}
use Rattle.rule_solver.proofs.RowLemmas.{answers-same}

positive : (m : ℕ) → pos 0 <ℤ pos m → 0 < m
positive m h = omega (arith, ints)

more_than_none : (m : ℕ) → 0 < m → pos 0 <ℤ pos m
more_than_none m h = omega (arith, ints)

none_left : (m : ℕ) → (0 < m → ⊥) → m ≡ 0
none_left m n = omega arith

-- what is never at most is more
more_if : (a b x y : ℤ) → ((b ≤ℤ a) → (y ≤ℤ x)) → x <ℤ y → a <ℤ b
more_if a b x y from less = go (either a b)
  where
    either : (a b : ℤ) → (b ≤ℤ a) ⊎ (a <ℤ b)
    either a b = grind (arith, ints)

    clash : (x y : ℤ) → x <ℤ y → (y ≤ℤ x) → ⊥
    clash x y l h = omega (arith, ints)

    go : ((b ≤ℤ a) ⊎ (a <ℤ b)) → a <ℤ b
    go (inl h) = absurd (clash x y less (from h))
    go (inr h) = h

-- a row answered by its gains and mass in the part of the scope is answered in the whole, where
-- both decide alike
answer_row_is : (nodes : List NodeView) (decimals : ℕ) (base : List RuleView) (d row mass : ℕ) (r : Row) → DecidesAlike nodes base (scope_of nodes d) d row → pos mass ≡ scope_mass nodes base d row
    → AnswersRow (λ s. scope_gain nodes base d s row) (states_of nodes d) mass (10 ^ decimals) r → IsAnswerRow nodes decimals base d row r
answer_row_is nodes decimals base d row mass r alike e a = record {
  best = λ h. let b = a.best (some h) in record {
    within = b.within;
    greatest = λ s k. (alike.best s r.choice).1 (b.greatest s k);
    first = λ s k. more_if (gain_at nodes base d s row) (gain_at nodes base d r.choice row) (scope_gain nodes base d s row) (scope_gain nodes base d r.choice row) (alike.best r.choice s).0 (b.first s k);
  };
  worth = λ h. let w = a.worth (some h) in
      (w.0, w.1, (alike.worth r.choice (10 ^ decimals) w.0).1 (subst (λ m. IsFraction w.0 (scope_gain nodes base d r.choice row) (nat_abs m * 10 ^ decimals)) e w.2));
  never = λ h. a.never (none_left mass (λ l. clash (mass_at nodes base d row) h (alike.reached.1 (subst (λ m. pos 0 <ℤ m) e (more_than_none mass l)))));
}
  where
    some : pos 0 <ℤ mass_at nodes base d row → 0 < mass
    some h = positive mass (subst (λ m. pos 0 <ℤ m) (sym e) (alike.reached.0 h))

    clash : (m : ℤ) → m ≡ pos 0 → pos 0 <ℤ m → ⊥
    clash m h l = omega (arith, ints)

-- all rows of a decision
pub answered_by : (nodes : List NodeView) (decimals : ℕ) (base : List RuleView) (d : ℕ) (gains : List ℤ) (masses : List ℕ) (rows : List Row) → ((row : ℕ) → DecidesAlike nodes base (scope_of nodes d) d row)
    → IsRowSums nodes base d gains masses → AnswersRows (gain_in gains (states_of nodes d)) (slice_index masses) (states_of nodes d) (10 ^ decimals) (length masses) rows
    → IsAnsweredBy nodes decimals base d rows
answered_by nodes decimals base d gains masses rows alike sums a = record {
  count = a.count ∙ sums.mass_count;
  each = λ row h.
      let here : row < length masses = subst (λ n. row < n) (sym sums.mass_count) h in
      let inside : row < length rows = subst (λ n. row < n) (sym a.count) here in
      answer_row_is nodes decimals base d row (slice_index masses row) (get_or rows row no_row) (alike row) (sums.mass_there row h)
      (answers-same (λ s. gain_in gains (states_of nodes d) s row) (λ s. scope_gain nodes base d s row) (states_of nodes d) (slice_index masses row) (10 ^ decimals) (get_or rows row no_row) (λ s k. sums.gain s row k h) (a.choices row no_row inside) (a.each row here));
  choices = a.choices;
  worths = a.worths;
}
