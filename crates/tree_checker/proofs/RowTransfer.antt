-- Rows that are judged by the sums of a part are judged by those of the whole: a part decides as
-- the whole does.
use Rattle.std.proofs.Common.{◌≡◌, ◌∙◌, ◌⊎◌, ℕ, zero, suc, ◌+◌, ◌*◌, ◌^◌, ◌<◌, List, length, slice_index, slice_index_or, refl, sym, ap, subst, inl, inr, arith, ℤ, pos, ◌*ℤ◌, ◌≤ℤ◌, ◌<ℤ◌, nat_abs, Option, Some, None}
use Rattle.std.proofs.lemmas.Int.{ints}
use Rattle.maid_model.specs.declared.answers.Ratio.{Ratio}
use Rattle.maid_model.specs.declared.answers.Row.{Row}
use Rattle.maid_model.specs.Accepted.{IsAcceptedRow}
use Rattle.maid_model.specs.Answers.{IsFraction, no_row}
use Rattle.maid_model.specs.Gains.{gain_at, mass_at, gain_in}
use Rattle.maid_model.specs.Graph.{IsGraph}
use Rattle.maid_model.specs.Nodes.{IsDecision, rows_of, states_of}
use Rattle.maid_model.specs.Parts.{part_of, place_in, rules_in, mass_left_out}
use Rattle.maid_model.specs.Scopes.{scope_of}
use Rattle.maid_model.specs.Views.{NodeView, DiagramView, RuleView}
use Rattle.finite_sums.proofs.Ints.{mul_zero}
use Rattle.part_laws.specs.PartLaws.{DecidesAlike, NodesOfParts}
use Rattle.part_laws.specs.ScopeLaws.{ScopesAreParts}
use Rattle.tree_checker.specs.declared.rows.RowFault.{RowFault}
use Rattle.tree_checker.specs.declared.verdicts.Cause.{Cause}
use Rattle.tree_checker.specs.declared.verdicts.Cause.TheVariants.{Order, Choice, Worth, Never, Gain}
use Rattle.tree_checker.specs.Judged.{FailsListed, ListsScopeSums, JudgesRows, PassesIn, PassesListed}
use Rattle.tree_checker.specs.Verdicts.{FailsIn, FailsRow, HasBetter}
use Rattle.tree_checker.proofs.RowClash.{accepted_of}
use Rattle.tree_checker.proofs.ScopeParts.{rows_there, states_there}

compare : (a b : ℤ) → (a ≤ℤ b) ⊎ (b <ℤ a)
compare a b = grind (arith, ints)

not_both : (a b : ℤ) → a ≤ℤ b → b <ℤ a → ⊥
not_both a b l m = omega (arith, ints)

above : (a b : ℤ) → (b ≤ℤ a → ⊥) → a <ℤ b
above a b n = go (compare b a)
  where
    go : (b ≤ℤ a) ⊎ (a <ℤ b) → a <ℤ b
    go (inl h) = absurd (n h)
    go (inr h) = h

-- a listed mass that the whole lacks is nought
no_mass : (mass : ℕ) (whole : ℤ) → (pos 0 <ℤ pos mass → pos 0 <ℤ whole) → whole ≡ pos 0 → pos mass ≡ pos 0
no_mass zero whole h e = refl
no_mass (suc mass) whole h e = absurd (clash whole (h (omega (arith, ints))) e)
  where
    clash : (a : ℤ) → pos 0 <ℤ a → a ≡ pos 0 → ⊥
    clash a l e = omega (arith, ints)

-- one row, whose sums in the part are listed
pub record IsListedRow (nodes : List NodeView) (p : List RuleView) (kept : List ℕ) (v row states : ℕ) (gain : ℕ → ℤ) (mass : ℕ) : Type 0 where
  pub alike : DecidesAlike nodes p kept v row
  pub masses : mass_at nodes p v row ≡ pos (mass_left_out nodes p kept) *ℤ mass_at (part_of nodes kept) (rules_in nodes p kept) (place_in kept v) row
  pub gains_are : (s : ℕ) → s < states → gain s ≡ gain_at (part_of nodes kept) (rules_in nodes p kept) (place_in kept v) s row
  pub mass_is : pos mass ≡ mass_at (part_of nodes kept) (rules_in nodes p kept) (place_in kept v) row

module _ (nodes : List NodeView) (p : List RuleView) (kept : List ℕ) (v row states : ℕ) (gain : ℕ → ℤ) (mass scale : ℕ) (r : Row) (h : IsListedRow nodes p kept v row states gain mass) (inside : r.choice < states) where
  reached : pos 0 <ℤ mass_at nodes p v row → pos 0 <ℤ pos mass
  reached m = subst (λ n. pos 0 <ℤ n) (sym h.mass_is) (h.alike.reached.0 m)

  reaches : pos 0 <ℤ pos mass → pos 0 <ℤ mass_at nodes p v row
  reaches m = h.alike.reached.1 (subst (λ n. pos 0 <ℤ n) h.mass_is m)

  none : pos mass ≡ pos 0 → mass_at nodes p v row ≡ pos 0
  none e = h.masses ∙ ap (λ m. pos (mass_left_out nodes p kept) *ℤ m) (sym h.mass_is ∙ e) ∙ mul_zero (pos (mass_left_out nodes p kept))

  best_whole : (s : ℕ) → s < states → gain s ≤ℤ gain r.choice → gain_at nodes p v s row ≤ℤ gain_at nodes p v r.choice row
  best_whole s l b = (h.alike.best s r.choice).1 (subst (λ g. g ≤ℤ gain_at (part_of nodes kept) (rules_in nodes p kept) (place_in kept v) r.choice row) (h.gains_are s l) (subst (λ g. gain s ≤ℤ g) (h.gains_are r.choice inside) b))

  best_part : (s : ℕ) → s < states → gain_at nodes p v s row ≤ℤ gain_at nodes p v r.choice row → gain s ≤ℤ gain r.choice
  best_part s l b = subst (λ g. gain s ≤ℤ g) (sym (h.gains_are r.choice inside)) (subst (λ g. g ≤ℤ gain_at (part_of nodes kept) (rules_in nodes p kept) (place_in kept v) r.choice row) (sym (h.gains_are s l)) ((h.alike.best s r.choice).0 b))

  better_whole : HasBetter gain states r.choice → HasBetter (λ s. gain_at nodes p v s row) states r.choice
  better_whole (s, l, b) = (s, l, above (gain_at nodes p v r.choice row) (gain_at nodes p v s row) (λ k. not_both (gain s) (gain r.choice) (best_part s l k) b))

  better_part : HasBetter (λ s. gain_at nodes p v s row) states r.choice → HasBetter gain states r.choice
  better_part (s, l, b) = (s, l, above (gain r.choice) (gain s) (λ k. not_both (gain_at nodes p v s row) (gain_at nodes p v r.choice row) (best_whole s l k) b))

  worth_part : (w : Ratio) → IsFraction w (gain_at nodes p v r.choice row) (nat_abs (mass_at nodes p v row) * scale) → IsFraction w (gain r.choice) (mass * scale)
  worth_part w f = subst (λ g. IsFraction w g (mass * scale)) (sym (h.gains_are r.choice inside)) (subst (λ m. IsFraction w (gain_at (part_of nodes kept) (rules_in nodes p kept) (place_in kept v) r.choice row) (nat_abs m * scale)) (sym h.mass_is) ((h.alike.worth r.choice scale w).0 f))

  worth_whole : (w : Ratio) → IsFraction w (gain r.choice) (mass * scale) → IsFraction w (gain_at nodes p v r.choice row) (nat_abs (mass_at nodes p v row) * scale)
  worth_whole w f = (h.alike.worth r.choice scale w).1 (subst (λ m. IsFraction w (gain_at (part_of nodes kept) (rules_in nodes p kept) (place_in kept v) r.choice row) (nat_abs m * scale)) h.mass_is (subst (λ g. IsFraction w g (mass * scale)) (h.gains_are r.choice inside) f))

  pub row_passes : PassesIn gain states (pos mass) scale r → PassesIn (λ s. gain_at nodes p v s row) states (mass_at nodes p v row) scale r
  row_passes q = record {
    best = λ m s l. best_whole s l (q.best (reached m) s l);
    worth = λ m. let w = q.worth (reached m) in (w.0, w.1, worth_whole w.0 w.2);
    never = λ e. q.never (no_mass mass (mass_at nodes p v row) reaches e);
  }

  pub row_fails : (cause : Cause) → FailsIn gain states (pos mass) scale r cause → FailsIn (λ s. gain_at nodes p v s row) states (mass_at nodes p v row) scale r cause
  row_fails Order f = f
  row_fails Choice f = (reaches f.0, f.1, better_whole f.2)
  row_fails Worth f = (reaches f.0, λ b. f.1 (better_part b), (f.2.0, f.2.1, λ w. f.2.2 (worth_part f.2.0 w)))
  row_fails Never (inl f) = inl (reaches f.0, f.1)
  row_fails Never (inr f) = inr (none f.0, f.1)
  row_fails Gain f = f

-- gains that are the same at each state judge alike
pub passes_like : (f h : ℕ → ℤ) (states n : ℕ) (mass m : ℤ) (scale : ℕ) (r q : Row) → n ≡ states → m ≡ mass → q ≡ r → ((s : ℕ) → s < states → f s ≡ h s) → r.choice < states → PassesIn f n m scale q → PassesIn h states mass scale r
passes_like f h states n mass m scale r q e o i same inside p = at (subst (λ x. PassesIn f states mass scale x) i (subst (λ x. PassesIn f states x scale q) o (subst (λ x. PassesIn f x m scale q) e p)))
  where
    at : PassesIn f states mass scale r → PassesIn h states mass scale r
    at p = record {
      best = λ l s k. subst (λ x. x ≤ℤ h r.choice) (same s k) (subst (λ x. f s ≤ℤ x) (same r.choice inside) (p.best l s k));
      worth = λ l. let w = p.worth l in (w.0, w.1, subst (λ x. IsFraction w.0 x (nat_abs mass * scale)) (same r.choice inside) w.2);
      never = p.never;
    }

-- what holds of each row carries over to the judgement of all
pub rows_like : (P Q : ℕ → Row → Type 0) (F G : ℕ → Row → Cause → Type 0) (rows : List Row)
    → ((row : ℕ) → row < length rows → P row (slice_index_or rows row no_row) → Q row (slice_index_or rows row no_row))
    → ((row : ℕ) → row < length rows → (cause : Cause) → F row (slice_index_or rows row no_row) cause → G row (slice_index_or rows row no_row) cause)
    → (fault : Option RowFault) → JudgesRows P F rows fault → JudgesRows Q G rows fault
rows_like P Q F G rows f g None h = λ row l. f row l (h row l)
rows_like P Q F G rows f g (Some fault) h = record {
  within = h.within;
  fails = g fault.row h.within fault.cause h.fails;
  before = λ row l. f row (inside row l h.within) (h.before row l);
}
  where
    inside : (row : ℕ) → row < fault.row → fault.row < length rows → row < length rows
    inside row l m = omega arith

-- a decision's rows, judged by its listed sums
module _ (d : DiagramView) (p : List RuleView) (v : ℕ) (g : IsGraph d.nodes) (k : IsDecision d.nodes v) (parts : NodesOfParts) (scopes : ScopesAreParts) (gains : List ℤ) (masses : List ℕ) (sums : ListsScopeSums d p v gains masses) where
  pub gain_count : length gains ≡ rows_of d.nodes v * states_of d.nodes v
  gain_count = sums.gain_count ∙ (λ i. rows_there d.nodes v g k parts scopes i * states_there d.nodes v g k parts scopes i)

  pub mass_count : length masses ≡ rows_of d.nodes v
  mass_count = sums.mass_count ∙ rows_there d.nodes v g k parts scopes

  module _ (alike : (row : ℕ) → DecidesAlike d.nodes p (scope_of d.nodes v) v row)
      (whole : (row : ℕ) → mass_at d.nodes p v row ≡ pos (mass_left_out d.nodes p (scope_of d.nodes v)) *ℤ mass_at (part_of d.nodes (scope_of d.nodes v)) (rules_in d.nodes p (scope_of d.nodes v)) (place_in (scope_of d.nodes v) v) row) where
    listed : (row : ℕ) → row < rows_of d.nodes v → IsListedRow d.nodes p (scope_of d.nodes v) v row (states_of d.nodes v) (λ s. gain_in gains (states_of d.nodes v) s row) (slice_index masses row)
    listed row l =
        let inside : row < rows_of (part_of d.nodes (scope_of d.nodes v)) (place_in (scope_of d.nodes v) v) = subst (λ n. row < n) (sym (rows_there d.nodes v g k parts scopes)) l in
        record {
          alike = alike row;
          masses = whole row;
          gains_are = λ s h.
              ap (λ n. slice_index_or gains (row * n + s) (pos 0)) (sym (states_there d.nodes v g k parts scopes))
              ∙ sums.gain s row (subst (λ n. s < n) (sym (states_there d.nodes v g k parts scopes)) h) inside;
          mass_is = sums.mass_there row inside;
        }

    pub rows_judged : (rows : List Row) → length rows ≡ rows_of d.nodes v → ((row : ℕ) → row < length rows → (slice_index_or rows row no_row).choice < states_of d.nodes v)
        → (fault : Option RowFault) → JudgesRows (PassesListed gains masses (states_of d.nodes v) (10 ^ d.decimals)) (FailsListed gains masses (states_of d.nodes v) (10 ^ d.decimals)) rows fault
        → JudgesRows (IsAcceptedRow d.nodes d.decimals p v) (FailsRow d.nodes d.decimals p v) rows fault
    rows_judged rows count choices fault judged =
        rows_like (PassesListed gains masses (states_of d.nodes v) (10 ^ d.decimals)) (IsAcceptedRow d.nodes d.decimals p v) (FailsListed gains masses (states_of d.nodes v) (10 ^ d.decimals)) (FailsRow d.nodes d.decimals p v) rows
        (λ row l q. accepted_of d.nodes d.decimals p v row (slice_index_or rows row no_row)
        (row_passes d.nodes p (scope_of d.nodes v) v row (states_of d.nodes v) (λ s. gain_in gains (states_of d.nodes v) s row) (slice_index masses row) (10 ^ d.decimals) (slice_index_or rows row no_row) (listed row (subst (λ n. row < n) count l)) (choices row l) q))
        (λ row l cause q.
        row_fails d.nodes p (scope_of d.nodes v) v row (states_of d.nodes v) (λ s. gain_in gains (states_of d.nodes v) s row) (slice_index masses row) (10 ^ d.decimals) (slice_index_or rows row no_row) (listed row (subst (λ n. row < n) count l)) (choices row l) cause q)
        fault judged
