use Rattle.std.proofs.Common.{rules, ℕ, zero, suc, refl, ◌≡◌, ◌∙◌, ◌⊎◌, ◌*◌, true, false, ap, sym, subst, inl, inr, ℤ, pos, ◌≤ℤ◌, ◌<ℤ◌, slice_index_or, FitsSigned, arith}
use Rattle.std.proofs.lemmas.Int.{to_z-of_z}
use Rattle.std.specs.Int.{w128}
use Rattle.std.specs.Prelude.{IsSome}
use Rattle.maid_model.specs.Answers.{IsFraction}
use Rattle.std.proofs.lemmas.Int.{ints}
use Rattle.tree_checker.proofs.rows.row_fault.Goals as goal

compare : (a b : ℤ) → (a ≤ℤ b) ⊎ (b <ℤ a)
compare a b = grind (arith, ints)

unless : (a b : ℤ) → (b <ℤ a → ⊥) → a ≤ℤ b
unless a b n = go (compare a b)
  where
    go : (a ≤ℤ b) ⊎ (b <ℤ a) → a ≤ℤ b
    go (inl h) = h
    go (inr h) = absurd (n h)

positive : (m : ℕ) → (m ≡ 0 → ⊥) → pos 0 <ℤ pos m
positive zero h = absurd (h refl)
positive (suc m) h = omega (arith, ints)

not_both : true ≡ false → ⊥
not_both e = cc

pub returns-then-is_fraction : goal.returns-then-is_fraction
returns-then-is_fraction c =
    let some = c.if-mass-eq0-2.false in
    let fits : FitsSigned w128 (slice_index_or c.args.gains.now c.args.row.now.choice (pos 0)) = search rules in
    record {
      best = λ p s l. unless (slice_index_or c.args.gains.now s (pos 0)) (slice_index_or c.args.gains.now c.args.row.now.choice (pos 0)) (λ b. not_both (sym (c.has_better.ensures.1 (s, l, b)) ∙ c.if-has_better.false));
      worth = λ p. (
        c.in-Some.worth,
        c.in-Some.is,
        subst (λ g. IsFraction c.in-Some.worth g (c.args.mass * c.args.scale)) (to_z-of_z w128 (slice_index_or c.args.gains.now c.args.row.now.choice (pos 0)) fits) (c.is_fraction.ensures.0 c.if-is_fraction.true),
      );
      never = λ e. absurd (omega (arith, ints));
    }

pub returns-else-is_fraction : goal.returns-else-is_fraction
returns-else-is_fraction c = (
  positive c.args.mass c.if-mass-eq0-2.false,
  (λ b. not_both (sym (c.has_better.ensures.1 b) ∙ c.if-has_better.false)),
  (
    c.in-Some.worth,
    c.in-Some.is,
    (λ f. not_both (sym (c.is_fraction.ensures.1 (subst (λ g. IsFraction c.in-Some.worth g (c.args.mass * c.args.scale)) (sym (to_z-of_z w128 (slice_index_or c.args.gains.now c.args.row.now.choice (pos 0)) (search rules))) f)) ∙ c.if-is_fraction.false)),
  ),
)

no_mass : (m : ℕ) → m ≡ 0 → pos 0 <ℤ pos m → ⊥
no_mass m e p = omega (arith, ints)

pub returns-then-mass-eq0 : goal.returns-then-mass-eq0
returns-then-mass-eq0 c = record {
  best = λ p. absurd (no_mass c.args.mass c.if-mass-eq0.true p);
  worth = λ p. absurd (no_mass c.args.mass c.if-mass-eq0.true p);
  never = λ e. c.in_default.is;
}

pub returns-else-mass-eq0 : goal.returns-else-mass-eq0
returns-else-mass-eq0 c = inl (positive c.args.mass c.if-mass-eq0.false, c.in_default.is)

pub returns-then-mass-eq0-2 : goal.returns-then-mass-eq0-2
returns-then-mass-eq0-2 c = inr (ap pos c.if-mass-eq0-2.true, subst IsSome (sym c.in-Some.is) refl)

pub returns-then-has_better : goal.returns-then-has_better
returns-then-has_better c = (positive c.args.mass c.if-mass-eq0-2.false, subst IsSome (sym c.in-Some.is) refl, c.has_better.ensures.0 c.if-has_better.true)
