use Rattle.std.proofs.Common.{rules, ◌≡◌, ◌∙◌, ◌+◌, ◌<◌, ℕ, ℤ, ◌≤ℤ◌, ◌<ℤ◌, true, false, not, T, pos, slice_index_or, refl, sym, subst, arith, FitsSigned}
use Rattle.std.proofs.Math.Decide.{ℕ_discrete}
use Rattle.std.proofs.lemmas.Int.{ints, to_z-of_z}
use Rattle.std.specs.Int.{w128}
use Rattle.std.specs.Int.Signed.{lt_z, lt_z_no, lt_z_yes}
use Rattle.tree_checker.proofs.rows.has_better.Goals as goal

less : (a b : ℤ) → lt_z a b ≡ true → a <ℤ b
less a b e = lt_z_yes (subst T (sym e) tt)

not_less : (a b : ℤ) → lt_z a b ≡ false → b ≤ℤ a
not_less a b e = lt_z_no (subst (λ t. T (not t)) (sym e) tt)

not_beaten : (a b : ℤ) → a ≤ℤ b → b <ℤ a → ⊥
not_beaten a b h k = omega (arith, ints)

pub returns-then-gain-chosen : goal.returns-then-gain-chosen
returns-then-gain-chosen c =
    let chosen = slice_index_or c.args.gains.now c.args.choice (pos 0) in
    let gain = slice_index_or c.args.gains.now c.loop-gain.gain-index (pos 0) in
    let fits_chosen : FitsSigned w128 chosen = search rules in
    let fits_gain : FitsSigned w128 gain = search rules in
    let told : lt_z chosen gain ≡ true = (λ i. lt_z (sym (to_z-of_z w128 chosen fits_chosen) i) (sym (to_z-of_z w128 gain fits_gain) i)) ∙ c.if-gain-chosen.true in
    ((λ t. (c.loop-gain.gain-index, c.loop-gain-test.true, less chosen gain told)), (λ b. refl))

pub loop-gain-preserved : goal.loop-gain-preserved
loop-gain-preserved c =
    let chosen = slice_index_or c.args.gains.now c.args.choice (pos 0) in
    let gain = slice_index_or c.args.gains.now c.loop-gain.gain-index (pos 0) in
    let fits_chosen : FitsSigned w128 chosen = search rules in
    let fits_gain : FitsSigned w128 gain = search rules in
    let told : lt_z chosen gain ≡ false = (λ i. lt_z (sym (to_z-of_z w128 chosen fits_chosen) i) (sym (to_z-of_z w128 gain fits_gain) i)) ∙ c.if-gain-chosen.false in
    λ s l. go s l (not_less chosen gain told) (ℕ_discrete s c.loop-gain.gain-index)
  where
    earlier : (s k : ℕ) → s < k + 1 → (s ≡ k → ⊥) → s < k
    earlier s k l n = omega arith

    go : (s : ℕ) → s < c.loop-gain.gain-index + 1 → slice_index_or c.args.gains.now c.loop-gain.gain-index (pos 0) ≤ℤ slice_index_or c.args.gains.now c.args.choice (pos 0) → Dec (s ≡ c.loop-gain.gain-index) → slice_index_or c.args.gains.now s (pos 0) ≤ℤ slice_index_or c.args.gains.now c.args.choice (pos 0)
    go s l last (yes e) = subst (λ s. slice_index_or c.args.gains.now s (pos 0) ≤ℤ slice_index_or c.args.gains.now c.args.choice (pos 0)) (sym e) last
    go s l last (no n) = c.loop-gain.invariant s (earlier s c.loop-gain.gain-index l n)

pub returns : goal.returns
returns c = (
  λ t. absurd (let no : false ≡ true = t in cc),
  λ b. absurd (not_beaten (slice_index_or c.args.gains.now b.0 (pos 0)) (slice_index_or c.args.gains.now c.args.choice (pos 0)) (c.loop-gain.invariant b.0 (let l : b.0 < _ = b.1 in let h = c.loop-gain-test.false in omega (arith, l, h))) b.2),
)
