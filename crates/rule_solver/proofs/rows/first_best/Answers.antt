-- The first of the greatest, one state further.
use Rattle.std.proofs.Common.{◌≡◌, ℕ, ◌+◌, ◌<◌, ◌≤◌, ℤ, ◌≤ℤ◌, ◌<ℤ◌, length, pos, slice_index_or, rules, sym, subst, arith}
use Rattle.std.proofs.Math.Decide.{ℕ_discrete}
use Rattle.std.proofs.lemmas.Int.{ints}
use Rattle.rule_solver.proofs.rows.first_best.Goals as goal
use Rattle.rule_solver.proofs.rows.first_best.Goals.{then-gain-gains, else-gain-gains}

-- the best is the first of the greatest of the first k
abbrev FirstSoFar : (ℕ → ℤ) → ℕ → ℕ → ℕ → Type 0
FirstSoFar gain n best k = (best < n) × ((s : ℕ) → s < k → gain s ≤ℤ gain best) × ((s : ℕ) → s < best → gain s <ℤ gain best) × (best ≤ k)

smaller : (k s : ℕ) → s < k + 1 → (s ≡ k → ⊥) → s < k
smaller k s l n = omega (arith, l)

best_more : (gain : ℕ → ℤ) (n best k : ℕ) → FirstSoFar gain n best k → k < n → gain best <ℤ gain k → FirstSoFar gain n k (k + 1)
best_more gain n best k so within less = (within, (λ s l. go s l (ℕ_discrete s k)), (λ s l. over (gain s) (gain best) (gain k) (so.1 s l) less), omega arith)
  where
    over : (x y z : ℤ) → x ≤ℤ y → y <ℤ z → x <ℤ z
    over x y z h m = omega (arith, ints)

    most : (x y z : ℤ) → x ≤ℤ y → y <ℤ z → x ≤ℤ z
    most x y z h m = omega (arith, ints)

    same : (x : ℤ) → x ≤ℤ x
    same x = omega (arith, ints)

    go : (s : ℕ) → s < k + 1 → Dec (s ≡ k) → gain s ≤ℤ gain k
    go s l (yes e) = subst (λ i. gain i ≤ℤ gain k) (sym e) (same (gain k))
    go s l (no n) = most (gain s) (gain best) (gain k) (so.1 s (smaller k s l n)) less

best_same : (gain : ℕ → ℤ) (n best k : ℕ) → FirstSoFar gain n best k → gain k ≤ℤ gain best → FirstSoFar gain n best (k + 1)
best_same gain n best k so most = (so.0, (λ s l. go s l (ℕ_discrete s k)), so.2, (let few = so.3 in omega (arith, few)))
  where
    go : (s : ℕ) → s < k + 1 → Dec (s ≡ k) → gain s ≤ℤ gain best
    go s l (yes e) = subst (λ i. gain i ≤ℤ gain best) (sym e) most
    go s l (no n) = so.1 s (smaller k s l n)

pub loop-state-preserved : goal.loop-state-preserved
loop-state-preserved c =
    let gain : ℕ → ℤ = λ s. slice_index_or c.args.gains.now s (pos 0) in
    let k = c.loop-state.state in
    elim c.if-gain-gains.branch [
      | then-gain-gains w ↦
          subst (λ b. FirstSoFar gain (length c.args.gains.now) b (k + 1)) (sym w.best-is)
          (best_more gain (length c.args.gains.now) c.loop-state.best k c.loop-state.invariant c.loop-state-test.true (let t = w.if-gain-gains.true in search rules))
      | else-gain-gains w ↦
          subst (λ b. FirstSoFar gain (length c.args.gains.now) b (k + 1)) (sym w.best-is)
          (best_same gain (length c.args.gains.now) c.loop-state.best k c.loop-state.invariant (let t = w.if-gain-gains.false in search rules))
    ]
