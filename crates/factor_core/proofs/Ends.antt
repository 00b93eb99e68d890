-- Loops that count: what they have after one turn more, and at their end.
use Rattle.std.proofs.Common.{◌≡◌, ℕ, ◌+◌, ◌≤◌, sym, ap, subst, ◌∙◌, arith}
use Rattle.cell_rings.specs.Rings.{Ring}
use Rattle.cell_rings.specs.Sums.{ring_sum}
use Rattle.cell_rings.proofs.Dots.{sum_next}

-- a loop ends where its count is the end
pub same_end : (k n : ℕ) → n ≤ k → k ≤ n → k ≡ n
same_end k n over within = omega arith

-- what holds at the count of a loop holds at its end
pub at_end : (P : ℕ → Type 0) (k n : ℕ) → n ≤ k → k ≤ n → P k → P n
at_end P k n over within h = subst P (same_end k n over within) h

-- a sum with its next term
pub one_more : {C : Type 0} (r : Ring C) (s : ℕ) (f : ℕ → C) (sum term new : C) → sum ≡ ring_sum r s f → term ≡ f s → new ≡ r.plus sum term → new ≡ ring_sum r (s + 1) f
one_more r s f sum term new e is plus = plus ∙ ap (λ x. r.plus x term) e ∙ ap (r.plus (ring_sum r s f)) is ∙ sym (sum_next r s f)
