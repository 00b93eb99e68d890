use Rattle.std.proofs.Common.{rules, ◌≡◌, ◌∙◌, ◌<◌, ◌≤◌, ◌+◌, ℕ, ℤ, List, arith, pos, get_or, take, length, unsigned_abs, refl, sym, subst}
use Rattle.std.proofs.lemmas.List.{get_or_default, take_all}
use Rattle.maid_model.specs.Diagrams.{greatest_number}
use Rattle.weight_scale.specs.Plain.{AddsUpTo}
use Rattle.weight_scale.proofs.Lists.{sum_so_far}
use Rattle.weight_scale.proofs.PlainParts.{no_total}
use Rattle.weight_scale.proofs.plain.total_within.Goals as goal

-- the total of one number more
adds_more : (row : List ℤ) (i so_far s next : ℕ) → i < length row → s ≡ unsigned_abs (get_or row i (pos 0)) → AddsUpTo (take i row) so_far
    → (so_far + s ≤ greatest_number) × (next ≡ so_far + s) → AddsUpTo (take (i + 1) row) next
adds_more row i so_far s next l is first told =
    let x = get_or row i (pos 0) in (
      sum_so_far unsigned_abs row i x l (get_or_default row i (pos 0) x l) ∙ (λ j. first.0 j + sym is j) ∙ sym told.1,
      subst (λ n. n ≤ greatest_number) (sym told.1) told.0,
    )

pub loop-number-init : goal.loop-number-init
loop-number-init c = (refl, omega arith)

pub bounds-row-number-index : goal.bounds-row-number-index
bounds-row-number-index c = c.loop-number-test.true

pub returns-in_err-total-clause-some : goal.returns-in_err-total-clause-some
returns-in_err-total-clause-some c = rw c.from_residual.ensures tt

pub returns-in_err-total-clause-none : goal.returns-in_err-total-clause-none
returns-in_err-total-clause-none c =
    let e : c.size.result ≡ unsigned_abs (get_or c.args.row.now c.loop-number.number-index (pos 0)) = search rules in
    rw c.from_residual.ensures (no_total c.args.row.now c.loop-number.number-index c.loop-number.total c.size.result c.loop-number-test.true e c.loop-number.invariant c.in_err-total.ensures)

pub loop-number-preserved : goal.loop-number-preserved
loop-number-preserved c =
    let e : c.size.result ≡ unsigned_abs (get_or c.args.row.now c.loop-number.number-index (pos 0)) = search rules in
    adds_more c.args.row.now c.loop-number.number-index c.loop-number.total c.size.result c.in_ok-total.total c.loop-number-test.true e c.loop-number.invariant c.in_ok-total.ensures

pub returns-clause-some : goal.returns-clause-some
returns-clause-some c = subst (λ (l : List ℤ). AddsUpTo l c.loop-number.total) (take_all c.loop-number.number-index c.args.row.now c.loop-number-test.false) c.loop-number.invariant

pub returns-clause-none : goal.returns-clause-none
returns-clause-none c = tt
