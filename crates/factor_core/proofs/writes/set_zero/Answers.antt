use Rattle.std.proofs.Common.{◌≡◌, ◌∙◌, ℕ, ◌+◌, ◌<◌, List, set, length, refl, ap, arith, inl, inr}
use Rattle.std.proofs.lemmas.Bool.{cases_lt}
use Rattle.std.proofs.lemmas.List.{length-set, get_or-set_same, get_or-set_other, get_or_past}
use Rattle.cell_rings.specs.Rings.{Ring}
use Rattle.cell_rings.specs.Sums.{cell_at}
use Rattle.factor_core.proofs.writes.set_zero.Goals as goal

-- one cell more is nought
nought_next : {C : Type 0} (r : Ring C) (cells : List C) (i : ℕ) (z : C) → i < length cells → z ≡ r.nought → ((p : ℕ) → p < i → cell_at r cells p ≡ r.nought) → (p : ℕ) → p < i + 1 → cell_at r (set cells i z) p ≡ r.nought
nought_next r cells i z l e below p m = elim (cases_lt p i) [
  | inl less ↦ get_or-set_other cells i p z r.nought (omega arith) ∙ below p less
  | inr more ↦ ap (cell_at r (set cells i z)) (let same : p ≡ i = omega arith in same) ∙ get_or-set_same cells i z r.nought l ∙ e
]

pub loop-i-init : goal.loop-i-init
loop-i-init g c = (refl, λ p l. absurd (omega arith))

pub bounds-cells-i : goal.bounds-cells-i
bounds-cells-i g c = omega (arith, c.loop-i-test.true, c.loop-i.auto.cells)

pub loop-i-preserved : goal.loop-i-preserved
loop-i-preserved g c = (
  length-set c.loop-i.cells c.loop-i.i c.zero.result ∙ c.loop-i.invariant.0,
  nought_next g.C.Cell.ring c.loop-i.cells c.loop-i.i c.zero.result (omega (arith, c.loop-i-test.true, c.loop-i.auto.cells)) c.zero.ensures c.loop-i.invariant.1,
)

pub returns : goal.returns
returns g c = λ p. elim (cases_lt p c.loop-i.i) [
  | inl less ↦ c.loop-i.invariant.1 p less
  | inr more ↦ get_or_past c.loop-i.cells p g.C.Cell.ring.nought (omega (arith, c.loop-i-test.false, c.loop-i.auto.cells))
]
