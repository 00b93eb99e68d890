use Rattle.std.proofs.Common.{◌≡◌, ◌+◌, ◌≤◌, nat_abs, arith, subst, inl, inr}
use Rattle.std.specs.Int.Bits.{bit_or}
use Rattle.std.proofs.lemmas.Bool.{cases_lt}
use Rattle.std.proofs.lemmas.Nat.{le_or_l, le_or_r, or_lt}
use Rattle.cell_rings.specs.Kinds.{gain_kind}
use Rattle.cell_rings.specs.Sums.{cell_at}
use Rattle.cell_rings.proofs.gains.are_words.Goals as goal

pub loop-i-preserved : goal.loop-i-preserved
loop-i-preserved c = (
  λ k l.
      elim (cases_lt k c.loop-i.i) [
        | inl less ↦ omega (arith, c.loop-i.invariant.0 k less, le_or_l c.loop-i.bits c.bits_of-bits.result)
        | inr more ↦
            subst (λ j. nat_abs (cell_at gain_kind c.args.cells.now (c.args.from + j)).0 ≤ bit_or c.loop-i.bits c.bits_of-bits.result) (let same : c.loop-i.i ≡ k = omega arith in same)
            (omega (arith, c.bits_of-bits.ensures, le_or_r c.loop-i.bits c.bits_of-bits.result))
      ],
  λ all. or_lt 63 c.loop-i.bits c.bits_of-bits.result (c.loop-i.invariant.1 (λ k l. all k (omega arith))) (let last = all c.loop-i.i (omega arith) in omega (arith, last, c.bits_of-bits.ensures)),
)

pub returns : goal.returns
returns c = (
  (λ t k l. omega (arith, c.fit_word.ensures.0 t, c.loop-i.invariant.0 k (omega (arith, c.loop-i-test.false)))),
  (λ all. c.fit_word.ensures.1 (c.loop-i.invariant.1 (λ k l. all k (omega arith)))),
)
