use Rattle.std.proofs.Common.{◌≡◌, ℕ, ◌+◌, ◌*◌, ◌<◌, ◌≤◌, length, get_or, refl, sym, subst, arith, inl, inr}
use Rattle.std.proofs.lemmas.Bool.{cases_lt}
use Rattle.std.proofs.Math.Nat.{mul-le-mul_right}
use Rattle.factor_core.specs.Rows.{HasStrideRow, row_beside}
use Rattle.factor_core.proofs.StrideRows.{kept_below, rows_with, beside_apart, beside_once, kept_is_not, but_one}
use Rattle.factor_core.proofs.rows.set_strides_with.Goals as goal

pub returns : goal.returns
returns c =
    let counts = c.args.counts.now in
    let slots = c.args.slots.now in
    let kept = c.args.kept.now in
    let at = c.args.at in
    let last = c.set_rows-2.new.strides in
    let below = kept_below _ (length c.args.counts.now) kept c.requires.kept in
    let right : (i : ℕ) → i < length kept → (j : ℕ) → j < length kept → row_beside at i ≡ row_beside at j → get_or kept i 0 ≡ get_or kept j 0 = λ i l j m e. subst (λ k. get_or kept i 0 ≡ get_or kept k 0) (beside_once at i j e) refl in
    let mine : HasStrideRow counts slots last at c.args.node = c.set_rows-2.ensures.others at c.args.node (λ j l e. absurd (beside_apart at j (sym e))) c.set_row.ensures.row in
    rows_with counts slots last kept at c.args.node c.requires.at (omega (arith, c.requires.room, c.set_rows-2.auto.strides, c.set_row.auto.strides, c.set_rows.auto.strides)) mine
    (λ i l. elim (cases_lt (get_or kept i 0) c.args.node) [
      | inl before ↦ c.set_rows-2.ensures.rows i l (omega arith) before
      | inr from ↦
          let behind : c.args.node + 1 ≤ get_or kept i 0 = kept_is_not slots c.args.node (length counts) kept c.requires.kept i l from in
          let first = c.set_rows.ensures.rows i l behind (below i l) in
          let kept_then = c.set_row.ensures.others (row_beside at i) (get_or kept i 0) (beside_apart at i) first in
          c.set_rows-2.ensures.others (row_beside at i) (get_or kept i 0) (λ j m e. right i l j m e) kept_then
    ])

pub set_rows-requires-clause-kept : goal.set_rows-requires-clause-kept
set_rows-requires-clause-kept c = but_one c.args.counts.now c.args.slots.now c.args.node c.args.kept.now c.requires.kept (c.args.node + 1) (length c.args.counts.now) (inr (omega arith))

pub set_rows-requires-2-clause-kept : goal.set_rows-requires-2-clause-kept
set_rows-requires-2-clause-kept c = but_one c.args.counts.now c.args.slots.now c.args.node c.args.kept.now c.requires.kept 0 c.args.node (inl (omega arith))

pub set_ones-requires : goal.set_ones-requires
set_ones-requires c = c.requires.sizes

pub overflow_add-node : goal.overflow_add-node
overflow_add-node c = omega (arith, c.requires.node, c.requires.counts.few)

pub set_rows-requires-clause-counts : goal.set_rows-requires-clause-counts
set_rows-requires-clause-counts c = c.requires.counts

pub set_rows-requires-clause-fits : goal.set_rows-requires-clause-fits
set_rows-requires-clause-fits c = c.requires.fits

pub set_row-requires-clause-counts : goal.set_row-requires-clause-counts
set_row-requires-clause-counts c = c.requires.counts

pub set_row-requires-clause-fits : goal.set_row-requires-clause-fits
set_row-requires-clause-fits c = c.requires.fits

pub set_rows-requires-2-clause-counts : goal.set_rows-requires-2-clause-counts
set_rows-requires-2-clause-counts c = c.requires.counts

pub set_rows-requires-2-clause-fits : goal.set_rows-requires-2-clause-fits
set_rows-requires-2-clause-fits c = c.requires.fits

pub set_rows-requires-clause-behind : goal.set_rows-requires-clause-behind
set_rows-requires-clause-behind c = c.set_ones.ensures

pub set_rows-requires-clause-range : goal.set_rows-requires-clause-range
set_rows-requires-clause-range c = (omega (arith, c.requires.node), omega arith)

pub set_rows-requires-clause-room : goal.set_rows-requires-clause-room
set_rows-requires-clause-room c = c.requires.room

pub set_rows-requires-clause-sizes : goal.set_rows-requires-clause-sizes
set_rows-requires-clause-sizes c = omega (arith, c.requires.sizes, c.set_ones.auto.sizes)

pub set_row-requires-clause-behind : goal.set_row-requires-clause-behind
set_row-requires-clause-behind c = c.set_rows.ensures.sizes

pub set_row-requires-clause-node : goal.set_row-requires-clause-node
set_row-requires-clause-node c = c.requires.node

pub set_row-requires-clause-room : goal.set_row-requires-clause-room
set_row-requires-clause-room c =
    let more : (c.args.at + 1) * length c.args.slots.now ≤ (length c.args.kept.now + 1) * length c.args.slots.now = mul-le-mul_right (length c.args.slots.now) (omega (arith, c.requires.at)) in
    omega (arith, more, c.requires.room, c.set_rows.auto.strides)

pub set_row-requires-clause-sizes : goal.set_row-requires-clause-sizes
set_row-requires-clause-sizes c = omega (arith, c.requires.sizes, c.set_ones.auto.sizes, c.set_rows.auto.sizes)

pub set_rows-requires-2-clause-behind : goal.set_rows-requires-2-clause-behind
set_rows-requires-2-clause-behind c = c.set_row.ensures.sizes

pub set_rows-requires-2-clause-range : goal.set_rows-requires-2-clause-range
set_rows-requires-2-clause-range c = (omega arith, omega (arith, c.requires.node))

pub set_rows-requires-2-clause-room : goal.set_rows-requires-2-clause-room
set_rows-requires-2-clause-room c = omega (arith, c.requires.room, c.set_rows.auto.strides, c.set_row.auto.strides)

pub set_rows-requires-2-clause-sizes : goal.set_rows-requires-2-clause-sizes
set_rows-requires-2-clause-sizes c = omega (arith, c.requires.sizes, c.set_ones.auto.sizes, c.set_rows.auto.sizes, c.set_row.auto.sizes)
