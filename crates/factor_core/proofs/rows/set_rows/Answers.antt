use Rattle.std.proofs.Common.{◌≡◌, ℕ, ◌+◌, ◌-◌, ◌<◌, ◌≤◌, ◌⊎◌, length, get_or, refl, sym, ap, ◌∙◌, subst, arith, mul-le-mul_right, inl, inr}
use Rattle.std.proofs.lemmas.Bool.{cases_lt}
use Rattle.factor_core.specs.Rows.{HasStrideRow, row_beside}
use Rattle.factor_core.proofs.Listing.{listed_few}
use Rattle.factor_core.proofs.StrideRows.{parts_begin, parts_taken, waits_next, taken_next, waits_beyond, beside, beside_once, equal_or_not}
use Rattle.factor_core.proofs.rows.set_rows.Goals as goal
use Rattle.factor_core.proofs.rows.set_rows.Goals.{else-low-node-via-then-low-node+else-node-high, else-low-node-via-else-low-node}

pub loop-i-init : goal.loop-i-init
loop-i-init c = (
  refl,
  refl,
  λ j a l. absurd (omega arith),
  λ r v right was. was,
  λ u from to wait taken. parts_begin c.args.counts.now c.args.slots.now c.args.low c.args.high c.requires.range.1 c.args.kept.now c.requires.kept _ c.requires.behind u from to wait,
)

pub place_beside-requires : goal.place_beside-requires
place_beside-requires c = omega (arith, c.loop-i.auto.i, ap length c.requires.kept.listing, listed_few c.requires.kept.scope (length c.args.counts.now), c.requires.counts.few, c.loop-i-test.true)

pub set_row-requires-clause-behind : goal.set_row-requires-clause-behind
set_row-requires-clause-behind c =
    let i = c.loop-i.i - 1 in
    let next : i + 1 ≡ c.loop-i.i = omega (arith, c.loop-i-test.true) in
    let within : i < length c.args.kept.now = omega (arith, c.loop-i.auto.i, c.loop-i-test.true) in
    c.loop-i.invariant.4 (get_or c.args.kept.now i 0 + 1) (omega (arith, c.if-low-node.true)) (omega (arith, c.if-node-high.true))
    (λ j a b. waits_next c.args.counts.now c.args.slots.now c.args.low c.args.high c.requires.range.1 c.args.kept.now c.requires.kept i within j (omega (arith, next)) b)
    (λ j a l b. taken_next c.args.counts.now c.args.slots.now c.args.low c.args.high c.requires.range.1 c.args.kept.now c.requires.kept i j (omega (arith, next)) l b)

pub loop-i-preserved-then-node-high : goal.loop-i-preserved-then-node-high
loop-i-preserved-then-node-high c =
    let i = c.loop-i.i - 1 in
    let kept = c.args.kept.now in
    let strides = c.set_row.new.strides in
    let within : i < length kept = omega (arith, c.loop-i.auto.i, c.loop-i-test.true) in
    let place : c.place_beside.result ≡ row_beside c.args.at i = c.place_beside.ensures in
    let mine : HasStrideRow c.args.counts.now c.args.slots.now strides (row_beside c.args.at i) (get_or kept i 0) = subst (λ r. HasStrideRow c.args.counts.now c.args.slots.now strides r (get_or kept i 0)) place c.set_row.ensures.row in
    let same : (j : ℕ) → i ≡ j → HasStrideRow c.args.counts.now c.args.slots.now strides (row_beside c.args.at j) (get_or kept j 0) = λ j e. subst (λ k. HasStrideRow c.args.counts.now c.args.slots.now strides (row_beside c.args.at k) (get_or kept k 0)) e mine in (
      c.set_row.auto.strides ∙ c.loop-i.invariant.0,
      c.set_row.auto.sizes ∙ c.loop-i.invariant.1,
      λ j a l low high. elim (cases_lt i j) [
        | inl m ↦ c.set_row.ensures.others (row_beside c.args.at j) (get_or kept j 0) (λ e. let once = beside_once c.args.at j i (e ∙ place) in omega arith) (c.loop-i.invariant.2 j (omega arith) l low high)
        | inr m ↦ same j (omega arith)
      ],
      λ r v right was. elim (equal_or_not r c.place_beside.result) [
        | inl e ↦
            let v_is : v ≡ get_or kept i 0 = right i within (e ∙ place) in
            subst (λ q. HasStrideRow c.args.counts.now c.args.slots.now strides q v) (sym e) (subst (λ q. HasStrideRow c.args.counts.now c.args.slots.now strides c.place_beside.result q) (sym v_is) c.set_row.ensures.row)
        | inr ne ↦ c.set_row.ensures.others r v ne (c.loop-i.invariant.3 r v right was)
      ],
      λ u from to wait taken. parts_taken c.args.counts.now c.args.slots.now c.args.low c.args.high c.requires.range.1 kept c.requires.kept i _ within c.if-low-node.true c.if-node-high.true c.set_row.ensures.sizes u from wait taken,
    )

pub loop-i-preserved : goal.loop-i-preserved
loop-i-preserved c =
    let i = c.loop-i.i - 1 in
    let kept = c.args.kept.now in
    let next : i + 1 ≡ c.loop-i.i = omega (arith, c.loop-i-test.true) in
    let out : (get_or kept i 0 < c.args.low) ⊎ (c.args.high ≤ get_or kept i 0) = elim c.else-low-node.branch [
      | else-low-node-via-then-low-node+else-node-high w ↦ inr w.if-node-high.false
      | else-low-node-via-else-low-node w ↦ inl w.if-low-node.false
    ] in (
      c.loop-i.invariant.0,
      c.loop-i.invariant.1,
      λ j a l low high. elim (cases_lt i j) [
        | inl m ↦ c.loop-i.invariant.2 j (omega arith) l low high
        | inr m ↦ absurd (elim (subst (λ k. (get_or kept k 0 < c.args.low) ⊎ (c.args.high ≤ get_or kept k 0)) (let e : i ≡ j = omega arith in e) out) [ inl h ↦ (let d = h in omega arith) | inr h ↦ (let d = h in omega arith) ])
      ],
      c.loop-i.invariant.3,
      λ u from to wait taken. c.loop-i.invariant.4 u from to
          (λ j a b. waits_beyond c.args.counts.now c.args.slots.now c.args.low c.args.high c.requires.range.1 kept c.requires.kept i u from to out wait j (omega (arith, next)) b)
          (λ j a l b. taken j (omega (arith, next)) l b),
    )

pub bounds-kept-i : goal.bounds-kept-i
bounds-kept-i c = omega (arith, c.loop-i.auto.i, c.loop-i-test.true)

pub offset_bounds-kept-i : goal.offset_bounds-kept-i
offset_bounds-kept-i c = record { fits = omega (arith, c.loop-i.auto.i, ap length c.requires.kept.listing, listed_few c.requires.kept.scope (length c.args.counts.now), c.requires.counts.few) }

pub overflow_step-i : goal.overflow_step-i
overflow_step-i c = c.loop-i-test.true

pub set_row-requires-clause-room : goal.set_row-requires-clause-room
set_row-requires-clause-room c =
    let within : c.place_beside.result + 1 ≤ length c.args.kept.now + 1 = omega (arith, beside c.args.at (c.loop-i.i - 1), c.place_beside.ensures, c.loop-i.auto.i, c.loop-i-test.true) in
    omega (arith, mul-le-mul_right (length c.args.slots.now) within, c.requires.room, c.loop-i.invariant.0)

pub loop-i-smaller-then-node-high : goal.loop-i-smaller-then-node-high
loop-i-smaller-then-node-high c = omega (arith, c.loop-i-test.true)

pub loop-i-smaller : goal.loop-i-smaller
loop-i-smaller c = omega (arith, c.loop-i-test.true)

pub set_row-requires-clause-counts : goal.set_row-requires-clause-counts
set_row-requires-clause-counts c = c.requires.counts

pub set_row-requires-clause-node : goal.set_row-requires-clause-node
set_row-requires-clause-node c = omega (arith, c.if-node-high.true, c.requires.range.1)

pub set_row-requires-clause-sizes : goal.set_row-requires-clause-sizes
set_row-requires-clause-sizes c = omega (arith, c.requires.sizes, c.loop-i.auto.sizes)

pub set_row-requires-clause-fits : goal.set_row-requires-clause-fits
set_row-requires-clause-fits c = c.requires.fits

pub returns-clause-rows : goal.returns-clause-rows
returns-clause-rows c = λ i l low high. c.loop-i.invariant.2 i (omega (arith, c.loop-i-test.false)) l low high

pub returns-clause-others : goal.returns-clause-others
returns-clause-others c = c.loop-i.invariant.3

pub returns-clause-sizes : goal.returns-clause-sizes
returns-clause-sizes c = c.loop-i.invariant.4 c.args.low (omega arith) c.requires.range.0 (λ j a b. absurd (omega (arith, a, c.loop-i-test.false))) (λ j a l from. from)
