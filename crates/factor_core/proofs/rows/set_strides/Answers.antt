use Rattle.std.proofs.Common.{◌≡◌, length, get_or, subst, arith, inl, inr}
use Rattle.factor_core.specs.Rows.{HasStrideRow, row_beside}
use Rattle.factor_core.proofs.StrideRows.{kept_below, rows_are, beside}
use Rattle.factor_core.proofs.rows.set_strides.Goals as goal

pub returns : goal.returns
returns c =
    let kept = c.args.kept.now in
    let strides = c.set_rows.new.strides in
    let below = kept_below _ (length c.args.counts.now) kept c.requires.kept in
    rows_are c.args.counts.now c.args.slots.now strides kept (omega (arith, c.requires.room, c.set_rows.auto.strides))
    (λ i l.
    let same : row_beside (length kept) i ≡ i = elim (beside (length kept) i) [ inl h ↦ h.1 | inr h ↦ absurd (let a = h.0 in omega arith) ] in
    subst (λ r. HasStrideRow c.args.counts.now c.args.slots.now strides r (get_or kept i 0)) same (c.set_rows.ensures.rows i l (omega arith) (below i l)))
