use Rattle.std.proofs.Common.{◌≡◌, ◌∙◌, ◌+◌, ◌*◌, ◌<◌, ℕ, pos, slice_index, slice_index_or, refl, ap, sym, subst, arith, ◌≤◌}
use Rattle.std.proofs.Math.Decide.{ℕ_discrete}
use Rattle.std.proofs.lemmas.List.{get_or_default}
use Rattle.maid_model.specs.Answers.{no_row}
use Rattle.maid_model.specs.Gains.{AreSmallGains, gain_in}
use Rattle.tree_checker.specs.Judged.{PassesListed}
use Rattle.tree_checker.proofs.RowTransfer.{passes_like}
use Rattle.maid_model.specs.Diagrams.{greatest_number}
use Rattle.tree_checker.proofs.rows.first_fault.Goals as goal
use Rattle.tree_checker.proofs.rows.first_fault.Goals.{In_default}

here : (c : In_default) → PassesListed c.args.sums.now.gains.items c.args.sums.now.masses.items c.args.states c.args.scale c.loop-place.place (slice_index_or c.args.rows.now c.loop-place.place no_row)
here c = passes_like _ (λ s. gain_in c.args.sums.now.gains.items c.args.states s c.loop-place.place) c.args.states _ (pos (slice_index c.args.sums.now.masses.items c.loop-place.place)) _ c.args.scale (slice_index_or c.args.rows.now c.loop-place.place no_row) _
    c.row_gains-gains.ensures.count
    (ap pos (c.index.ensures ∙ get_or_default c.args.sums.now.masses.items c.loop-place.place c.index.result.now 0 (subst (λ n. c.loop-place.place < n) (sym c.requires.masses) c.loop-place-test.true)))
    refl
    (λ s l. c.row_gains-gains.ensures.gains s l ∙ ap (λ xs. slice_index_or xs (c.loop-place.place * c.args.states + s) (pos 0)) c.deref.ensures.value)
    (c.requires.choices c.loop-place.place no_row c.loop-place-test.true) c.in_default.ensures

pub loop-place-preserved : goal.loop-place-preserved
loop-place-preserved c = λ row l. go row l (ℕ_discrete row c.loop-place.place)
  where
    earlier : (row place : ℕ) → row < place + 1 → (row ≡ place → ⊥) → row < place
    earlier row place l n = omega arith

    go : (row : ℕ) → row < c.loop-place.place + 1 → Dec (row ≡ c.loop-place.place) → PassesListed c.args.sums.now.gains.items c.args.sums.now.masses.items c.args.states c.args.scale row (slice_index_or c.args.rows.now row no_row)
    go row l (yes e) = subst (λ row. PassesListed c.args.sums.now.gains.items c.args.sums.now.masses.items c.args.states c.args.scale row (slice_index_or c.args.rows.now row no_row)) (sym e) (here c)
    go row l (no n) = c.loop-place.invariant row (earlier row c.loop-place.place l n)

pub row_gains-gains-requires-clause-small : goal.row_gains-gains-requires-clause-small
row_gains-gains-requires-clause-small c = subst AreSmallGains (sym c.deref.ensures.value) c.requires.small

pub row_fault-requires-clause-choice : goal.row_fault-requires-clause-choice
row_fault-requires-clause-choice c = subst (λ n. (slice_index_or c.args.rows.now c.loop-place.place no_row).choice < n) (sym c.row_gains-gains.ensures.count) (c.requires.choices c.loop-place.place no_row c.loop-place-test.true)

pub row_fault-requires-clause-reduced : goal.row_fault-requires-clause-reduced
row_fault-requires-clause-reduced c = c.requires.reduced c.loop-place.place no_row c.loop-place-test.true

pub row_fault-requires-clause-room : goal.row_fault-requires-clause-room
row_fault-requires-clause-room c =
    let within = subst (λ n. c.loop-place.place < n) (sym c.requires.masses) c.loop-place-test.true in
    subst (λ mass. mass * c.args.scale ≤ greatest_number) (sym (c.index.ensures ∙ get_or_default c.args.sums.now.masses.items c.loop-place.place c.index.result.now 0 within)) (c.requires.room c.loop-place.place)

pub row_fault-requires-clause-small : goal.row_fault-requires-clause-small
row_fault-requires-clause-small c = c.row_gains-gains.ensures.small
