use Rattle.std.proofs.Common.{rules, ◌∙◌, ap, length, refl, subst, sym, pos, ◌*ℤ◌, ◌+ℤ◌, slice_index, slice_index_or, FitsSigned}
use Rattle.std.proofs.lemmas.List.{length-set}
use Rattle.std.specs.Int.{w128}
use Rattle.tree_checker.specs.Walks.{GainFits}
use Rattle.tree_checker.proofs.SmallSums.{sum_fits, sum_is, told}
use Rattle.tree_checker.proofs.WalkEndings.{cell_added, mass_added}
use Rattle.tree_checker.proofs.lasts.add_picked.Goals as goal

pub bounds-values-row : goal.bounds-values-row
bounds-values-row c = c.requires.row

pub overflow_add-more : goal.overflow_add-more
overflow_add-more c =
    let value = slice_index_or c.args.values.now c.args.row (pos 0) in
    let fits : FitsSigned w128 value = search rules in
    sum_fits c.args.sum value c.ranges.sum fits c.requires.sum

pub add_to_cell-requires-clause-gains : goal.add_to_cell-requires-clause-gains
add_to_cell-requires-clause-gains c = c.requires.gains

pub add_to_cell-requires-clause-masses : goal.add_to_cell-requires-clause-masses
add_to_cell-requires-clause-masses c = c.requires.masses

pub add_to_cell-requires-clause-gain : goal.add_to_cell-requires-clause-gain
add_to_cell-requires-clause-gain c =
    let value = slice_index_or c.args.values.now c.args.row (pos 0) in
    let fits : FitsSigned w128 value = search rules in
    subst (GainFits c.args.gains.now c.args.cell c.args.product) (sym (sum_is c.args.sum value c.ranges.sum fits c.requires.sum)) c.requires.gain

pub add_to_cell-requires-clause-mass : goal.add_to_cell-requires-clause-mass
add_to_cell-requires-clause-mass c = c.requires.mass

pub returns-clause-gains : goal.returns-clause-gains
returns-clause-gains c =
    let value = slice_index_or c.args.values.now c.args.row (pos 0) in
    let fits : FitsSigned w128 value = search rules in
    λ cell. ap (λ l. slice_index_or l cell (pos 0)) c.add_to_cell.ensures.gains
    ∙ cell_added c.args.gains.now c.args.cell c.args.cell (pos c.args.product *ℤ told (told c.args.sum +ℤ told value)) (pos c.args.product *ℤ (c.args.sum +ℤ value))
    c.requires.gains refl (ap (λ z. pos c.args.product *ℤ z) (sum_is c.args.sum value c.ranges.sum fits c.requires.sum)) cell

pub returns-clause-masses : goal.returns-clause-masses
returns-clause-masses c = λ cell. ap (λ l. pos (slice_index l cell)) c.add_to_cell.ensures.masses ∙ mass_added c.args.masses.now c.args.cell c.args.product c.requires.masses cell

pub returns-clause-gain_count : goal.returns-clause-gain_count
returns-clause-gain_count c = ap length c.add_to_cell.ensures.gains ∙ length-set c.args.gains.now c.args.cell _

pub returns-clause-mass_count : goal.returns-clause-mass_count
returns-clause-mass_count c = ap length c.add_to_cell.ensures.masses ∙ length-set c.args.masses.now c.args.cell _
