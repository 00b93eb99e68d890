use Rattle.std.proofs.lemmas.Result.{err_from_is_err_and}
use Rattle.std.proofs.Common.{◌∙◌, ◌*◌, ◌^◌, ◌≤◌, ap, max, nat_abs, sym, subst, arith}
use Rattle.std.proofs.lemmas.Int.{to_z-of_z}
use Rattle.std.specs.Int.{w128}
use Rattle.maid_model.specs.Diagrams.{greatest_number}
use Rattle.maid_model.specs.Gains.{base_mass, greatest_utility}
use Rattle.maid_model.proofs.Leaves.{whole_mass}
use Rattle.tree_checker.proofs.WalkCells.{first_gain, some_cell}
use Rattle.tree_checker.proofs.WalkOpened.{small_fits}
use Rattle.diagram_graph.specs.Room.{cells_at}
use Rattle.tree_checker.proofs.gains.gain_over.Goals as goal

pub cells_over-requires-clause-fits : goal.cells_over-requires-clause-fits
cells_over-requires-clause-fits c =
    subst (λ n. n * max (10 ^ c.args.diagram.now.decimals) (greatest_utility c.args.diagram.now.nodes) ≤ greatest_number)
    (sym (ap (base_mass c.args.diagram.now.nodes c.args.profile.now) c.count.ensures.count ∙ whole_mass c.args.diagram.now.nodes c.args.profile.now)) c.requires.fits

pub returns-clause-sum : goal.returns-clause-sum
returns-clause-sum c =
    let g = first_gain c.args.diagram.now c.count.ensures.diagram c.args.profile.now c.args.agent c.utilities_of-marks.result c.in_ok-sums.sums.gains.items c.in_ok-sums.sums.masses.items c.utilities_of-marks.ensures.tested c.count.result c.count.ensures.count c.in_ok-sums.ensures c.index.result.now c.index.ensures in
    to_z-of_z w128 c.index.result.now (small_fits c.index.result.now g.1) ∙ g.0

pub returns-clause-small : goal.returns-clause-small
returns-clause-small c =
    let g = first_gain c.args.diagram.now c.count.ensures.diagram c.args.profile.now c.args.agent c.utilities_of-marks.result c.in_ok-sums.sums.gains.items c.in_ok-sums.sums.masses.items c.utilities_of-marks.ensures.tested c.count.result c.count.ensures.count c.in_ok-sums.ensures c.index.result.now c.index.ensures in
    subst (λ z. nat_abs z ≤ greatest_number) (sym (to_z-of_z w128 c.index.result.now (small_fits c.index.result.now g.1))) g.1

pub cells_over-requires-clause-profile : goal.cells_over-requires-clause-profile
cells_over-requires-clause-profile c = c.requires.profile

pub cells_over-requires-clause-marks : goal.cells_over-requires-clause-marks
cells_over-requires-clause-marks c v l m = ((c.utilities_of-marks.ensures.utilities v).0 m).kind

pub cells_over-requires-clause-decision : goal.cells_over-requires-clause-decision
cells_over-requires-clause-decision c = omega (arith, c.count.ensures.count)

pub returns-in_err-sums-clause-sum : goal.returns-in_err-sums-clause-sum
returns-in_err-sums-clause-sum c = rw (err_from_is_err_and c.from_residual.result c.from_residual.ensures.1).1 tt

pub returns-in_err-sums-clause-small : goal.returns-in_err-sums-clause-small
returns-in_err-sums-clause-small c = rw (err_from_is_err_and c.from_residual.result c.from_residual.ensures.1).1 tt

pub index-requires : goal.index-requires
index-requires c =
    let one = c.in_ok-sums.ensures.gain_count ∙ ap (cells_at c.args.diagram.now.nodes) c.count.ensures.count ∙ some_cell c.args.diagram.now c.count.ensures.diagram in
    omega (arith, c.in_ok-sums.sums.gains.ok.0, one)
