use Rattle.std.proofs.Common.{◌∙◌, ◌*◌, ap, slice_index}
use Rattle.maid_model.specs.Nodes.{states_of}
use Rattle.maid_model.proofs.Below.{goals_are_utilities, goals_marked}
use Rattle.tree_checker.proofs.WalkCells.{sums_listed}
use Rattle.tree_checker.proofs.decisions.sums_over.Goals as goal

pub cells_over-requires-clause-marks : goal.cells_over-requires-clause-marks
cells_over-requires-clause-marks c = goals_are_utilities c.args.diagram.now.nodes c.args.decision c.goals_of-goals.result c.goals_of-goals.ensures

pub returns : goal.returns
returns c =
    sums_listed c.args.diagram.now c.count-count.ensures.diagram c.args.profile.now c.args.decision c.goals_of-goals.result (goals_marked c.args.diagram.now.nodes c.args.decision c.goals_of-goals.result c.goals_of-goals.ensures)
    c.in_ok-sums.sums.gains.items c.in_ok-sums.sums.masses.items c.in_ok-masses.masses.items c.in_ok-sums.ensures c.in_ok-masses.ensures.count
    (λ row l. c.in_ok-masses.ensures.masses row l ∙ ap (λ cells. slice_index cells (row * states_of c.args.diagram.now.nodes c.args.decision)) c.deref.ensures.value)
