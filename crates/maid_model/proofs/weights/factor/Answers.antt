use Rattle.maid_model.proofs.Weighing.{chance_within, decision_is, decision_le, cell_inside, left_out_within}
use Rattle.maid_model.proofs.weights.factor.Goals as goal

pub returns-then-v-left_out-clause-within : goal.returns-then-v-left_out-clause-within
returns-then-v-left_out-clause-within c = left_out_within c.args.diagram.now c.args.profile.now c.args.v c.args.left_out c.kind-kind.ensures.diagram c.if-v-left_out.true

pub weight_at-requires-clause-cell : goal.weight_at-requires-clause-cell
weight_at-requires-clause-cell c =
    cell_inside c.args.diagram.now c.kind-kind.ensures.diagram c.args.profile.now c.requires.profile c.args.world.now c.requires.world c.args.v c.requires.node c.args.left_out c.if-v-left_out.false
    c.args.places.now c.cell-in-Decision.result c.requires.places c.in-Decision.ensures.kind c.cell-in-Decision.ensures.within

pub returns-in-Chance-clause-within : goal.returns-in-Chance-clause-within
returns-in-Chance-clause-within c =
    chance_within c.args.diagram.now c.kind-kind.ensures.diagram c.args.profile.now c.requires.profile c.args.world.now c.requires.world c.args.v c.requires.node c.args.left_out c.if-v-left_out.false
    c.cells.result.now c.cell.result c.in-Chance.ensures.kind c.cells.ensures.cells c.cell.ensures.cell

pub returns-in-Decision-clause-factor : goal.returns-in-Decision-clause-factor
returns-in-Decision-clause-factor c =
    decision_is c.args.diagram.now c.kind-kind.ensures.diagram c.args.profile.now c.requires.profile c.args.world.now c.requires.world c.args.v c.requires.node c.args.left_out c.if-v-left_out.false
    c.args.places.now c.cell-in-Decision.result c.weight_at.result c.requires.places c.in-Decision.ensures.kind c.cell-in-Decision.ensures.cell c.weight_at.ensures

pub returns-in-Decision-clause-within : goal.returns-in-Decision-clause-within
returns-in-Decision-clause-within c =
    decision_le c.args.diagram.now c.kind-kind.ensures.diagram c.args.profile.now c.requires.profile c.args.world.now c.requires.world c.args.v c.requires.node c.args.left_out c.if-v-left_out.false c.weight_at.result
    (decision_is c.args.diagram.now c.kind-kind.ensures.diagram c.args.profile.now c.requires.profile c.args.world.now c.requires.world c.args.v c.requires.node c.args.left_out c.if-v-left_out.false
    c.args.places.now c.cell-in-Decision.result c.weight_at.result c.requires.places c.in-Decision.ensures.kind c.cell-in-Decision.ensures.cell c.weight_at.ensures)
