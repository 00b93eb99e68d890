use Rattle.std.proofs.Common.{subst}
use Rattle.maid_model.specs.Placing.{IsRelianceOrder}
use Rattle.relevance_graph.specs.Relevant.{IsOutcome}
use Rattle.rule_solver.proofs.Rooms.{lists_decisions}
use Rattle.form_tests.proofs.solving.has_room.Goals as goal

pub measure-requires : goal.measure-requires
measure-requires c =
    let nodes = c.args.diagram.now.nodes in
    let is : IsRelianceOrder nodes c.in-Ok.order.now = subst (IsOutcome nodes) c.in-Ok.ensures c.in_ok-relevance.ensures.outcome in
    lists_decisions nodes c.in-Ok.order.now is
