use Rattle.std.proofs.Common.{All, subst, sym, ◌<◌}
use Rattle.app_forms.proofs.Nodes.{last_of_order, last_of_cycle, cycle_members}
use Rattle.app_forms.proofs.forms.graph.last_line.Goals as goal

pub list_line-requires-in-Err : goal.list_line-requires-in-Err
list_line-requires-in-Err c =
    subst (λ n. All (λ v. v < n) c.in-Err.cycle.now) (sym c.requires.names.nodes) (cycle_members c.args.diagram.now.nodes c.args.relevance.now c.in-Err.cycle.now c.requires.relevance c.in-Err.ensures)

-- the line tells the outcome of the relevance graph
pub returns-in-Ok : goal.returns-in-Ok
returns-in-Ok c = last_of_order c.args.diagram.now.nodes c.args.names.now c.args.relevance.now c.in-Ok.order.now c.list_line.result c.requires.relevance c.in-Ok.ensures c.list_line.ensures

pub returns-in-Err : goal.returns-in-Err
returns-in-Err c = last_of_cycle c.args.diagram.now.nodes c.args.names.now c.args.relevance.now c.in-Err.cycle.now c.list_line-in-Err.result c.requires.relevance c.in-Err.ensures c.list_line-in-Err.ensures
