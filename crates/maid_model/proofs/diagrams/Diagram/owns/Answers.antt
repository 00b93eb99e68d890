use Rattle.std.proofs.Common.{ap, ◌∙◌, ◌==◌}
use Rattle.std.specs.List.{list_any}
use Rattle.maid_model.proofs.Owners.{owned_else}
use Rattle.maid_model.proofs.diagrams.Diagram.owns.Goals as goal

pub returns-else-node-agent : goal.returns-else-node-agent
returns-else-node-agent c = owned_else c.args.self.now.nodes c.args.node c.args.agent c.requires _ (c.node.view_is ∙ c.node-node.ensures.node) c.in-Decision.is c.if-node-agent.false c.contains.result (c.contains.ensures.value ∙ ap (λ l. list_any (λ a. a == c.args.agent) l) c.as_slice.ensures)
