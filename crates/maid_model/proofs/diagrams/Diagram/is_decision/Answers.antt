use Rattle.std.proofs.Common.{ap, ◌∙◌}
use Rattle.std.proofs.lemmas.Bool.{false≢true}
use Rattle.maid_model.specs.Nodes.{node_at, is_decision}
use Rattle.maid_model.specs.Views.{DiagramView, NodeView}
use Rattle.maid_model.proofs.Owners.{node_read, no_decision}
use Rattle.maid_model.proofs.diagrams.Diagram.is_decision.Goals as goal

pub returns-in-Chance : goal.returns-in-Chance
returns-in-Chance c =
    let read = node_read c.self.inside.nodes.items c.args.self.now.nodes c.args.v c.index.result.now (ap (λ (d : DiagramView). d.nodes) c.self.view_is) c.requires c.index.ensures in
    let none = no_decision c.behind-self.inside.kind (node_at c.args.self.now.nodes c.args.v) c.in-Chance.is (ap (λ (n : NodeView). n.kind) (c.behind-self.view_is ∙ read)) in
    record { kind = none; decision = (λ t. absurd (false≢true t), λ d. none ∙ ap is_decision d.kind) }
