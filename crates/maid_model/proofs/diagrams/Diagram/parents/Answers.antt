use Rattle.std.proofs.Common.{◌≡◌, List, ℕ, ap, subst, ◌∙◌}
use Rattle.std.specs.Prelude.{Contains}
use Rattle.maid_model.specs.Nodes.{parents_of}
use Rattle.maid_model.specs.Views.{NodeView}
use Rattle.maid_model.proofs.diagrams.Diagram.parents.Goals as goal

pub returns-clause-known : goal.returns-clause-known
returns-clause-known c p there =
    let same : c.as_slice.result.now ≡ parents_of c.args.self.now.nodes c.args.v = c.as_slice.ensures ∙ ap (λ (n : NodeView). n.parents) (c.node.view_is ∙ c.node-node.ensures.node) in
    c.node-node.ensures.diagram.graph.parents_known p c.args.v (subst (λ (xs : List ℕ). Contains xs p) same there)
