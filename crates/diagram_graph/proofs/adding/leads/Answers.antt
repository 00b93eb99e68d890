use Rattle.std.proofs.Common.{◌∙◌, ℕ, sym, subst}
use Rattle.maid_model.specs.Graph.{Arc, IsPath}
use Rattle.diagram_graph.proofs.adding.leads.Goals as goal

pub returns : goal.returns
returns c =
    let arc = Arc c.args.diagram.now.nodes in
    let found = c.descendants.ensures c.args.to in (
      (λ t. let r = found.0 (sym c.holds.ensures ∙ t) in subst (λ (u : ℕ). IsPath arc u c.args.to) ((c.of.ensures r.0).0 r.1) r.2),
      (λ p. c.holds.ensures ∙ found.1 (c.args.from, (c.of.ensures c.args.from).1 (λ i. c.args.from), p)),
    )
