use Rattle.std.proofs.Common.{ℕ, refl, subst}
use Rattle.maid_model.specs.Graph.{Arc, IsPath}
use Rattle.info_value.proofs.arcs.below.Goals as goal

-- paths from the one node of the set
pub returns : goal.returns
returns c v =
    let arc = Arc c.args.diagram.now.nodes in
    let found = c.descendants.ensures v in (
      (λ t. let r = found.0 t in subst (λ (u : ℕ). IsPath arc u v) ((c.of.ensures r.0).0 r.1) r.2),
      (λ p. found.1 (c.args.decision, (c.of.ensures c.args.decision).1 refl, p)),
    )
