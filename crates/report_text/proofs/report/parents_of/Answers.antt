use Rattle.std.proofs.Common.{◌≡◌, ◌≢◌, ◌<◌, length, All, subst, sym, rules}
use Rattle.maid_model.specs.declared.diagrams.Kind.TheVariants.{Utility}
use Rattle.maid_model.specs.Nodes.{node_at, parents_of}
use Rattle.report_text.proofs.Parents.{parents_known}
use Rattle.report_text.proofs.report.parents_of.Goals as goal

pub returns-clause-known : goal.returns-clause-known
returns-clause-known c =
    let same : c.as_slice.result.now ≡ parents_of c.args.diagram.now.nodes c.args.node = search rules in
    subst (λ list. All (λ u. (u < length c.args.diagram.now.nodes) × ((node_at c.args.diagram.now.nodes u).kind ≢ Utility)) list) (sym same)
    (parents_known c.args.diagram.now c.node.ensures.diagram c.args.node)
