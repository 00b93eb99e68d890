use Rattle.std.proofs.Common.{◌<◌, All, length, get_or, subst, sym}
use Rattle.std.proofs.lemmas.List.Elements.{All-contains_itself}
use Rattle.maid_model.specs.Nodes.{parents_of}
use Rattle.net_print.proofs.potentials.push_given.Goals as goal

-- each parent is a node, and so it has a name
pub push_names-requires : goal.push_names-requires
push_names-requires c =
    let parents = parents_of c.args.diagram.now.nodes c.args.node in
    let named : All (λ v. v < length c.args.names.now.nodes) parents =
    λ k e h. subst (λ n. get_or parents k e < n) (sym c.requires.fit.nodes) (c.parents-parents.ensures.diagram.graph.parents_known (get_or parents k e) c.args.node (All-contains_itself parents k e h)) in
    subst (λ list. All (λ v. v < length c.args.names.now.nodes) list) (sym c.parents-parents.ensures.parents) named
