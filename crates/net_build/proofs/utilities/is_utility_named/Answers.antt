-- The kind at the name's place, as contracts see the nodes.
use Rattle.std.proofs.Common.{ap, ◌∙◌, arith}
use Rattle.net_build.specs.Stages.{NodeLists}
use Rattle.net_build.proofs.KindLemmas.{found_within, kind_found, kind_missing, same_utility}
use Rattle.net_build.proofs.utilities.is_utility_named.Goals as goal

pub index-requires : goal.index-requires
index-requires c = omega (arith, c.nodes.inside.heads.ok.0, found_within c.args.nodes.now c.nodes.inside.names c.nodes.inside.heads.items c.args.name.now c.in-Some.node (ap (λ (n : NodeLists). n.names) c.nodes.view_is) (ap (λ (n : NodeLists). n.heads) c.nodes.view_is) c.requires c.in-Some.ensures)

pub returns-in-Some : goal.returns-in-Some
returns-in-Some c = c.eq.ensures ∙ same_utility c.index.result.now.kind ∙ kind_found c.args.nodes.now c.nodes.inside.names c.nodes.inside.heads.items c.args.name.now c.in-Some.node c.index.result.now (ap (λ (n : NodeLists). n.names) c.nodes.view_is) (ap (λ (n : NodeLists). n.heads) c.nodes.view_is) c.requires c.in-Some.ensures c.index.ensures

pub returns-in-None : goal.returns-in-None
returns-in-None c = kind_missing c.args.nodes.now c.nodes.inside.names c.args.name.now (ap (λ (n : NodeLists). n.names) c.nodes.view_is) c.requires c.in-None.ensures
