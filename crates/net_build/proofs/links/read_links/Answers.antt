-- The lists of the nodes are those of their blocks, so that what the steps find over them, the
-- passes find.
use Rattle.std.proofs.lemmas.Result.{IfOk-from_err}
use Rattle.std.proofs.Common.{◌≡◌, length, map, None, AllPairs, ◌≢◌, ap, sym, subst, ◌∙◌, All}
use Rattle.std.proofs.lemmas.List.{length-map}
use Rattle.std.specs.Option.{option_map}
use Rattle.net_build.specs.Blocks.{node_blocks, names_of, potentials}
use Rattle.net_build.specs.Linking.{borrowed_trees, parents_in, AreParents}
use Rattle.net_build.specs.Lists.{numbers_of_lists}
use Rattle.first_fault.specs.Passes.{Pass, ◌▸◌}
use Rattle.net_build.specs.Passes.{build_fault, Found}
use Rattle.net_build.specs.Stages.{NodeLists, LinkLists, head_of, AreLinks}
use Rattle.net_build.specs.Table.{potential_pass, missing_pass, graph_pass, size_pass}
use Rattle.first_fault.proofs.HandedOn.{hands_on}
use Rattle.net_build.proofs.LinkPasses.{same_refused, potentials_into, rest_into, links_are, length_among, length_in, length_heads, names_differ}
use Rattle.first_fault.proofs.Leading.{refused_first, refused_later}
use Rattle.net_build.proofs.links.read_links.Goals as goal

pub read_potentials-requires-clause-names : goal.read_potentials-requires-clause-names
read_potentials-requires-clause-names c =
    let names : c.nodes.inside.names ≡ names_of c.args.text.now (node_blocks c.args.syntax.now) = ap (λ (n : NodeLists). n.names) c.nodes.view_is ∙ ap (λ (n : NodeLists). n.names) c.requires.nodes in
    subst (AllPairs (λ x y. x ≢ y)) (sym names) (names_differ c.args.text.now c.args.syntax.now c.requires.rows)

pub returns-in_err-links-clause-rows : goal.returns-in_err-links-clause-rows
returns-in_err-links-clause-rows c =
    let names : c.nodes.inside.names ≡ names_of c.args.text.now (node_blocks c.args.syntax.now) = ap (λ (n : NodeLists). n.names) c.nodes.view_is ∙ ap (λ (n : NodeLists). n.names) c.requires.nodes in
    let heads : c.as_slice-heads.result.now ≡ map (head_of c.args.text.now (node_blocks c.args.syntax.now)) (node_blocks c.args.syntax.now) = c.as_slice-heads.ensures.value ∙ ap (λ (n : NodeLists). n.heads) c.nodes.view_is ∙ ap (λ (n : NodeLists). n.heads) c.requires.nodes in
    hands_on build_fault (potential_pass c.args.text.now c.args.syntax.now ▸ missing_pass c.args.text.now c.args.syntax.now ▸ graph_pass c.args.text.now c.args.syntax.now ▸ size_pass c.args.text.now c.args.syntax.now) _ _ c.from_residual.ensures
    (refused_first (potential_pass c.args.text.now c.args.syntax.now) (missing_pass c.args.text.now c.args.syntax.now ▸ graph_pass c.args.text.now c.args.syntax.now ▸ size_pass c.args.text.now c.args.syntax.now) _ (same_refused _ _ _ (potentials_into c.args.text.now c.args.syntax.now c.nodes.inside.names c.as_slice-heads.result.now names heads) c.in_err-links.ensures.rows))

pub check_links-requires-clause-parents : goal.check_links-requires-clause-parents
check_links-requires-clause-parents c =
    let names : c.nodes.inside.names ≡ names_of c.args.text.now (node_blocks c.args.syntax.now) = ap (λ (n : NodeLists). n.names) c.nodes.view_is ∙ ap (λ (n : NodeLists). n.names) c.requires.nodes in
    let heads : c.as_slice-heads.result.now ≡ map (head_of c.args.text.now (node_blocks c.args.syntax.now)) (node_blocks c.args.syntax.now) = c.as_slice-heads.ensures.value ∙ ap (λ (n : NodeLists). n.heads) c.nodes.view_is ∙ ap (λ (n : NodeLists). n.heads) c.requires.nodes in
    let rows : numbers_of_lists c.deref.result.now ≡ c.in_ok-links.links.parents = ap numbers_of_lists c.deref.ensures.value ∙ ap (λ (l : LinkLists). l.parents) c.links.view_is in
    sym (length-map c.deref.result.now (λ v. v.items)) ∙ ap length rows
    ∙ length_in c.args.text.now c.nodes.inside.names c.in_ok-links.links.potentials c.in_ok-links.links.parents c.in_ok-links.ensures.parents
    ∙ length_among c.args.text.now c.nodes.inside.names (potentials c.args.syntax.now) c.in_ok-links.links.potentials c.in_ok-links.ensures.potentials
    ∙ length_heads c.args.text.now c.args.syntax.now c.nodes.inside.names c.as_slice-heads.result.now names heads

pub check_links-requires-clause-potentials : goal.check_links-requires-clause-potentials
check_links-requires-clause-potentials c =
    let names : c.nodes.inside.names ≡ names_of c.args.text.now (node_blocks c.args.syntax.now) = ap (λ (n : NodeLists). n.names) c.nodes.view_is ∙ ap (λ (n : NodeLists). n.names) c.requires.nodes in
    let heads : c.as_slice-heads.result.now ≡ map (head_of c.args.text.now (node_blocks c.args.syntax.now)) (node_blocks c.args.syntax.now) = c.as_slice-heads.ensures.value ∙ ap (λ (n : NodeLists). n.heads) c.nodes.view_is ∙ ap (λ (n : NodeLists). n.heads) c.requires.nodes in
    let found : borrowed_trees c.deref-2.result.now ≡ c.in_ok-links.links.potentials = ap borrowed_trees c.deref-2.ensures.value ∙ ap (λ (l : LinkLists). l.potentials) c.links.view_is in
    sym (length-map c.deref-2.result.now (option_map (λ p. p.now))) ∙ ap length found
    ∙ length_among c.args.text.now c.nodes.inside.names (potentials c.args.syntax.now) c.in_ok-links.links.potentials c.in_ok-links.ensures.potentials
    ∙ length_heads c.args.text.now c.args.syntax.now c.nodes.inside.names c.as_slice-heads.result.now names heads

pub returns-in_err-check_links-clause-rows : goal.returns-in_err-check_links-clause-rows
returns-in_err-check_links-clause-rows c =
    let names : c.nodes.inside.names ≡ names_of c.args.text.now (node_blocks c.args.syntax.now) = ap (λ (n : NodeLists). n.names) c.nodes.view_is ∙ ap (λ (n : NodeLists). n.names) c.requires.nodes in
    let heads : c.as_slice-heads.result.now ≡ map (head_of c.args.text.now (node_blocks c.args.syntax.now)) (node_blocks c.args.syntax.now) = c.as_slice-heads.ensures.value ∙ ap (λ (n : NodeLists). n.heads) c.nodes.view_is ∙ ap (λ (n : NodeLists). n.heads) c.requires.nodes in
    let found : borrowed_trees c.deref-2.result.now ≡ c.in_ok-links.links.potentials = ap borrowed_trees c.deref-2.ensures.value ∙ ap (λ (l : LinkLists). l.potentials) c.links.view_is in
    let rows : numbers_of_lists c.deref.result.now ≡ c.in_ok-links.links.parents = ap numbers_of_lists c.deref.ensures.value ∙ ap (λ (l : LinkLists). l.parents) c.links.view_is in
    hands_on build_fault (potential_pass c.args.text.now c.args.syntax.now ▸ missing_pass c.args.text.now c.args.syntax.now ▸ graph_pass c.args.text.now c.args.syntax.now ▸ size_pass c.args.text.now c.args.syntax.now) _ _ c.from_residual-in_err-check_links.ensures
    (refused_later (potential_pass c.args.text.now c.args.syntax.now) (missing_pass c.args.text.now c.args.syntax.now ▸ graph_pass c.args.text.now c.args.syntax.now ▸ size_pass c.args.text.now c.args.syntax.now) _ (subst (λ (P : Pass Found). P None) (potentials_into c.args.text.now c.args.syntax.now c.nodes.inside.names c.as_slice-heads.result.now names heads) c.in_ok-links.ensures.rows) (same_refused _ _ _ (rest_into c.args.text.now c.args.syntax.now c.nodes.inside.names c.as_slice-heads.result.now (borrowed_trees c.deref-2.result.now) (numbers_of_lists c.deref.result.now) names heads (found ∙ c.in_ok-links.ensures.potentials) (rows ∙ c.in_ok-links.ensures.parents ∙ ap (parents_in c.args.text.now c.nodes.inside.names) (sym found))) c.in_err-check_links.ensures.rows))

pub returns-clause-rows : goal.returns-clause-rows
returns-clause-rows c =
    let names : c.nodes.inside.names ≡ names_of c.args.text.now (node_blocks c.args.syntax.now) = ap (λ (n : NodeLists). n.names) c.nodes.view_is ∙ ap (λ (n : NodeLists). n.names) c.requires.nodes in
    let heads : c.as_slice-heads.result.now ≡ map (head_of c.args.text.now (node_blocks c.args.syntax.now)) (node_blocks c.args.syntax.now) = c.as_slice-heads.ensures.value ∙ ap (λ (n : NodeLists). n.heads) c.nodes.view_is ∙ ap (λ (n : NodeLists). n.heads) c.requires.nodes in
    let found : borrowed_trees c.deref-2.result.now ≡ c.in_ok-links.links.potentials = ap borrowed_trees c.deref-2.ensures.value ∙ ap (λ (l : LinkLists). l.potentials) c.links.view_is in
    let rows : numbers_of_lists c.deref.result.now ≡ c.in_ok-links.links.parents = ap numbers_of_lists c.deref.ensures.value ∙ ap (λ (l : LinkLists). l.parents) c.links.view_is in
    (subst (λ (P : Pass Found). P None) (potentials_into c.args.text.now c.args.syntax.now c.nodes.inside.names c.as_slice-heads.result.now names heads) c.in_ok-links.ensures.rows, subst (λ (P : Pass Found). P None) (rest_into c.args.text.now c.args.syntax.now c.nodes.inside.names c.as_slice-heads.result.now (borrowed_trees c.deref-2.result.now) (numbers_of_lists c.deref.result.now) names heads (found ∙ c.in_ok-links.ensures.potentials) (rows ∙ c.in_ok-links.ensures.parents ∙ ap (parents_in c.args.text.now c.nodes.inside.names) (sym found))) c.in_ok-check_links.ensures.rows)

pub returns-clause-links : goal.returns-clause-links
returns-clause-links c =
    let names : c.nodes.inside.names ≡ names_of c.args.text.now (node_blocks c.args.syntax.now) = ap (λ (n : NodeLists). n.names) c.nodes.view_is ∙ ap (λ (n : NodeLists). n.names) c.requires.nodes in
    links_are c.args.text.now c.args.syntax.now c.nodes.inside.names c.in_ok-links.links names c.in_ok-links.ensures.potentials c.in_ok-links.ensures.parents

pub read_potentials-requires-clause-blocks : goal.read_potentials-requires-clause-blocks
read_potentials-requires-clause-blocks c = c.requires.blocks

pub read_potentials-requires-clause-heads : goal.read_potentials-requires-clause-heads
read_potentials-requires-clause-heads c =
    let names : c.nodes.inside.names ≡ names_of c.args.text.now (node_blocks c.args.syntax.now) = ap (λ (n : NodeLists). n.names) c.nodes.view_is ∙ ap (λ (n : NodeLists). n.names) c.requires.nodes in
    let heads : c.as_slice-heads.result.now ≡ map (head_of c.args.text.now (node_blocks c.args.syntax.now)) (node_blocks c.args.syntax.now) = c.as_slice-heads.ensures.value ∙ ap (λ (n : NodeLists). n.heads) c.nodes.view_is ∙ ap (λ (n : NodeLists). n.heads) c.requires.nodes in
    sym (length_heads c.args.text.now c.args.syntax.now c.nodes.inside.names c.as_slice-heads.result.now names heads)

pub returns-in_err-links-clause-links : goal.returns-in_err-links-clause-links
returns-in_err-links-clause-links c = IfOk-from_err _ _ c.from_residual.ensures.0

pub returns-in_err-links-clause-fit : goal.returns-in_err-links-clause-fit
returns-in_err-links-clause-fit c = IfOk-from_err _ _ c.from_residual.ensures.0

pub check_links-requires-clause-fit : goal.check_links-requires-clause-fit
check_links-requires-clause-fit c =
    let rows : numbers_of_lists c.deref.result.now ≡ c.in_ok-links.links.parents = ap numbers_of_lists c.deref.ensures.value ∙ ap (λ (l : LinkLists). l.parents) c.links.view_is in
    subst (All (AreParents c.as_slice-heads.result.now)) (sym rows) c.in_ok-links.ensures.fit

pub returns-in_err-check_links-clause-links : goal.returns-in_err-check_links-clause-links
returns-in_err-check_links-clause-links c = IfOk-from_err _ _ c.from_residual-in_err-check_links.ensures.0

pub returns-in_err-check_links-clause-fit : goal.returns-in_err-check_links-clause-fit
returns-in_err-check_links-clause-fit c = IfOk-from_err _ _ c.from_residual-in_err-check_links.ensures.0

pub returns-clause-fit : goal.returns-clause-fit
returns-clause-fit c =
    let rows : numbers_of_lists c.deref.result.now ≡ c.in_ok-links.links.parents = ap numbers_of_lists c.deref.ensures.value ∙ ap (λ (l : LinkLists). l.parents) c.links.view_is in
    let same : c.as_slice-heads.result.now ≡ c.args.nodes.now.heads = c.as_slice-heads.ensures.value ∙ ap (λ (n : NodeLists). n.heads) c.nodes.view_is in
    subst (λ hs. AreLinks hs c.in_ok-links.links.parents) same (subst (AreLinks c.as_slice-heads.result.now) rows c.in_ok-check_links.ensures.fit)
