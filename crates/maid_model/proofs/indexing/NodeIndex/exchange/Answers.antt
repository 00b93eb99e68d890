use Rattle.std.proofs.Common.{◌≡◌, ◌∙◌, ◌↔◌, ℕ, List, false, refl, sym, ap, subst, arith}
use Rattle.std.specs.Bool.{Decides}
use Rattle.std.specs.Cmp.Lexicographic.{pointwise}
use Rattle.std.specs.Prelude.{Contains, not, nat_eq}
use Rattle.std.proofs.lemmas.Bool.Decides.{Decides-eqb}
use Rattle.std.proofs.lemmas.Slice.Eq.{slice_eq-Decides}
use Rattle.maid_model.specs.Nodes.{parents_of}
use Rattle.maid_model.specs.Private.{HasRenewed}
use Rattle.maid_model.specs.Views.{NodeView}
use Rattle.node_sets.specs.Arcs.{HasParent, HasChild}
use Rattle.maid_model.proofs.Exchanged.{index_renewed, index_stays}
use Rattle.maid_model.proofs.Owners.{node_read}
use Rattle.maid_model.proofs.indexing.NodeIndex.exchange.Goals as goal

same_lists : (xs ys : List ℕ) → false ≡ not (pointwise nat_eq xs ys) → xs ≡ ys
same_lists xs ys h =
    let d : Decides (pointwise nat_eq xs ys) (xs ≡ ys) = slice_eq-Decides Decides-eqb xs ys _ refl in
    grind arith

pub renew_arcs_into-requires-clause-list : goal.renew_arcs_into-requires-clause-list
renew_arcs_into-requires-clause-list c u there =
    let l = c.requires.known u (subst (λ (us : List ℕ). Contains us u) (c.as_slice-parents.ensures ∙ ap (λ (n : NodeView). n.parents) c.node.view_is) there) in
    let m = c.requires.few in
    omega arith

pub returns-then-ne : goal.returns-then-ne
returns-then-ne c =
    let nodes = c.args.nodes.now in
    let node = c.args.node.now in
    let v = c.args.v in
    let index = c.args.self.now in
    let list : c.as_slice-parents.result.now ≡ node.parents = c.as_slice-parents.ensures ∙ ap (λ (n : NodeView). n.parents) c.node.view_is in
    let arcs = c.renew_arcs_into.new.arcs in
    index_renewed nodes v node c.requires.within c.requires.alike index arcs
    (subst (λ (us : List ℕ). (u w : ℕ) → HasParent arcs u w ↔ HasRenewed (HasParent index.arcs) v us u w) list c.renew_arcs_into.ensures.parents)
    (subst (λ (us : List ℕ). (u w : ℕ) → HasChild arcs u w ↔ HasRenewed (HasChild index.arcs) v us u w) list c.renew_arcs_into.ensures.children)
    c.requires.index

pub returns-else-ne : goal.returns-else-ne
returns-else-ne c =
    let nodes = c.args.nodes.now in
    let node = c.args.node.now in
    let list : c.as_slice-parents.result.now ≡ node.parents = c.as_slice-parents.ensures ∙ ap (λ (n : NodeView). n.parents) c.node.view_is in
    let before : c.as_slice.result.now ≡ parents_of nodes c.args.v =
    c.as_slice.ensures ∙ ap (λ (n : NodeView). n.parents) (c.before-2.view_is ∙ node_read nodes nodes c.args.v c.index-nodes-v.result refl c.requires.within c.index-nodes-v.is) in
    let same = same_lists c.as_slice.result.now c.as_slice-parents.result.now (sym c.if-ne.false ∙ c.ne.ensures) in
    index_stays nodes c.args.v node c.requires.within c.requires.alike c.args.self.now (sym list ∙ sym same ∙ before) c.requires.index
