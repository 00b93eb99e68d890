-- What a diagram keeps of its nodes stays where a node gives way to one that is like it.
use Rattle.std.proofs.Common.{◌≡◌, ◌∙◌, ◌↔◌, ℕ, ◌<◌, List, true, length, set, take, inl, inr, refl, sym, ap, subst}
use Rattle.std.specs.Prelude.{Contains}
use Rattle.std.proofs.Math.Seq.{map-set_same}
use Rattle.std.proofs.lemmas.Bool.{cases_eq}
use Rattle.std.proofs.lemmas.List.{get_or-set_same, get_or-set_other, length-set}
use Rattle.node_sets.specs.declared.arcs.ArcSets.{ArcSets}
use Rattle.node_sets.specs.Arcs.{HasParent, HasChild}
use Rattle.maid_model.specs.declared.diagrams.Kind.{Kind}
use Rattle.maid_model.specs.declared.diagrams.Kind.TheVariants.{Chance, Decision, Utility}
use Rattle.maid_model.specs.declared.indexing.NodeIndex.{NodeIndex}
use Rattle.maid_model.specs.Edits.{AreAlike}
use Rattle.maid_model.specs.Graph.{Arc, IsGraph}
use Rattle.maid_model.specs.Nodes.{IsUtility, is_utility, no_node, node_at, parents_of}
use Rattle.maid_model.specs.Private.{HasLiveStates, HasRenewed, IsIndexOf}
use Rattle.maid_model.specs.Relevance.{IsLive}
use Rattle.maid_model.specs.Views.{NodeView}

kind_is : (k : Kind) → is_utility k ≡ true → k ≡ Utility
kind_is Chance e = absurd (cc)
kind_is Decision e = absurd (cc)
kind_is Utility e = refl

-- a utility is one after as before
same_kind : (one two : Kind) → is_utility two ≡ is_utility one → one ≡ Utility → two ≡ Utility
same_kind one two same e = kind_is two (same ∙ ap is_utility e)

module _ (nodes : List NodeView) (v : ℕ) (node : NodeView) (within : v < length nodes) (alike : AreAlike (node_at nodes v) node) where
  -- what the two have in common is that of each node
  same_at : {X : Type 0} (f : NodeView → X) → f node ≡ f (node_at nodes v) → (w : ℕ) → f (node_at (set nodes v node) w) ≡ f (node_at nodes w)
  same_at f e w = elim (cases_eq w v) as (λ _. f (node_at (set nodes v node) w) ≡ f (node_at nodes w)) [
    | inl same ↦ ap (λ x. f (node_at (set nodes v node) x)) same ∙ ap f (get_or-set_same nodes v node no_node within) ∙ e ∙ ap (λ x. f (node_at nodes x)) (sym same)
    | inr other ↦ ap f (get_or-set_other nodes v w node no_node other)
  ]

  -- the arcs into other nodes are as before
  arcs_renewed : (Before After : ℕ → ℕ → Type 0) → ((u w : ℕ) → Before u w ↔ Arc nodes u w) → ((u w : ℕ) → After u w ↔ HasRenewed Before v node.parents u w) →
      (u w : ℕ) → After u w ↔ Arc (set nodes v node) u w
  arcs_renewed Before After before after u w = elim (cases_eq w v) as (λ _. After u w ↔ Arc (set nodes v node) u w) [
    | inl e ↦
        let here : parents_of (set nodes v node) w ≡ node.parents = ap (parents_of (set nodes v node)) e ∙ ap (λ (n : NodeView). n.parents) (get_or-set_same nodes v node no_node within) in (
          (λ h. elim ((after u w).0 h) as (λ _. Arc (set nodes v node) u w) [ inl k ↦ absurd (k.1 e) | inr k ↦ subst (λ ps. Contains ps u) (sym here) k.0 ]),
          (λ a. (after u w).1 (inr (subst (λ ps. Contains ps u) here a, e))),
        )
    | inr n ↦
        let same : parents_of (set nodes v node) w ≡ parents_of nodes w = ap (λ (m : NodeView). m.parents) (get_or-set_other nodes v w node no_node n) in (
          (λ h. elim ((after u w).0 h) as (λ _. Arc (set nodes v node) u w) [ inl k ↦ subst (λ ps. Contains ps u) (sym same) ((before u w).0 k.0) | inr k ↦ absurd (n k.1) ]),
          (λ a. (after u w).1 (inl ((before u w).1 (subst (λ ps. Contains ps u) same a), n))),
        )
  ]

  -- where the parents are the same, all arcs are as before
  arcs_stay : (Has : ℕ → ℕ → Type 0) → node.parents ≡ parents_of nodes v → ((u w : ℕ) → Has u w ↔ Arc nodes u w) → (u w : ℕ) → Has u w ↔ Arc (set nodes v node) u w
  arcs_stay Has parents has u w =
      let same = same_at (λ n. n.parents) parents w in (
        (λ h. subst (λ ps. Contains ps u) (sym same) ((has u w).0 h)),
        (λ a. (has u w).1 (subst (λ ps. Contains ps u) same a)),
      )

  states_same : (w : ℕ) → (node_at (set nodes v node) w).states ≡ (node_at nodes w).states
  states_same = same_at (λ n. n.states) alike.states

  utility_same : (w : ℕ) → is_utility (node_at (set nodes v node) w).kind ≡ is_utility (node_at nodes w).kind
  utility_same = same_at (λ n. is_utility n.kind) alike.utilities

  long : length (set nodes v node) ≡ length nodes
  long = length-set nodes v node

  live_on : (w : ℕ) → IsLive nodes w → IsLive (set nodes v node) w
  live_on w l = record {
    within = subst (λ n. w < n) (sym long) l.within;
    states = elim l.states as (λ _. HasLiveStates (node_at (set nodes v node) w)) [
      | inl e ↦ inl (same_kind _ _ (utility_same w) e)
      | inr m ↦ inr (subst (λ n. 1 < n) (sym (states_same w)) m)
    ];
  }

  live_back : (w : ℕ) → IsLive (set nodes v node) w → IsLive nodes w
  live_back w l = record {
    within = subst (λ n. w < n) long l.within;
    states = elim l.states as (λ _. HasLiveStates (node_at nodes w)) [
      | inl e ↦ inl (same_kind _ _ (sym (utility_same w)) e)
      | inr m ↦ inr (subst (λ n. 1 < n) (states_same w) m)
    ];
  }

  utility_on : (w : ℕ) → IsUtility nodes w → IsUtility (set nodes v node) w
  utility_on w u = record { within = subst (λ n. w < n) (sym long) u.within; kind = same_kind _ _ (utility_same w) u.kind }

  utility_back : (w : ℕ) → IsUtility (set nodes v node) w → IsUtility nodes w
  utility_back w u = record { within = subst (λ n. w < n) long u.within; kind = same_kind _ _ (sym (utility_same w)) u.kind }

  -- what is kept of the nodes besides arcs stays
  index_with : (index : NodeIndex) (arcs : ArcSets) → IsIndexOf nodes index → ((u w : ℕ) → HasParent arcs u w ↔ Arc (set nodes v node) u w) → ((u w : ℕ) → HasChild arcs u w ↔ Arc (set nodes v node) u w) →
      IsIndexOf (set nodes v node) (record { arcs = arcs; live = index.live; utilities = index.utilities; counts = index.counts })
  index_with index arcs is parents children = record {
    parents = parents;
    children = children;
    live = λ w. ((λ m. live_on w ((is.live w).0 m)), (λ l. (is.live w).1 (live_back w l)));
    utilities = λ w. ((λ m. utility_on w ((is.utilities w).0 m)), (λ u. (is.utilities w).1 (utility_back w u)));
    counts = ap (λ n. take n index.counts) long ∙ is.counts ∙ sym (map-set_same (λ (n : NodeView). n.states) nodes v node no_node alike.states);
  }

  pub index_stays : (index : NodeIndex) → node.parents ≡ parents_of nodes v → IsIndexOf nodes index → IsIndexOf (set nodes v node) index
  index_stays index same is = index_with index index.arcs is (arcs_stay (HasParent index.arcs) same is.parents) (arcs_stay (HasChild index.arcs) same is.children)

  pub index_renewed : (index : NodeIndex) (arcs : ArcSets) → ((u w : ℕ) → HasParent arcs u w ↔ HasRenewed (HasParent index.arcs) v node.parents u w) → ((u w : ℕ) → HasChild arcs u w ↔ HasRenewed (HasChild index.arcs) v node.parents u w) →
      IsIndexOf nodes index → IsIndexOf (set nodes v node) (record { arcs = arcs; live = index.live; utilities = index.utilities; counts = index.counts })
  index_renewed index arcs parents children is = index_with index arcs is (arcs_renewed (HasParent index.arcs) (HasParent arcs) is.parents parents) (arcs_renewed (HasChild index.arcs) (HasChild arcs) is.children children)

-- the parents of a node that is put into a graph are nodes
pub known_parents : (nodes : List NodeView) (v : ℕ) (node : NodeView) → v < length nodes → IsGraph (set nodes v node) → (u : ℕ) → Contains node.parents u → u < length nodes
known_parents nodes v node within graph u there =
    subst (λ n. u < n) (length-set nodes v node) (graph.parents_known u v (subst (λ (n : NodeView). Contains n.parents u) (sym (get_or-set_same nodes v node no_node within)) there))
