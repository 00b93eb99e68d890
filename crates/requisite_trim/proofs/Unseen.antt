-- A node that a decision does not see would be requisite, if the decision saw it, exactly where the
-- graph as it is says so.
use Rattle.std.proofs.Common.{◌≡◌, ◌≢◌, ◌⊎◌, ◌↔◌, ◌∙◌, ℕ, ◌<◌, List, [], ◌∷◌, ◌++◌, length, inl, inr, refl, sym, ap, subst}
use Rattle.std.proofs.lemmas.List.{get_or-set_same, get_or-set_other, length-set}
use Rattle.std.proofs.lemmas.List.Elements.{Contains-append_left, Contains-push_cases}
use Rattle.std.proofs.Math.Decide.{ℕ_discrete}
use Rattle.std.specs.Prelude.{Contains}
use Rattle.bayes_ball.proofs.FromGoals.{goal_free}
use Rattle.diagram_graph.specs.Edited.{with_parents}
use Rattle.maid_model.specs.declared.diagrams.Kind.TheVariants.{Utility}
use Rattle.maid_model.specs.Edits.{with_arc}
use Rattle.maid_model.specs.Graph.{Arc, Descends, Here, Along, IsGraph, IsPath}
use Rattle.maid_model.specs.Nodes.{IsDecision, agent_of, node_at, no_node, owners_of, parents_of, states_of}
use Rattle.maid_model.specs.Relevance.{IsGoal, IsInFamilyBut, IsLive, IsRequisite}
use Rattle.maid_model.specs.Views.{NodeView}
use Rattle.requisite_trim.proofs.Detours.{reached_less, reached_more}

module _ (nodes : List NodeView) (x d : ℕ) (decision : IsDecision nodes d) where
  abbrev more : List NodeView
  more = with_arc nodes x d

  -- the decision that sees x too
  abbrev seeing : NodeView
  seeing = with_parents (node_at nodes d) (parents_of nodes d ++ x ∷ [])

  len : length more ≡ length nodes
  len = length-set nodes d seeing

  at : node_at more d ≡ seeing
  at = get_or-set_same nodes d seeing no_node decision.within

  else : (v : ℕ) → v ≢ d → node_at more v ≡ node_at nodes v
  else v n = get_or-set_other nodes d v seeing no_node n

  -- all but the parents stays
  kept : {A : Type 0} (f : NodeView → A) → f seeing ≡ f (node_at nodes d) → (v : ℕ) → f (node_at more v) ≡ f (node_at nodes v)
  kept f same v = go (ℕ_discrete v d)
    where
      go : Dec (v ≡ d) → f (node_at more v) ≡ f (node_at nodes v)
      go (yes e) = ap (λ u. f (node_at more u)) e ∙ ap f at ∙ same ∙ ap (λ u. f (node_at nodes u)) (sym e)
      go (no n) = ap f (else v n)

  kind_at : (v : ℕ) → (node_at more v).kind ≡ (node_at nodes v).kind
  kind_at = kept (λ n. n.kind) refl

  states_at : (v : ℕ) → states_of more v ≡ states_of nodes v
  states_at = kept (λ n. n.states) refl

  owners_at : (v : ℕ) → owners_of more v ≡ owners_of nodes v
  owners_at = kept (λ n. n.owner ∷ n.more) refl

  agent_at : agent_of more d ≡ agent_of nodes d
  agent_at = kept (λ n. n.owner) refl d

  -- ---- arcs
  parents_at : parents_of more d ≡ parents_of nodes d ++ x ∷ []
  parents_at = ap (λ n. n.parents) at

  parents_else : (v : ℕ) → v ≢ d → parents_of more v ≡ parents_of nodes v
  parents_else v n = ap (λ m. m.parents) (else v n)

  old : (u v : ℕ) → Arc nodes u v → Arc more u v
  old u v a = go (ℕ_discrete v d)
    where
      go : Dec (v ≡ d) → Arc more u v
      go (yes e) =
          subst (λ w. Arc more u w) (sym e) (subst (λ us. Contains us u) (sym {A = List ℕ} parents_at) (Contains-append_left (parents_of nodes d) (x ∷ []) u (subst (λ w. Arc nodes u w) e a)))
      go (no n) = subst (λ us. Contains us u) (sym {A = List ℕ} (parents_else v n)) a

  which : (u v : ℕ) → Arc more u v → Arc nodes u v ⊎ ((u ≡ x) × (v ≡ d))
  which u v a = go (ℕ_discrete v d)
    where
      at_last : v ≡ d → Contains (parents_of nodes d) u ⊎ (x ≡ u) → Arc nodes u v ⊎ ((u ≡ x) × (v ≡ d))
      at_last e (inl m) = inl (subst (λ w. Arc nodes u w) (sym e) m)
      at_last e (inr f) = inr (sym f, e)

      go : Dec (v ≡ d) → Arc nodes u v ⊎ ((u ≡ x) × (v ≡ d))
      go (yes e) = at_last e (Contains-push_cases (parents_of nodes d) x u (subst (λ (us : List ℕ). Contains us u) parents_at (subst (λ w. Arc more u w) e a)))
      go (no n) = inl (subst (λ (us : List ℕ). Contains us u) (parents_else v n) a)

  path_more : {to from : ℕ} → IsPath (Arc nodes) from to → IsPath (Arc more) from to
  path_more Here = Here
  path_more (Along {u = u} {v = v} a p) = Along (old u v a) (path_more p)

  further : {to from next : ℕ} → IsPath (Arc nodes) from to → Arc nodes to next → IsPath (Arc nodes) from next
  further Here b = Along b Here
  further (Along a p) b = Along a (further p b)

  -- ---- live nodes
  live : (v : ℕ) → IsLive nodes v ↔ IsLive more v
  live v = (
    (λ l. record {
      within = subst (λ n. v < n) (sym len) l.within;
      states = elim l.states as (λ _. ((node_at more v).kind ≡ Utility) ⊎ (1 < states_of more v)) [
        | inl e ↦ inl (kind_at v ∙ e)
        | inr s ↦ inr (subst (λ n. 1 < n) (sym (states_at v)) s)
      ];
    }),
    (λ l. record {
      within = subst (λ n. v < n) len l.within;
      states = elim l.states as (λ _. ((node_at nodes v).kind ≡ Utility) ⊎ (1 < states_of nodes v)) [
        | inl e ↦ inl (sym (kind_at v) ∙ e)
        | inr s ↦ inr (subst (λ n. 1 < n) (states_at v) s)
      ];
    }),
  )

  module _ (graph : IsGraph nodes) (back : IsPath (Arc nodes) d x → ⊥) where
    no_two : (u v : ℕ) → Arc nodes u v → Arc nodes v u → ⊥
    no_two u v a b = graph.acyclic u (v, a, Along b Here)

    -- what lies below d does not come through the new arc
    path_less : {to from : ℕ} → IsPath (Arc nodes) d from → IsPath (Arc more) from to → IsPath (Arc nodes) from to
    path_less below Here = Here
    path_less {to = to} below (Along {u = u} {v = v} a p) = go (which u v a) (λ b. path_less b p)
      where
        go : Arc nodes u v ⊎ ((u ≡ x) × (v ≡ d)) → (IsPath (Arc nodes) d v → IsPath (Arc nodes) v to) → IsPath (Arc nodes) u to
        go (inl o) rest = Along o (rest (further below o))
        go (inr e) rest = absurd (back (subst (λ w. IsPath (Arc nodes) d w) e.0 below))

    below_more : (u : ℕ) → Descends (Arc nodes) d u → Descends (Arc more) d u
    below_more u h = (h.0, old d h.0 h.1, path_more h.2)

    below_less : (u : ℕ) → Descends (Arc more) d u → Descends (Arc nodes) d u
    below_less u h = go (which d h.0 h.1)
      where
        go : Arc nodes d h.0 ⊎ ((d ≡ x) × (h.0 ≡ d)) → Descends (Arc nodes) d u
        go (inl o) = (h.0, o, path_less (Along o Here) h.2)
        go (inr e) = absurd (back (subst (λ w. IsPath (Arc nodes) d w) e.0 Here))

    goal_more : (u : ℕ) → IsGoal nodes d u → IsGoal more d u
    goal_more u g = record {
      within = subst (λ n. u < n) (sym len) g.within;
      kind = kind_at u ∙ g.kind;
      owner = subst (λ a. Contains (owners_of more u) a) (sym agent_at) (subst (λ os. Contains os (agent_of nodes d)) (sym {A = List ℕ} (owners_at u)) g.owner);
      below = below_more u g.below;
    }

    goal_less : (u : ℕ) → IsGoal more d u → IsGoal nodes d u
    goal_less u g = record {
      within = subst (λ n. u < n) len g.within;
      kind = sym (kind_at u) ∙ g.kind;
      owner = subst (λ a. Contains (owners_of nodes u) a) agent_at (subst (λ (os : List ℕ). Contains os (agent_of more d)) (owners_at u) g.owner);
      below = below_less u g.below;
    }

    free : (u : ℕ) → IsGoal nodes d u → IsInFamilyBut (Arc nodes) d x u → ⊥
    free u g (inl e) = goal_free nodes d u graph decision g (inl e)
    free u g (inr a) = goal_free nodes d u graph decision g (inr a.0)

    pub unseen_alike : IsRequisite nodes d x ↔ IsRequisite more d x
    unseen_alike = (
      (λ r. record {
        live = (live x).0 r.live;
        goal = r.goal;
        is_goal = goal_more r.goal r.is_goal;
        walk = reached_more (Arc nodes) (Arc more) (IsLive nodes) (IsLive more) x d old which live r.goal r.walk;
      }),
      (λ r.
          let goal = goal_less r.goal r.is_goal in
          record {
            live = (live x).1 r.live;
            goal = r.goal;
            is_goal = goal;
            walk = reached_less (Arc nodes) (Arc more) (IsLive nodes) (IsLive more) x d old which live no_two r.goal (free r.goal goal) r.walk;
          }),
    )
