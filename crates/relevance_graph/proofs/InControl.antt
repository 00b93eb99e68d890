-- Where a chance node has become a decision, all is kept that searches for the other decisions look
-- at.
use Rattle.std.proofs.Common.{◌≡◌, ◌≢◌, ◌∙◌, ◌⊎◌, ℕ, ◌<◌, List, ◌∷◌, sym, ap, subst, inl, inr}
use Rattle.std.proofs.Math.Path.{fun_ext}
use Rattle.std.specs.Prelude.{Contains}
use Rattle.arc_laws.proofs.ControlLaws.{chance_within}
use Rattle.arc_laws.proofs.InControl as control
use Rattle.arc_laws.proofs.InControl.{Controls, controls}
use Rattle.maid_model.specs.declared.diagrams.Kind.TheVariants.{Chance, Decision, Utility}
use Rattle.maid_model.specs.Edits.{as_decision}
use Rattle.maid_model.specs.Graph.{Descends}
use Rattle.maid_model.specs.Nodes.{IsDecision, Owns, agent_of, node_at, owners_of, parents_of, states_of}
use Rattle.maid_model.specs.Views.{NodeView}
use Rattle.relevance_graph.specs.Kept.{ControlKeepsSearches}

pub searches_kept : ControlKeepsSearches
searches_kept nodes agent x k = record {
  count = r.len;
  parents = λ v. control.parents_at nodes made agent x r k v;
  live = λ v. (
    (λ l. record {
      within = subst (λ n. v < n) r.len l.within;
      states = elim l.states as (λ _. ((node_at nodes v).kind ≡ Utility) ⊎ (1 < states_of nodes v)) [
        | inl u ↦ inl (subst (λ (n : NodeView). n.kind ≡ Utility) (same v (not_made v u)) u)
        | inr m ↦ inr (subst (λ n. 1 < n) (states v) m)
      ];
    }),
    (λ l. record {
      within = subst (λ n. v < n) (sym r.len) l.within;
      states = elim l.states as (λ _. ((node_at made v).kind ≡ Utility) ⊎ (1 < states_of made v)) [
        | inl u ↦ inl (subst (λ (n : NodeView). n.kind ≡ Utility) (sym (same v (not_chance v u))) u)
        | inr m ↦ inr (subst (λ n. 1 < n) (sym (states v)) m)
      ];
    }),
  );
  decision = λ d is. control.decision_there nodes made agent x r k d is;
  goal = λ d u is. (
    (λ g. let e = same u (not_made u g.kind) in record {
      within = subst (λ n. u < n) r.len g.within;
      kind = subst (λ (n : NodeView). n.kind ≡ Utility) e g.kind;
      owner = owned made nodes u (agent_of made d) (agent_of nodes d) e (agent_same d is) g.owner;
      below = led parents_same d u g.below;
    }),
    (λ g. let e = same u (not_chance u g.kind) in record {
      within = subst (λ n. u < n) (sym r.len) g.within;
      kind = subst (λ (n : NodeView). n.kind ≡ Utility) (sym e) g.kind;
      owner = owned nodes made u (agent_of nodes d) (agent_of made d) (sym e) (sym (agent_same d is)) g.owner;
      below = led (sym parents_same) d u g.below;
    }),
  );
}
  where
    made : List NodeView
    made = as_decision nodes agent x

    r : Controls nodes made agent x
    r = controls nodes agent x (chance_within nodes x k)

    states : (v : ℕ) → states_of made v ≡ states_of nodes v
    states v = control.states_at nodes made agent x r k v

    parents_same : parents_of made ≡ parents_of nodes
    parents_same = fun_ext (λ v. control.parents_at nodes made agent x r k v)

    same : (v : ℕ) → v ≢ x → node_at made v ≡ node_at nodes v
    same v n = r.else v n

    no_decision : Decision ≡ Utility → ⊥
    no_decision e = cc

    no_chance : Chance ≡ Utility → ⊥
    no_chance e = cc

    not_made : (v : ℕ) → (node_at made v).kind ≡ Utility → v ≢ x
    not_made v u e = no_decision (sym (ap (λ (n : NodeView). n.kind) r.at) ∙ subst (λ w. (node_at made w).kind ≡ Utility) e u)

    not_chance : (v : ℕ) → (node_at nodes v).kind ≡ Utility → v ≢ x
    not_chance v u e = no_chance (sym k ∙ subst (λ w. (node_at nodes w).kind ≡ Utility) e u)

    agent_same : (d : ℕ) → IsDecision nodes d → agent_of made d ≡ agent_of nodes d
    agent_same d is = ap (λ (n : NodeView). n.owner) (same d (control.decision_not_x nodes made agent x r k d is))

    owned : (one other : List NodeView) (u a b : ℕ) → node_at one u ≡ node_at other u → a ≡ b → Owns one a u → Owns other b u
    owned one other u a b e f h = subst (λ c. Contains (owners_of other u) c) f (subst (λ (n : NodeView). Contains (n.owner ∷ n.more) a) e h)

    led : {one other : ℕ → List ℕ} → one ≡ other → (d u : ℕ) → Descends (λ p v. Contains (one v) p) d u → Descends (λ p v. Contains (other v) p) d u
    led e d u h = subst (λ (parents : ℕ → List ℕ). Descends (λ p v. Contains (parents v) p) d u) e h
