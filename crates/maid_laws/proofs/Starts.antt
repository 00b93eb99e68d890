-- What holds at a subgame start, as a set of nodes and a world.
use Rattle.std.proofs.Common.{◌≡◌, ◌≢◌, ◌⊎◌, ◌∙◌, ℕ, zero, suc, ◌<◌, Bool, true, false, List, refl, sym, ap, subst, inl, inr, arith}
use Rattle.maid_model.specs.declared.diagrams.Kind.TheVariants.{Decision, Utility}
use Rattle.maid_model.specs.Nodes.{node_at, states_of}
use Rattle.maid_model.specs.Relevance.{IsLive, IsInFamily, ReliesOn}
use Rattle.finite_sums.specs.Sums.{World, with_state, InRange}
use Rattle.maid_model.specs.Views.{NodeView}
use Rattle.finite_sums.proofs.Sums.{with_same, with_other, with_in}
use Rattle.finite_sums.proofs.Lists.{decide_among}
use Rattle.maid_laws.proofs.Notions.{IsParent}
use Rattle.maid_laws.proofs.Basis.{Setup}
use Rattle.maid_laws.proofs.Leads.{Leads, ends, head_down, head_up, tail_down, tail_up}
use Rattle.maid_laws.proofs.Relies.{steps_of_relies, no_utility_child}

-- where e and all its live parents are given, no walk leads on from e by an arrow's head
module _ (Arc : ℕ → ℕ → Type 0) (Live Given : ℕ → Type 0) (goal e : ℕ) (apart : e ≢ goal) (given : Given e) (parents : (z : ℕ) → Arc z e → Live z → Given z) where
  -- nothing goes on from the tail at a given node
  no_tail : {z : ℕ} → Given z → Leads Arc Live Given goal false z → ⊥
  no_tail g (tail_down n a l h) = n g
  no_tail g (tail_up n a l h) = n g

  -- a given node is left by a parent alone
  no_head : {x : ℕ} → x ≡ e → Leads Arc Live Given goal true x → ⊥
  no_head k ends = apart (sym k)
  no_head k (head_down n a l h) = n (subst Given (sym k) given)
  no_head k (head_up {z = z} g a l h) = no_tail (parents z (subst (λ y. Arc z y) k a) l) h

  -- and its live parents are given
  pub closed_in : Leads Arc Live Given goal true e → ⊥
  closed_in h = no_head refl h

module _ (nodes : List NodeView) (order : List ℕ) (setup : Setup nodes order) (started : ℕ → Bool) (q : World) (iq : InRange (states_of nodes) q)
    (closed_up : (u v : ℕ) → IsParent nodes u v → started v ≡ true → started u ≡ true)
    (d : ℕ) (closed : (w x : World) → InRange (states_of nodes) w → InRange (states_of nodes) x → ((u : ℕ) → IsParent nodes u d → w u ≡ x u)
    → ((v : ℕ) → started v ≡ true → w v ≡ q v) → ((v : ℕ) → started v ≡ true → x v ≡ q v)) where
  -- every node of two states or more before the start is a parent of each later decision
  pub parent_of_later : (v : ℕ) → started v ≡ true → 1 < states_of nodes v → IsParent nodes v d
  parent_of_later v e l = go (decide_among v (node_at nodes d).parents)
    where
      other : (n c : ℕ) → 1 < c → n < c → (x : ℕ) × (x < c) × (x ≢ n)
      other zero c l k = (1, l, λ f. absurd (omega arith))
      other (suc n) c l k = (0, omega arith, λ f. absurd (omega arith))

      go : Dec (IsParent nodes v d) → IsParent nodes v d
      go (yes a) = a
      go (no n) =
          let o = other (q v) (states_of nodes v) l (iq.state v) in
          let same : with_state q v o.0 v ≡ q v = closed q (with_state q v o.0) iq (with_in (states_of nodes) q v o.0 iq o.1) (λ u a. sym (with_other q v o.0 u (λ f. n (subst (λ z. IsParent nodes z d) f a)))) (λ u f. refl) v e in
          absurd (o.2 (sym (with_same q v o.0) ∙ same))

  -- no later decision relies on an earlier one: the earlier one and its live parents are given
  pub no_reliance : (e : ℕ) → started e ≡ true → ¬ (ReliesOn nodes d e)
  no_reliance e h r =
      closed_in (IsParent nodes) (IsLive nodes) (IsInFamily (IsParent nodes) d) r.goal e (not_goal r.is_goal.kind r.on_decision.kind)
      (inr (parent_of_later e h (more e r.on_live.states (λ k. decision_or_utility (sym r.on_decision.kind ∙ k)))))
      (λ z a l. inr (parent_of_later z (closed_up z e a h) (more z l.states (λ k. no_utility_child nodes order setup z k e a))))
      (steps_of_relies nodes order setup d e r)
    where
      decision_or_utility : Decision ≡ Utility → ⊥
      decision_or_utility k = cc

      not_goal : {g : ℕ} → (node_at nodes g).kind ≡ Utility → (node_at nodes e).kind ≡ Decision → e ≢ g
      not_goal {g} k j f = decision_or_utility (sym j ∙ ap (λ x. (node_at nodes x).kind) f ∙ k)

      more : (v : ℕ) → ((node_at nodes v).kind ≡ Utility) ⊎ (1 < states_of nodes v) → ((node_at nodes v).kind ≡ Utility → ⊥) → 1 < states_of nodes v
      more v (inl k) n = absurd (n k)
      more v (inr l) n = l
