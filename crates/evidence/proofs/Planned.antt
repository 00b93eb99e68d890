-- The nodes of the plans that keep x, by paths.
use Rattle.std.proofs.Common.{◌≡◌, ◌≢◌, ◌⊎◌, ◌↔◌, ◌∙◌, ℕ, true, List, [], ◌∷◌, Option, Some, None, Contains, refl, sym, ap, subst, inl, inr}
use Rattle.maid_model.specs.declared.diagrams.Kind.TheVariants.{Utility}
use Rattle.maid_model.specs.Graph.{Arc, IsPath, Here, Along, Descends, IsGraph}
use Rattle.maid_model.specs.Nodes.{node_at}
use Rattle.maid_model.specs.Views.{NodeView}
use Rattle.finite_sums.proofs.Members.{among_from_contains, contains_from_among}
use Rattle.node_sets.specs.declared.sets.NodeSet.{NodeSet}
use Rattle.node_sets.specs.Sets.{IsIn}
use Rattle.plan_sums.specs.Plans.{in_plan}
use Rattle.plan_sums.proofs.Scopes.{tests_plan_nodes}
use Rattle.evidence.specs.Sizes.{plan_given}

module _ (nodes : List NodeView) (g : IsGraph nodes) (x : ℕ) where
  only_x : (v : ℕ) → Contains (x ∷ []) v → v ≡ x
  only_x v c = elim (among_from_contains (x ∷ []) v c) [ inl e ↦ e | inr m ↦ absurd m ]

  x_kept : (v : ℕ) → v ≡ x → Contains (x ∷ []) v
  x_kept v e = contains_from_among (x ∷ []) v (inl e)

  -- a path of one arc or more starts at no utility
  not_utility : (v to : ℕ) → Descends (Arc nodes) v to → (node_at nodes v).kind ≢ Utility
  not_utility v to d = g.no_utility_parent v d.0 d.1

  -- a path to x
  of_path : (utility : Option ℕ) (v : ℕ) → IsPath (Arc nodes) v x → in_plan nodes (plan_given x utility) v ≡ true
  of_path utility v path = (tests_plan_nodes nodes (plan_given x utility) v).1 (go path)
    where
      go : {v : ℕ} → IsPath (Arc nodes) v x → Contains (x ∷ []) v ⊎ (((node_at nodes v).kind ≢ Utility) × ((t : ℕ) × (Contains (x ∷ []) t ⊎ (utility ≡ Some t)) × Descends (Arc nodes) v t))
      go Here = inl (x_kept x refl)
      go (Along {u} {v} a rest) = inr (g.no_utility_parent u v a, (x, inl (x_kept x refl), (v, a, rest)))

  -- the plan without a utility: a path leads from its nodes to x
  pub path_alone : (v : ℕ) → in_plan nodes (plan_given x None) v ≡ true → IsPath (Arc nodes) v x
  path_alone v h = back ((tests_plan_nodes nodes (plan_given x None) v).0 h)
    where
      none_some : (t : ℕ) → None ≡ Some t → ⊥
      none_some t e = cc

      back : Contains (x ∷ []) v ⊎ (((node_at nodes v).kind ≢ Utility) × ((t : ℕ) × (Contains (x ∷ []) t ⊎ (None ≡ Some t)) × Descends (Arc nodes) v t)) → IsPath (Arc nodes) v x
      back (inl c) = subst (λ z. IsPath (Arc nodes) z x) (sym (only_x v c)) Here
      back (inr r) = let d = r.1.2 in elim r.1.1 [
        | inl c ↦ subst (IsPath (Arc nodes) v) (only_x r.1.0 c) (Along d.1 d.2)
        | inr e ↦ absurd (none_some r.1.0 e)
      ]

  pub alone : (own planned : NodeSet) → ((v : ℕ) → IsIn own v ↔ (v ≡ x)) → ((v : ℕ) → IsIn planned v ↔ ((to : ℕ) × IsIn own to × IsPath (Arc nodes) v to))
      → (v : ℕ) → IsIn planned v ↔ (in_plan nodes (plan_given x None) v ≡ true)
  alone own planned o a v = (
    (λ t. let r = (a v).0 t in of_path None v (subst (IsPath (Arc nodes) v) ((o r.0).0 r.1) r.2)),
    (λ h. (a v).1 (x, (o x).1 refl, path_alone v h)),
  )

  -- the plan with a utility
  pub with_utility : (u : ℕ) → (node_at nodes x).kind ≢ Utility → (node_at nodes u).kind ≡ Utility → (own ends ancestors planned : NodeSet)
      → ((v : ℕ) → IsIn own v ↔ (v ≡ x)) → ((v : ℕ) → IsIn ends v ↔ (IsIn own v ⊎ (v ≡ u)))
      → ((v : ℕ) → IsIn ancestors v ↔ ((to : ℕ) × IsIn ends to × IsPath (Arc nodes) v to)) → ((v : ℕ) → IsIn planned v ↔ (IsIn ancestors v × (v ≡ u → ⊥)))
      → (v : ℕ) → IsIn planned v ↔ (in_plan nodes (plan_given x (Some u)) v ≡ true)
  with_utility u plain kind own ends ancestors planned o e a p v = (
    (λ t. let r = (p v).0 t in let w = (a v).0 r.0 in there w.0 ((e w.0).0 w.1) w.2 r.1),
    (λ h. let r = back ((tests_plan_nodes nodes (plan_given x (Some u)) v).0 h) in (p v).1 ((a v).1 (r.0, r.1, r.2), r.3)),
  )
    where
      x_end : IsIn ends x
      x_end = (e x).1 (inl ((o x).1 refl))

      u_end : IsIn ends u
      u_end = (e u).1 (inr refl)

      below : {v : ℕ} → IsPath (Arc nodes) v u → (v ≡ u → ⊥) → Descends (Arc nodes) v u
      below Here n = absurd (n refl)
      below (Along {u} {v} arc rest) n = (v, arc, rest)

      there : (to : ℕ) → IsIn own to ⊎ (to ≡ u) → IsPath (Arc nodes) v to → (v ≡ u → ⊥) → in_plan nodes (plan_given x (Some u)) v ≡ true
      there to (inl t) path n = of_path (Some u) v (subst (IsPath (Arc nodes) v) ((o to).0 t) path)
      there to (inr f) path n = let d = below (subst (IsPath (Arc nodes) v) f path) n in (tests_plan_nodes nodes (plan_given x (Some u)) v).1 (inr (not_utility v u d, (u, inr refl, d)))

      same : (t : ℕ) → Some u ≡ Some t → u ≡ t
      same t h = cc

      back : Contains (x ∷ []) v ⊎ (((node_at nodes v).kind ≢ Utility) × ((t : ℕ) × (Contains (x ∷ []) t ⊎ (Some u ≡ Some t)) × Descends (Arc nodes) v t))
          → (to : ℕ) × IsIn ends to × IsPath (Arc nodes) v to × (v ≡ u → ⊥)
      back (inl c) = (x, x_end, subst (λ z. IsPath (Arc nodes) z x) (sym (only_x v c)) Here, λ f. plain (ap (λ z. (node_at nodes z).kind) (sym (only_x v c) ∙ f) ∙ kind))
      back (inr r) = let d = r.1.2 in (
        r.1.0,
        elim r.1.1 [
          | inl c ↦ subst (IsIn ends) (sym (only_x r.1.0 c)) x_end
          | inr f ↦ subst (IsIn ends) (same r.1.0 f) u_end
        ],
        Along d.1 d.2,
        (λ f. r.0 (ap (λ z. (node_at nodes z).kind) f ∙ kind)),
      )
