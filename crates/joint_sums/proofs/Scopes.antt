-- The last table of goals summed together looks at the decision and its parents: the parents are
-- held by their own tables, and the decision by that of a child or of a goal.
use Rattle.std.proofs.Common.{◌≡◌, ◌∙◌, ℕ, ◌<◌, Bool, true, false, not, ◌&&◌, ◌||◌, eqb, map, List, [], ◌∷◌, length, refl, sym, ap, subst, inl, inr, arith}
use Rattle.std.specs.List.{list_any}
use Rattle.std.proofs.Math.Decide.{ℕ_discrete}
use Rattle.maid_model.specs.Graph.{Arc, Descends, IsGraph, IsPath, Here, Along}
use Rattle.maid_model.specs.Nodes.{IsDecision, node_at, states_of, parents_of, is_utility}
use Rattle.maid_model.specs.Relevance.{IsGoal}
use Rattle.maid_model.specs.Scopes.{scope_of}
use Rattle.maid_model.specs.Views.{NodeView, RuleView}
use Rattle.maid_model.proofs.Descent.{any_has, any_of, or_cases, or_right, equal_from_test}
use Rattle.finite_sums.specs.Members.{Among}
use Rattle.finite_sums.proofs.Lists.{among_filter}
use Rattle.maid_laws.proofs.Booleans.{eqb_yes, not_both, bool_same}
use Rattle.maid_laws.proofs.Members.{among_of, contains_of, parent_of}
use Rattle.maid_laws.proofs.Notions.{IsParent}
use Rattle.part_laws.proofs.PartNodes.{path_in}
use Rattle.cell_rings.specs.Rings.{IsRing}
use Rattle.ring_sums.specs.Tables.{Table, joined}
use Rattle.ring_sums.proofs.Each.{any_append, yes_or_no}
use Rattle.ring_sums.proofs.Steps.{scope_after}
use Rattle.ring_sums.proofs.Same.{any_map}
use Rattle.plan_sums.specs.Plans.{Cells, has, node_table, utility_table}
use Rattle.plan_sums.proofs.Filters.{has_yes, has_member}
use Rattle.scope_sums.proofs.Summed.{scope_is_closed, goal_in_scope}
use Rattle.joint_sums.specs.Joint.{scope_nodes, joint_ruled, joint_summed, joint_tables, AreGoals}
use Rattle.joint_sums.specs.Laws.{JointKeeps}
use Rattle.joint_sums.proofs.ScopeNodes.{halves, ruled_node, ruled_in, summed_in, summed_out, parent_node, goal_parent, family_node}

first_of : (us : List ℕ) → 0 < length us → (u : ℕ) × Among u us
first_of [] l = absurd (omega arith)
first_of (u ∷ us) l = (u, inl refl)

module _ {C : Type 0} (c : Cells C) (nodes : List NodeView) (p : List RuleView) (d : ℕ) (us : List ℕ) where
  -- what some first table holds
  abbrev by_node : ℕ → Bool
  by_node v = list_any (λ x. eqb x v || has (parents_of nodes x) v) (joint_ruled nodes d)

  abbrev by_goal : ℕ → Bool
  by_goal v = list_any (λ u. has (parents_of nodes u) v) us

  first_holds : (v : ℕ) → joined (joint_tables c nodes p d us) v ≡ (by_node v || by_goal v)
  first_holds v =
      any_append (λ (t : Table C). t.holds v) (map (λ x. node_table c nodes p x) (joint_ruled nodes d)) (map (λ u. utility_table c nodes u) us)
      ∙ (λ i. any_map (λ (t : Table C). t.holds v) (λ x. node_table c nodes p x) (joint_ruled nodes d) i || any_map (λ (t : Table C). t.holds v) (λ u. utility_table c nodes u) us i)

  held_by_own : (v : ℕ) → Among v (joint_ruled nodes d) → joined (joint_tables c nodes p d us) v ≡ true
  held_by_own v m = first_holds v ∙ ap (λ b. b || by_goal v) (any_of (λ x. eqb x v || has (parents_of nodes x) v) (joint_ruled nodes d) v m (ap (λ b. b || has (parents_of nodes v) v) (eqb_yes v v refl)))

  held_by_child : (v x : ℕ) → IsParent nodes v x → Among x (joint_ruled nodes d) → joined (joint_tables c nodes p d us) v ≡ true
  held_by_child v x a m = first_holds v ∙ ap (λ b. b || by_goal v) (any_of (λ x. eqb x v || has (parents_of nodes x) v) (joint_ruled nodes d) x m (or_right (eqb x v) (has (parents_of nodes x) v) (has_yes v (parents_of nodes x) a)))

  held_by_goal : (v u : ℕ) → IsParent nodes v u → Among u us → joined (joint_tables c nodes p d us) v ≡ true
  held_by_goal v u a m = first_holds v ∙ or_right (by_node v) (by_goal v) (any_of (λ x. has (parents_of nodes x) v) us u m (has_yes v (parents_of nodes u) a))

  module _ (g : IsGraph nodes) (is : IsDecision nodes d) (goals : AreGoals nodes d us) where
    goal : (u : ℕ) → Among u us → IsGoal nodes d u
    goal u m = goals.each u (contains_of u us m)

    -- the first tables hold nodes of the scope alone
    first_inside : (v : ℕ) → joined (joint_tables c nodes p d us) v ≡ true → Among v (scope_nodes nodes d)
    first_inside v h = elim (or_cases (by_node v) (by_goal v) (sym (first_holds v) ∙ h)) [
      | inl e ↦
          let a = any_has (λ x. eqb x v || has (parents_of nodes x) v) (joint_ruled nodes d) e in
          elim (or_cases (eqb a.0 v) (has (parents_of nodes a.0) v) a.2) [
            | inl f ↦ subst (λ z. Among z (scope_nodes nodes d)) (equal_from_test a.0 v f) (ruled_node nodes d a.0 a.1)
            | inr f ↦ parent_node nodes d g is v a.0 (has_member v (parents_of nodes a.0) f) (in_scope a.0 (ruled_node nodes d a.0 a.1))
          ]
      | inr e ↦
          let a = any_has (λ u. has (parents_of nodes u) v) us e in
          goal_parent nodes d g is a.0 v (goal a.0 a.1) (has_member v (parents_of nodes a.0) a.2)
    ]
      where
        in_scope : (x : ℕ) → Among x (scope_nodes nodes d) → Among x (scope_of nodes d)
        in_scope x m = (among_filter (λ y. not (is_utility (node_at nodes y).kind)) x (scope_of nodes d) m).0

    -- the decision is held by the table of its child on the way to a goal, or by the goal's
    own_held : (u : ℕ) → Among u us → Descends (Arc nodes) d u → joined (joint_tables c nodes p d us) d ≡ true
    own_held u m (x, a, path) = go x path a
      where
        go : (y : ℕ) → IsPath (Arc nodes) y u → Arc nodes d y → joined (joint_tables c nodes p d us) d ≡ true
        go y Here b = held_by_goal d u (parent_of nodes d u b) m
        go y (Along {v = z} k r) b =
            held_by_child d y (parent_of nodes d y b)
            (ruled_in nodes d y
            (parent_node nodes d g is y z (parent_of nodes y z k) (path_in nodes (scope_of nodes d) (scope_is_closed nodes d g is) r (goal_in_scope nodes d g is u (goal u m))))
            (λ e. g.acyclic d (d, subst (λ w. Arc nodes d w) e b, Here)))

    family_held : (v : ℕ) → Among v (d ∷ parents_of nodes d) → joined (joint_tables c nodes p d us) v ≡ true
    family_held v m = go (ℕ_discrete v d)
      where
        go : Dec (v ≡ d) → joined (joint_tables c nodes p d us) v ≡ true
        go (yes e) = let u = first_of us goals.some in subst (λ z. joined (joint_tables c nodes p d us) z ≡ true) (sym e) (own_held u.0 u.1 (goal u.0 u.1).below)
        go (no n) = held_by_own v (ruled_in nodes d v (family_node nodes d g is v m) n)

pub joint_keeps : {C : Type 0} (c : Cells C) → IsRing c.ring → JointKeeps c
joint_keeps c h nodes p d us steps g is goals order v =
    scope_after c.ring h (states_of nodes) steps (joint_tables c nodes p d us) v
    ∙ bool_same (joined (joint_tables c nodes p d us) v && not (has steps v)) (has (d ∷ parents_of nodes d) v) there back
  where
    without : (b : Bool) → not b ≡ true → b ≡ false
    without true e = cc
    without false e = refl

    there : (joined (joint_tables c nodes p d us) v && not (has steps v)) ≡ true → has (d ∷ parents_of nodes d) v ≡ true
    there e =
        let k = halves (joined (joint_tables c nodes p d us) v) (not (has steps v)) e in
        elim (yes_or_no (has (d ∷ parents_of nodes d) v)) [
          | inl f ↦ f
          | inr f ↦ absurd (not_both (has steps v) (has_yes v steps (among_of v steps ((order.all v).1 (contains_of v (joint_summed nodes d)
              (summed_in nodes d v (first_inside c nodes p d us g is goals v k.0) f))))) (without (has steps v) k.1))
        ]

    not_step : has (d ∷ parents_of nodes d) v ≡ true → has steps v ≡ false
    not_step e = elim (yes_or_no (has steps v)) [
      | inl f ↦ absurd (not_both (has (d ∷ parents_of nodes d) v) e (summed_out nodes d v (among_of v (joint_summed nodes d) ((order.all v).0 (contains_of v steps (has_member v steps f))))))
      | inr f ↦ f
    ]

    back : has (d ∷ parents_of nodes d) v ≡ true → (joined (joint_tables c nodes p d us) v && not (has steps v)) ≡ true
    back e = (λ i. family_held c nodes p d us g is goals v (has_member v (d ∷ parents_of nodes d) e) i && not (not_step e i))
