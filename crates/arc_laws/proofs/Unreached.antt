-- The rule of a decision from which no utility of an agent descends does not matter to the agent.
use Rattle.std.proofs.Common.{◌≡◌, ◌≢◌, ◌∙◌, ℕ, ◌<◌, Bool, true, false, cond, ◌&&◌, List, [], ◌∷◌, length, slice_index_or, refl, sym, ap, subst, inl, inr, ℤ, pos, ◌*ℤ◌, ◌<ℤ◌, arith}
use Rattle.std.proofs.lemmas.Int.{ints}
use Rattle.maid_model.specs.Gains.{gain_of, mass, utility, value_for}
use Rattle.maid_model.specs.Graph.{IsGraph}
use Rattle.maid_model.specs.Nodes.{IsDecision, node_at, states_of, numbers_of, is_decision, is_utility, owns, owners_of}
use Rattle.maid_model.specs.Profiles.{IsProfile, SameRule}
use Rattle.finite_sums.specs.Sums.{with_state, sum_each}
use Rattle.maid_model.specs.Tables.{weights_of, rule_total, weight_total, row_of}
use Rattle.maid_model.specs.Views.{NodeView, RuleView}
use Rattle.finite_sums.proofs.Ints.{products}
use Rattle.finite_sums.proofs.Lists.{among_filter}
use Rattle.finite_sums.specs.Members.{Among}
use Rattle.finite_sums.specs.Looks.{Ignores}
use Rattle.maid_model.proofs.Setting.{HasTables}
use Rattle.finite_sums.proofs.Sums.{Ignores-add}
use Rattle.finite_sums.proofs.Members.{any_is}
use Rattle.maid_model.specs.Values.{IsUnreached}
use Rattle.arc_laws.specs.Control.{UnreachedRule}
use Rattle.maid_laws.proofs.Choices.{none_found}
use Rattle.maid_laws.proofs.Decided.{tests, by_contradiction}
use Rattle.maid_laws.proofs.Fractions.{cancel}
use Rattle.maid_laws.proofs.Leads.{Below, child, further}
use Rattle.maid_laws.proofs.Notions.{IsParent}
use Rattle.maid_laws.proofs.Ordered.{setup_of, totals_of}
use Rattle.maid_laws.proofs.Orders.{ordered}
use Rattle.maid_laws.proofs.Paths.{below_path}
use Rattle.maid_laws.proofs.Profiles.{total_like}
use Rattle.maid_laws.proofs.Proportions.{kind_of_utility, cell_ignores, and_left, and_right}
use Rattle.maid_laws.proofs.PureReplies.{gain_in_order}
use Rattle.maid_laws.proofs.Ranks.{arc_inside}
use Rattle.maid_laws.proofs.Rearranged.{range_apart, number}
use Rattle.maid_laws.proofs.Rules.{decision_kind}
use Rattle.maid_laws.proofs.Signs.{pos_product}
use Rattle.maid_laws.proofs.Step.{rest_same}
use Rattle.maid_laws.proofs.Summed.{FromD, product_changed}
use Rattle.maid_laws.proofs.Tied.{tables_of, decision_of, dec_decision}

-- two profiles with the same rules at all decisions but d have the same rules wherever d is not
pub same_else : (nodes : List NodeView) (p q : List RuleView) (d : ℕ) → IsProfile nodes p → IsProfile nodes q → ((v : ℕ) → IsDecision nodes v → v ≢ d → SameRule p q v)
    → (v : ℕ) → v ≢ d → (weights_of p v ≡ weights_of q v) × (rule_total p v ≡ rule_total q v)
same_else nodes p q d hp hq same v n = go (dec_decision nodes v)
  where
    go : Dec (IsDecision nodes v) → (weights_of p v ≡ weights_of q v) × (rule_total p v ≡ rule_total q v)
    go (yes k) = let h = same v k n in (h.weights, h.total)
    go (no m) =
        let off : (r : List RuleView) → IsProfile nodes r → (weights_of r v ≡ []) × (rule_total r v ≡ 0) =
        (λ r hr. none_found r v (λ i. m (decision_of nodes v (decision_kind (node_at nodes v).kind (among_filter (λ u. is_decision (node_at nodes u).kind) v (numbers_of nodes) (subst (Among v) hr.decisions i)).1)))) in
        ((off p hp).0 ∙ sym (off q hq).0, (off p hp).1 ∙ sym (off q hq).1)

module _ (nodes : List NodeView) (g : IsGraph nodes) (d agent : ℕ) (far : IsUnreached nodes agent d) where
  -- the agent's utilities look at nothing that d leads to
  utility_ignores : (u : ℕ) → ¬ ¬ (FromD nodes d u) → Ignores (states_of nodes) (utility nodes agent) u
  utility_ignores u n = each (numbers_of nodes)
    where
      next : (v : ℕ) → FromD nodes d u → IsParent nodes u v → Below (IsParent nodes) d v
      next v (inl e) a = child (subst (λ z. IsParent nodes z v) e a)
      next v (inr b) a = further b a

      one : (v : ℕ) (b : Bool) → (is_utility (node_at nodes v).kind && owns nodes agent v) ≡ b → Ignores (states_of nodes) (value_for nodes agent v) u
      one v false e = record { same = λ w i s l. (λ z. cond (e z) (slice_index_or (node_at nodes v).cells (row_of nodes v (with_state w u s)) (pos 0)) (pos 0)) ∙ sym (λ z. cond (e z) (slice_index_or (node_at nodes v).cells (row_of nodes v w) (pos 0)) (pos 0)) }
      one v true e = record { same = λ w i s l. ap (λ y. cond (is_utility (node_at nodes v).kind && owns nodes agent v) y (pos 0)) ((cell_ignores nodes d v u not_parent).same w i s l) }
        where
          not_parent : ¬ (IsParent nodes u v)
          not_parent a = n (λ f. far v
              (arc_inside nodes u v a)
              (kind_of_utility (node_at nodes v).kind (and_left (is_utility (node_at nodes v).kind) (owns nodes agent v) e))
              ((any_is agent (owners_of nodes v)).0 (and_right (is_utility (node_at nodes v).kind) (owns nodes agent v) e))
              (below_path nodes (next v f a)))

      each : (vs : List ℕ) → Ignores (states_of nodes) (λ w. sum_each (λ v. value_for nodes agent v w) vs) u
      each [] = record { same = λ w i x l. refl }
      each (v ∷ vs) = Ignores-add (states_of nodes) (value_for nodes agent v) (λ w. sum_each (λ v. value_for nodes agent v w) vs) u (one v (is_utility (node_at nodes v).kind && owns nodes agent v) refl) (each vs)

  module _ (p q : List RuleView) (tp : HasTables nodes p) (tq : HasTables nodes q) (k : IsDecision nodes d) (same : (v : ℕ) → v ≢ d → (weights_of p v ≡ weights_of q v) × (rule_total p v ≡ rule_total q v)) where
    total_else : (v : ℕ) → v ≢ d → weight_total nodes p v ≡ weight_total nodes q v
    total_else v n = total_like nodes p q v (same v n).1

    -- as long as the equation is false, what lies below d may be decided
    gains : gain_of nodes p agent *ℤ pos (weight_total nodes q d) ≡ gain_of nodes q agent *ℤ pos (weight_total nodes p d)
    gains = by_contradiction (gain_of nodes p agent *ℤ pos (weight_total nodes q d)) (gain_of nodes q agent *ℤ pos (weight_total nodes p d)) (λ n.
        tests (λ v. ¬ (FromD nodes d v)) (ordered nodes g).order (λ keep. n
        ((λ i. sym (gain_in_order nodes g p agent) i *ℤ pos (weight_total nodes q d))
        ∙ rest_same nodes (ordered nodes g).order (setup_of nodes (ordered nodes g)) (λ v. false) (λ v. 0) (record { state = g.has_state }) d ((setup_of nodes (ordered nodes g)).all d k.within) k.kind refl p q
        (λ v. pos (weight_total nodes p v)) (λ v. pos (weight_total nodes q v)) (totals_of nodes p tp) (totals_of nodes q tq) (λ v m. (same v m).0) (λ v m. ap pos (total_else v m)) keep.0 keep.1 (utility nodes agent) utility_ignores
        ∙ (λ i. gain_in_order nodes g q agent i *ℤ pos (weight_total nodes p d)))))

    masses : pos (mass nodes p) *ℤ pos (weight_total nodes q d) ≡ pos (mass nodes q) *ℤ pos (weight_total nodes p d)
    masses =
        ap (λ y. y *ℤ pos (weight_total nodes q d)) (sym (pos_product (weight_total nodes p) (numbers_of nodes)))
        ∙ product_changed (λ v. pos (weight_total nodes p v)) (λ v. pos (weight_total nodes q v)) d (numbers_of nodes) (λ v n. ap pos (total_else v n)) (range_apart 0 (length nodes)) (number nodes d k.within)
        ∙ ap (λ y. y *ℤ pos (weight_total nodes p d)) (pos_product (weight_total nodes q) (numbers_of nodes))

    pub unreached : gain_of nodes p agent *ℤ pos (mass nodes q) ≡ gain_of nodes q agent *ℤ pos (mass nodes p)
    unreached = ratio (gain_of nodes p agent) (gain_of nodes q agent) (pos (mass nodes p)) (pos (mass nodes q)) (pos (weight_total nodes p d)) (pos (weight_total nodes q d)) (natural (weight_total nodes p d) (tp.positive d)) gains masses
      where
        natural : (n : ℕ) → 0 < n → pos 0 <ℤ pos n
        natural n l = omega (arith, ints)

        ratio : (a b m n s t : ℤ) → pos 0 <ℤ s → a *ℤ t ≡ b *ℤ s → m *ℤ t ≡ n *ℤ s → a *ℤ n ≡ b *ℤ m
        ratio a b m n s t h e f = cancel (a *ℤ n) (b *ℤ m) s h (one a n s ∙ ap (λ y. a *ℤ y) (sym f) ∙ two a m t ∙ ap (λ y. y *ℤ m) e ∙ three b s m)
          where
            one : (a n s : ℤ) → (a *ℤ n) *ℤ s ≡ a *ℤ (n *ℤ s)
            one a n s = simp products

            two : (a m t : ℤ) → a *ℤ (m *ℤ t) ≡ (a *ℤ t) *ℤ m
            two a m t = simp products

            three : (b s m : ℤ) → (b *ℤ s) *ℤ m ≡ (b *ℤ m) *ℤ s
            three b s m = simp products

-- for every diagram
pub unreached_law : UnreachedRule
unreached_law nodes p q d agent g c hp hq k same far = unreached nodes g d agent far p q (tables_of nodes p g c hp) (tables_of nodes q g c hq) k (same_else nodes p q d hp hq same)
