-- The gain of the joint sum: a sum over all worlds, of which the tables of the scope are left, is
-- the sum of the goals' parts, and so are their plans; the totals left out cancel.
use Rattle.std.proofs.Common.{◌≡◌, ◌⊎◌, ◌∙◌, ℕ, Bool, true, false, not, cond, ◌&&◌, filter, List, [], ◌∷◌, refl, sym, ap, subst, inl, inr, ℤ, pos, ◌*ℤ◌}
use Rattle.std.proofs.Math.Path.{fun_ext}
use Rattle.maid_model.specs.Gains.{sum_worlds, weight_without, is_at}
use Rattle.maid_model.specs.Graph.{IsGraph}
use Rattle.maid_model.specs.Nodes.{IsDecision, node_at, states_of, numbers_of, parents_of, is_utility}
use Rattle.maid_model.specs.Parts.{is_in, leads_to, left_out, mass_left_out}
use Rattle.maid_model.specs.Relevance.{IsGoal}
use Rattle.maid_model.specs.Scopes.{goals_of, scope_of}
use Rattle.maid_model.specs.Tables.{row_of, weight_total, total_by, chance_total, rule_total}
use Rattle.maid_model.specs.Views.{NodeView, RuleView}
use Rattle.maid_model.proofs.Leaves.{sum_each_cong}
use Rattle.maid_model.proofs.Setting.{HasTables}
use Rattle.finite_sums.specs.Looks.{Ignores, HasTotal}
use Rattle.finite_sums.specs.Members.{Among}
use Rattle.finite_sums.specs.Sums.{World, InRange, sum_over, sum_each, product_over}
use Rattle.finite_sums.proofs.Ints.{mul_comm}
use Rattle.finite_sums.proofs.Lists.{among_filter}
use Rattle.finite_sums.proofs.Sums.{sum_over_cong, Ignores-add}
use Rattle.maid_laws.proofs.Basis.{among_filter_in}
use Rattle.maid_laws.proofs.Booleans.{bool_same, not_both}
use Rattle.maid_laws.proofs.Collapse.{one_if, one_if-cond, agree, rows_agree, agree_rows}
use Rattle.maid_laws.proofs.Members.{contains_of}
use Rattle.maid_laws.proofs.OneUtility.{table_but, but_looks, but_total, agree_cases, both_true, both_false}
use Rattle.maid_laws.proofs.Proportions.{kind_of_utility, sum_over_each}
use Rattle.maid_laws.proofs.Rearranged.{number}
use Rattle.maid_laws.proofs.Signs.{pos_product}
use Rattle.maid_laws.proofs.Tied.{tables_of}
use Rattle.maid_laws.proofs.TotalLaws.{has_total}
use Rattle.part_laws.proofs.PartLaws.{positive_law}
use Rattle.part_laws.proofs.PartSums.{in_test, test_in}
use Rattle.cell_rings.specs.Rings.{both_ring}
use Rattle.ring_sums.specs.Tables.{product_of}
use Rattle.plan_sums.specs.Laws.{gain_part, missing_total}
use Rattle.plan_sums.specs.Plans.{gain_cells, both_cells, has, value_of, plan_sum, gain_plan}
use Rattle.plan_sums.proofs.Core.{planned}
use Rattle.plan_sums.proofs.Filters.{product_skip, has_yes, has_member}
use Rattle.plan_sums.proofs.Looks.{value_ignores}
use Rattle.plan_sums.proofs.Parts.{gain_is}
use Rattle.plan_sums.proofs.Products.{gain_of_over}
use Rattle.plan_sums.proofs.Added.{sum_each_mul}
use Rattle.scope_sums.specs.Missing.{missing_in}
use Rattle.scope_sums.proofs.Summed.{cancel_factor, outward, missing_is, scope_is_closed, gain_inside}
use Rattle.joint_sums.specs.Joint.{scope_nodes, joint_summed, joint_tables, joint_sum}
use Rattle.joint_sums.specs.Laws.{JointGains}
use Rattle.joint_sums.proofs.ScopeNodes.{inside, scope_nodes_are, node_within, node_inside, inside_closed, goal_parent, own_node, family_node}
use Rattle.joint_sums.proofs.Pairs.{joint_gain}

-- a sum of terms that don't look at a node
sum_ignores : (count : ℕ → ℕ) (h : ℕ → World → ℤ) (x : ℕ) (us : List ℕ) → ((u : ℕ) → Among u us → Ignores count (h u) x) → Ignores count (λ w. sum_each (λ u. h u w) us) x
sum_ignores count h x [] e = record { same = λ w i s l. refl }
sum_ignores count h x (u ∷ us) e = Ignores-add count (h u) (λ w. sum_each (λ k. h k w) us) x (e u (inl refl)) (sum_ignores count h x us (λ k m. e k (inr m)))

module _ (nodes : List NodeView) (p : List RuleView) (d : ℕ) (us : List ℕ) (g : IsGraph nodes) (t : HasTables nodes p) (is : IsDecision nodes d) (goals : (u : ℕ) → Among u us → IsGoal nodes d u)
    (q : World) (i : InRange (states_of nodes) q) where
  zero_in : InRange (states_of nodes) (λ v. 0)
  zero_in = record { state = g.has_state }

  abbrev total : ℕ → ℤ
  total v = pos (weight_total nodes p v)

  abbrev all : List ℕ
  all = numbers_of nodes

  abbrev family : ℕ → Bool
  family v = has (d ∷ parents_of nodes d) v

  -- the decision and its parents, as they come out of all nodes
  abbrev fixed : List ℕ
  fixed = filter (λ v. family v) (filter (λ v. inside nodes d v) all)

  abbrev values : World → ℤ
  values x = sum_each (λ u. value_of nodes u x) us

  abbrev weights : World → ℤ
  weights x = product_over (λ v. table_but nodes d p v x) all

  fixed_has : (v : ℕ) → Among v (d ∷ parents_of nodes d) → Among v fixed
  fixed_has v m =
      let n = family_node nodes d g is v m in
      among_filter_in (λ x. family x) v (filter (λ x. inside nodes d x) all) (among_filter_in (λ x. inside nodes d x) v all (number nodes v (node_within nodes d v n)) (node_inside nodes d v n)) (has_yes v (d ∷ parents_of nodes d) m)

  fixed_from : (v : ℕ) → Among v fixed → Among v (d ∷ parents_of nodes d)
  fixed_from v m = has_member v (d ∷ parents_of nodes d) (among_filter (λ x. family x) v (filter (λ x. inside nodes d x) all) m).1

  -- the test for d's state and row is the test at d and its parents
  at_agree : (w : World) → InRange (states_of nodes) w → one_if (is_at nodes d (q d) (row_of nodes d q) w) ≡ agree fixed q w
  at_agree w iw = elim (agree_cases fixed q w) [
    | inl r ↦ ap one_if (both_true (w d) (q d) (row_of nodes d w) (row_of nodes d q) (r.1 d (fixed_has d (inl refl))) (agree_rows (states_of nodes) w q (node_at nodes d).parents 0 (λ u m. r.1 u (fixed_has u (inr m))))) ∙ sym r.0
    | inr r ↦ ap one_if (both_false (w d) (q d) (row_of nodes d w) (row_of nodes d q) (λ e k. r.1 (given_all e k))) ∙ sym r.0
  ]
    where
      given_all : w d ≡ q d → row_of nodes d w ≡ row_of nodes d q → (o : ℕ) → Among o fixed → w o ≡ q o
      given_all e r o m = elim (fixed_from o m) [
        | inl f ↦ ap w f ∙ e ∙ ap q (sym f)
        | inr k ↦ (rows_agree (states_of nodes) w q iw i (node_at nodes d).parents 0 0 r).1 o k
      ]

  -- ---- what the sum over all worlds is
  -- one goal's part
  part_of_goal : (u : ℕ) → sum_worlds nodes (λ x. agree fixed q x *ℤ (weights x *ℤ value_of nodes u x)) ≡ gain_part nodes p d u (q d) (row_of nodes d q)
  part_of_goal u =
      sum_over_cong (states_of nodes) all (λ x. agree fixed q x *ℤ (weights x *ℤ value_of nodes u x))
      (λ w. cond (is_at nodes d (q d) (row_of nodes d q) w) (weight_without nodes p d w *ℤ value_of nodes u w) (pos 0))
      (λ w iw. sym (one_if-cond (is_at nodes d (q d) (row_of nodes d q) w) (weight_without nodes p d w *ℤ value_of nodes u w) ∙ ap (λ z. z *ℤ (weight_without nodes p d w *ℤ value_of nodes u w)) (at_agree w iw)))
      (λ v. 0) zero_in

  -- the goals' parts
  parts : sum_worlds nodes (λ x. agree fixed q x *ℤ (weights x *ℤ values x)) ≡ sum_each (λ u. gain_part nodes p d u (q d) (row_of nodes d q)) us
  parts =
      ap (sum_worlds nodes) (fun_ext (λ x.
      ap (λ z. agree fixed q x *ℤ z) (sum_each_mul (weights x) (λ u. value_of nodes u x) us)
      ∙ sum_each_mul (agree fixed q x) (λ u. weights x *ℤ value_of nodes u x) us))
      ∙ sum_over_each (states_of nodes) all (λ u x. agree fixed q x *ℤ (weights x *ℤ value_of nodes u x)) us (λ v. 0)
      ∙ ap (λ f. sum_each f us) (fun_ext (λ u. part_of_goal u))

  -- ---- the same of the scope's tables
  out_total : (v : ℕ) → inside nodes d v ≡ false → HasTotal (states_of nodes) (table_but nodes d p) total v
  out_total v e = but_total nodes d p total v (λ k. not_both (inside nodes d v) (subst (λ x. inside nodes d x ≡ true) (sym k) (node_inside nodes d d (own_node nodes d g is))) e) (has_total nodes p g t v)

  values_out : (x : ℕ) → inside nodes d x ≡ false → Ignores (states_of nodes) values x
  values_out x e = sum_ignores (states_of nodes) (λ u w. value_of nodes u w) x us (λ u m. record {
    same = λ w j s l. (value_ignores gain_cells nodes p u x (λ a. not_both (inside nodes d x) (node_inside nodes d x (goal_parent nodes d g is u x (goals u m) a)) e)).same w j s l;
  })

  joint_is : (joint_sum both_cells nodes p d us q).g ≡ sum_over (states_of nodes) (filter (λ v. not (family v)) (filter (λ v. inside nodes d v) all)) (λ x. values x *ℤ product_over (λ v. table_but nodes d p v x) (filter (λ v. inside nodes d v) all)) q
  joint_is =
      gain_of_over (states_of nodes) (joint_summed nodes d) (product_of both_ring (joint_tables both_cells nodes p d us)) q
      ∙ ap (λ h. sum_over (states_of nodes) (joint_summed nodes d) h q) (fun_ext (λ x. joint_gain nodes p t d us x ∙ mul_comm (product_over (λ v. table_but nodes d p v x) (scope_nodes nodes d)) (values x)))
      ∙ ap (λ l. sum_over (states_of nodes) (filter (λ v. not (family v)) l) (λ x. values x *ℤ product_over (λ v. table_but nodes d p v x) l) q) (scope_nodes_are nodes d)

  -- the totals of the other nodes, since a utility's is 1
  left_total : product_over total (filter (λ v. not (inside nodes d v)) all) ≡ pos (mass_left_out nodes p (scope_of nodes d))
  left_total =
      product_skip total (λ v. not (inside nodes d v)) (λ v. not (is_in (scope_of nodes d) v)) all (λ v m. go v m (is_utility (node_at nodes v).kind) refl)
      ∙ pos_product (weight_total nodes p) (left_out nodes (scope_of nodes d))
    where
      and_true : (b : Bool) → (b && true) ≡ b
      and_true true = refl
      and_true false = refl

      listed : (v : ℕ) → Among v all → leads_to nodes (d ∷ goals_of nodes d) v ≡ is_in (scope_of nodes d) v
      listed v m = bool_same (leads_to nodes (d ∷ goals_of nodes d) v) (is_in (scope_of nodes d) v)
          (λ e. in_test (scope_of nodes d) v (among_filter_in (λ x. leads_to nodes (d ∷ goals_of nodes d) x) v all m e))
          (λ e. (among_filter (λ x. leads_to nodes (d ∷ goals_of nodes d) x) v all (test_in (scope_of nodes d) v e)).1)

      go : (v : ℕ) → Among v all → (b : Bool) → is_utility (node_at nodes v).kind ≡ b → (not (inside nodes d v) ≡ not (is_in (scope_of nodes d) v)) ⊎ (total v ≡ pos 1)
      go v m true e = inr (ap (λ k. pos (total_by k (chance_total nodes v) (rule_total p v))) (kind_of_utility (node_at nodes v).kind e))
      go v m false e = inl (ap not (ap (λ b. leads_to nodes (d ∷ goals_of nodes d) v && not b) e ∙ and_true (leads_to nodes (d ∷ goals_of nodes d) v) ∙ listed v m))

  -- the joint sum times the totals left out
  joint_parts : pos (mass_left_out nodes p (scope_of nodes d)) *ℤ (joint_sum both_cells nodes p d us q).g ≡ sum_each (λ u. gain_part nodes p d u (q d) (row_of nodes d q)) us
  joint_parts =
      (λ j. sym left_total j *ℤ joint_is j)
      ∙ sym (planned nodes g (table_but nodes d p) (but_looks nodes d p) total (λ v. inside nodes d v) (λ v. family v) (inside_closed nodes d g is) out_total values values_out q i)
      ∙ parts

pub joint_gains : JointGains
joint_gains nodes p d us q g h r is goals i =
    cancel_factor (mass_left_out nodes p (scope_of nodes d)) (joint_sum both_cells nodes p d us q).g (sum_each term us) (positive_law nodes p (scope_of nodes d) g h r)
    (joint_parts nodes p d us g t is each q i
    ∙ sum_each_cong (λ u. gain_part nodes p d u (q d) (row_of nodes d q)) (λ u. pos (mass_left_out nodes p (scope_of nodes d)) *ℤ term u) us
    (λ u m. sym (gain_is nodes p g t d u is.within q i)
    ∙ outward (plan_sum gain_cells nodes p (gain_plan nodes d u) q) (missing_total nodes p (gain_plan nodes d u)) (mass_left_out nodes p (scope_of nodes d)) (missing_in nodes p (scope_of nodes d) (gain_plan nodes d u))
    (missing_is nodes p (scope_of nodes d) (scope_is_closed nodes d g is) (gain_plan nodes d u) (gain_inside nodes d g is u (each u m))))
    ∙ sym (sum_each_mul (pos (mass_left_out nodes p (scope_of nodes d))) term us))
  where
    t : HasTables nodes p
    t = tables_of nodes p g h r

    each : (u : ℕ) → Among u us → IsGoal nodes d u
    each u m = goals.each u (contains_of u us m)

    term : ℕ → ℤ
    term u = plan_sum gain_cells nodes p (gain_plan nodes d u) q *ℤ pos (missing_in nodes p (scope_of nodes d) (gain_plan nodes d u))
