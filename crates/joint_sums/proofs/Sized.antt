-- The sizes of the cells when goals are summed together, and that each step finds a table.
use Rattle.std.proofs.Common.{◌≡◌, ◌∙◌, ℕ, ◌<◌, ◌≤◌, ◌*◌, max, Bool, true, false, cond, ◌||◌, map, List, ◌++◌, refl, sym, ap, subst, arith, Contains, nat_abs, le_trans, le_refl, le_of_eq}
use Rattle.std.proofs.Math.Path.{fun_ext}
use Rattle.maid_model.specs.Gains.{greatest_abs}
use Rattle.maid_model.specs.Graph.{IsGraph, AllDifferent}
use Rattle.maid_model.specs.Nodes.{node_at, states_of, parents_of, is_utility}
use Rattle.maid_model.specs.Tables.{table, weight_total, row_of}
use Rattle.maid_model.specs.Views.{NodeView, RuleView}
use Rattle.maid_model.proofs.Setting.{HasTables}
use Rattle.finite_sums.specs.Members.{Among}
use Rattle.finite_sums.specs.Sums.{World, InRange}
use Rattle.maid_laws.proofs.Booleans.{eqb_yes, not_both}
use Rattle.maid_laws.proofs.Collapse.{Apart}
use Rattle.maid_laws.proofs.Members.{among_of, contains_of, apart_of, different_of}
use Rattle.maid_laws.proofs.Rearranged.{among_left, apart_append}
use Rattle.maid_laws.proofs.Tied.{tables_of}
use Rattle.cell_rings.specs.Rings.{IsRing, IsSize, mass_ring}
use Rattle.cell_rings.specs.RingLaws.{mass_is_ring}
use Rattle.ring_sums.specs.Groups.{IsStart, HasBounds, StepsFit, StepsHold}
use Rattle.ring_sums.specs.Sums.{ring_sum_over, ring_product, IsBlind}
use Rattle.ring_sums.specs.Tables.{Table, LooksInScope}
use Rattle.ring_sums.proofs.Bounds.{keeps_sizes, holds_each}
use Rattle.ring_sums.proofs.Same.{map_append}
use Rattle.ring_sums.proofs.Sums.{product_append}
use Rattle.plan_sums.specs.Plans.{Cells, mass_cells, has, node_table, utility_table, value_of}
use Rattle.plan_sums.specs.Sizes.{AreSized, value_bound}
use Rattle.plan_sums.proofs.Looks.{node_looks, utility_looks}
use Rattle.plan_sums.proofs.Sized.{cell_le, map_same, nat_product_is, weight_le, weights_sum}
use Rattle.scope_sums.proofs.Summed.{product_at}
use Rattle.joint_sums.specs.Joint.{joint_ruled, joint_summed, joint_tables, joint_bound, IsJointOrder, AreGoals}
use Rattle.joint_sums.specs.Laws.{JointFits, JointHolds}
use Rattle.joint_sums.proofs.ScopeNodes.{node_kind, ruled_node, ruled_apart, summed_ruled}

product_same : (f g : ℕ → ℕ) (xs : List ℕ) → ((v : ℕ) → Among v xs → f v ≡ g v) → ring_product mass_ring f xs ≡ ring_product mass_ring g xs
product_same f g xs h = nat_product_is f xs ∙ product_at f g xs h ∙ sym (nat_product_is g xs)

module _ (nodes : List NodeView) (d : ℕ) (us : List ℕ) (goals : AreGoals nodes d us) where
  -- a number has a value where it is a utility's, and weights elsewhere
  abbrev pub valued : ℕ → Bool
  valued v = is_utility (node_at nodes v).kind

  pub goal_valued : (u : ℕ) → Among u us → valued u ≡ true
  goal_valued u m = ap is_utility (goals.each u (contains_of u us m)).kind

  pub ruled_weighs : (v : ℕ) → Among v (joint_ruled nodes d) → valued v ≡ false
  ruled_weighs v m = node_kind nodes d v (ruled_node nodes d v m)

  -- the nodes of the first tables, the utilities last
  abbrev pub labels : List ℕ
  labels = joint_ruled nodes d ++ us

  pub labels_apart : Apart labels
  labels_apart = apart_append (joint_ruled nodes d) us (ruled_apart nodes d) (apart_of us goals.different) (λ v m k. not_both (valued v) (goal_valued v k) (ruled_weighs v m))

  -- the terms of both kinds
  module _ {Y : Type 0} (value weigh : ℕ → Y) where
    abbrev pub either : ℕ → Y
    either v = cond (valued v) (value v) (weigh v)

    pub weighs : (v : ℕ) → valued v ≡ false → either v ≡ weigh v
    weighs v e = ap (λ b. cond b (value v) (weigh v)) e

    pub values : (v : ℕ) → valued v ≡ true → either v ≡ value v
    values v e = ap (λ b. cond b (value v) (weigh v)) e

    pub both_map : map either labels ≡ map weigh (joint_ruled nodes d) ++ map value us
    both_map =
        map_append either (joint_ruled nodes d) us
        ∙ (λ i. map_same either weigh (joint_ruled nodes d) (λ v m. weighs v (ruled_weighs v m)) i
        ++ map_same either value us (λ v m. values v (goal_valued v m)) i)

  module _ {C : Type 0} (c : Cells C) (p : List RuleView) where
    -- the first table of each
    abbrev pub tab : ℕ → Table C
    tab v = cond (valued v) (utility_table c nodes v) (node_table c nodes p v)

    pub tab_looks : (x : ℕ) → LooksInScope (states_of nodes) (tab x)
    tab_looks x = go (valued x)
      where
        go : (b : Bool) → LooksInScope (states_of nodes) (cond b (utility_table c nodes x) (node_table c nodes p x))
        go true = utility_looks c nodes p x
        go false = node_looks c nodes p x

    -- the joint tables are the first tables of these nodes
    pub tables_are : joint_tables c nodes p d us ≡ map tab labels
    tables_are = sym (both_map (λ v. utility_table c nodes v) (λ v. node_table c nodes p v))

    module _ (steps : List ℕ) (order : IsJointOrder nodes d steps) where
      step_ruled : (v : ℕ) → Contains steps v → Among v (joint_ruled nodes d)
      step_ruled v m = summed_ruled nodes d v (among_of v (joint_summed nodes d) ((order.all v).0 m))

      pub step_weighs : (v : ℕ) → Contains steps v → valued v ≡ false
      step_weighs v m = ruled_weighs v (step_ruled v m)

      pub start : IsStart (states_of nodes) tab labels steps
      start = record {
        looks = tab_looks;
        different = different_of labels labels_apart;
        steps_different = order.once;
        inside = λ v m. contains_of v labels (among_left v (joint_ruled nodes d) us (step_ruled v m));
        own = λ v m. ap (λ b. (cond b (utility_table c nodes v) (node_table c nodes p v)).holds v) (step_weighs v m) ∙ ap (λ b. b || has (parents_of nodes v) v) (eqb_yes v v refl);
      }

-- ---- the bound
module _ {C : Type 0} (c : Cells C) (h : IsRing c.ring) (size : C → ℕ) (sized : IsSize c.ring size) (are : AreSized c size)
    (nodes : List NodeView) (p : List RuleView) (g : IsGraph nodes) (t : HasTables nodes p) (d : ℕ) (us : List ℕ) (goals : AreGoals nodes d us) (steps : List ℕ) (order : IsJointOrder nodes d steps) where
  abbrev number : ℕ → World → ℕ
  number x w = cond (valued nodes d us goals x) (value_bound nodes x) (nat_abs (table nodes p x w))

  abbrev total : ℕ → ℕ
  total x = cond (valued nodes d us goals x) (value_bound nodes x) (weight_total nodes p x)

  value_le : (x : ℕ) (w : World) → size (c.value (value_of nodes x w)) ≤ value_bound nodes x
  value_le x w = le_trans (are.value (value_of nodes x w)) (grow (nat_abs (value_of nodes x w)) (greatest_abs (node_at nodes x).cells) (cell_le (node_at nodes x).cells (row_of nodes x w)))
    where
      grow : (a b : ℕ) → a ≤ b → 2 * max 1 a ≤ 2 * max 1 b
      grow a b l = omega arith

  bounds : HasBounds size (states_of nodes) (tab nodes d us goals c p) steps number total
  bounds = record {
    sized = λ x w i. sized_at x w (valued nodes d us goals x);
    looks = λ x. looks_at x (valued nodes d us goals x);
    below = λ x w i. below_at x w i (valued nodes d us goals x);
    positive = λ x. positive_at x (valued nodes d us goals x);
    sums = sums_at;
  }
    where
      sized_at : (x : ℕ) (w : World) (b : Bool) → size ((cond b (utility_table c nodes x) (node_table c nodes p x)).cell w) ≤ cond b (value_bound nodes x) (nat_abs (table nodes p x w))
      sized_at x w true = value_le x w
      sized_at x w false = are.weight (nat_abs (table nodes p x w))

      looks_at : (x : ℕ) (b : Bool) (v : ℕ) → (cond b (utility_table c nodes x) (node_table c nodes p x)).holds v ≡ false → IsBlind (states_of nodes) (λ w. cond b (value_bound nodes x) (nat_abs (table nodes p x w))) v
      looks_at x true v e = record { same = λ w s i l. refl }
      looks_at x false v e = node_looks mass_cells nodes p x v e

      below_at : (x : ℕ) (w : World) → InRange (states_of nodes) w → (b : Bool) → cond b (value_bound nodes x) (nat_abs (table nodes p x w)) ≤ cond b (value_bound nodes x) (weight_total nodes p x)
      below_at x w i true = le_refl (value_bound nodes x)
      below_at x w i false = weight_le nodes p g t x w i

      positive_at : (x : ℕ) (b : Bool) → 0 < cond b (value_bound nodes x) (weight_total nodes p x)
      positive_at x true = omega arith
      positive_at x false = t.positive x

      plain : (vs : List ℕ) → ((v : ℕ) → Contains vs v → Contains steps v) → (v : ℕ) → Among v vs → valued nodes d us goals v ≡ false
      plain vs f v m = step_weighs nodes d us goals c p steps order v (f v (contains_of v vs m))

      sums_at : (vs : List ℕ) → AllDifferent vs → ((v : ℕ) → Contains vs v → Contains steps v) → (w : World) → InRange (states_of nodes) w
          → ring_sum_over mass_ring (states_of nodes) vs (λ x. ring_product mass_ring (λ v. number v x) vs) w ≤ ring_product mass_ring total vs
      sums_at vs a f w i = le_of_eq
          (ap (λ k. ring_sum_over mass_ring (states_of nodes) vs k w) (fun_ext (λ x. product_same (λ v. number v x) (λ v. nat_abs (table nodes p v x)) vs
          (λ v m. weighs nodes d us goals (value_bound nodes) (λ u. nat_abs (table nodes p u x)) v (plain vs f v m))))
          ∙ weights_sum nodes p g t vs (apart_of vs a) w i
          ∙ sym (product_same total (weight_total nodes p) vs (λ v m. weighs nodes d us goals (value_bound nodes) (weight_total nodes p) v (plain vs f v m))))

  -- the totals of all first tables
  whole_is : ring_product mass_ring total (labels nodes d us goals) ≡ joint_bound nodes p d us
  whole_is =
      product_append mass_ring mass_is_ring total (joint_ruled nodes d) us
      ∙ (λ i. (product_same total (weight_total nodes p) (joint_ruled nodes d) (λ v m. weighs nodes d us goals (value_bound nodes) (weight_total nodes p) v (ruled_weighs nodes d us goals v m)) ∙ nat_product_is (weight_total nodes p) (joint_ruled nodes d)) i
      * (product_same total (value_bound nodes) us (λ u m. values nodes d us goals (value_bound nodes) (weight_total nodes p) u (goal_valued nodes d us goals u m)) ∙ nat_product_is (value_bound nodes) us) i)

  fits : StepsFit c.ring size (states_of nodes) (joint_bound nodes p d us) steps (joint_tables c nodes p d us)
  fits =
      subst (λ l. StepsFit c.ring size (states_of nodes) (joint_bound nodes p d us) steps l) (sym (tables_are nodes d us goals c p))
      (subst (λ b. StepsFit c.ring size (states_of nodes) b steps (map (tab nodes d us goals c p) (labels nodes d us goals))) whole_is
      (keeps_sizes c.ring h size sized (states_of nodes) (tab nodes d us goals c p) (labels nodes d us goals) steps number total (start nodes d us goals c p steps order) bounds))

pub joint_fits : {C : Type 0} (c : Cells C) → IsRing c.ring → (size : C → ℕ) → IsSize c.ring size → AreSized c size → JointFits c size
joint_fits c h size sized are nodes p d us steps g ch r goals order = fits c h size sized are nodes p g (tables_of nodes p g ch r) d us goals steps order

pub joint_holds : {C : Type 0} (c : Cells C) → IsRing c.ring → JointHolds c
joint_holds c h nodes p d us steps goals order =
    subst (λ l. StepsHold c.ring (states_of nodes) steps l) (sym (tables_are nodes d us goals c p))
    (holds_each c.ring h (states_of nodes) (tab nodes d us goals c p) (labels nodes d us goals) steps (start nodes d us goals c p steps order))
