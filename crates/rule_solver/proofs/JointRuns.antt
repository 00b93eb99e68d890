-- One elimination of several goals: what it asks, and what its last table tells.
use Rattle.std.proofs.Common.{All, ◌≡◌, ◌∙◌, ◌⊎◌, ◌↔◌, inl, inr, ℕ, ◌+◌, ◌*◌, ◌<◌, ◌≤◌, max, Bool, true, false, Contains, List, [], ◌∷◌, ◌++◌, length, get_or, sym, ap, subst, ℤ, pos, ◌+ℤ◌, ◌*ℤ◌, nat_abs, arith, le_trans}
use Rattle.std.proofs.Math.Nat.{mul-le-mul_left, mul-le-mul_right}
use Rattle.std.proofs.lemmas.Int.{ints}
use Rattle.std.proofs.lemmas.List.{get_or_default}
use Rattle.cell_rings.specs.declared.boths.Both.{Both}
use Rattle.cell_rings.specs.KindLaws.{both_laws, both_sizes}
use Rattle.cell_rings.specs.Kinds.{both_kind, pair_in}
use Rattle.cell_rings.specs.Rings.{most_size}
use Rattle.eliminate.specs.Laws.{ValuesFit, WeightsFit}
use Rattle.eliminate.specs.Results.{SumsTables, tables_at}
use Rattle.factor_core.specs.declared.slots.Slot.{Slot}
use Rattle.factor_core.specs.Operations.{NumbersFit}
use Rattle.factor_core.specs.Slots.{WorkspaceView, table_of}
use Rattle.finite_sums.specs.Members.{Among}
use Rattle.finite_sums.specs.Sums.{World, InRange, nat_product_over, sum_each}
use Rattle.finite_sums.proofs.Members.{among_from_contains, contains_from_among}
use Rattle.joint_sums.specs.Joint.{AreGoals, IsJointOrder, joint_bound, joint_ruled, joint_summed, joint_tables}
use Rattle.joint_sums.proofs.KindSums.{both_pairs, both_run, both_run_sized, gains_by}
use Rattle.joint_sums.proofs.Orders.{runs_joint}
use Rattle.joint_sums.proofs.ScopeNodes.{node_kind, node_within, ruled_node, summed_ruled}
use Rattle.joint_sums.proofs.Scopes.{joint_keeps}
use Rattle.joint_sums.proofs.Sized.{both_map, joint_fits, joint_holds, labels_apart}
use Rattle.maid_laws.proofs.Rearranged.{among_append}
use Rattle.maid_laws.proofs.Tied.{tables_of}
use Rattle.maid_model.specs.Diagrams.{greatest_number}
use Rattle.maid_model.specs.Gains.{greatest_abs}
use Rattle.maid_model.specs.Nodes.{is_utility, node_at, parents_of, states_of}
use Rattle.maid_model.specs.Scopes.{greatest_of, scope_product}
use Rattle.maid_model.specs.Tables.{weight_total}
use Rattle.maid_model.specs.Views.{DiagramView, RuleView}
use Rattle.node_sets.specs.declared.sets.NodeSet.{NodeSet}
use Rattle.node_sets.specs.Sets.{IsIn, holds}
use Rattle.plan_sums.specs.Plans.{has, node_table, utility_table}
use Rattle.plan_sums.specs.Sizes.{value_bound}
use Rattle.ring_sums.specs.Groups.{StepsFit, StepsHold}
use Rattle.ring_sums.specs.Tables.{eliminate, joined, product_of}
use Rattle.ring_sums.proofs.Same.{fits_more}
use Rattle.scope_sums.specs.Laws.{MissingIsPositive, ScopesFitPlans}
use Rattle.rule_solver.specs.Reading.{AddsTable, gain_there}
use Rattle.rule_solver.specs.Sums.{AddsGoals, HasRoomForGoals, IsSetting, goal_part}
use Rattle.rule_solver.specs.Together.{FitsPairs}
use Rattle.rule_solver.proofs.JointLists.{factor_at_most, few, product_some}
use Rattle.rule_solver.proofs.GoalPlans.{has_contains}
use Rattle.rule_solver.proofs.SettingLemmas.{part_small}
use Rattle.rule_solver.proofs.SumLemmas.{parts_small}

-- a fact of each member, as the lists of the code have it
each_is : (P : ℕ → Type 0) (xs : List ℕ) → ((v : ℕ) → Among v xs → P v) → All P xs
each_is P xs h k e l = h (get_or xs k e) (among_from_contains xs (get_or xs k e) (k, l, get_or_default xs k (get_or xs k e) e l))

module _ (d : DiagramView) (p : List RuleView) (decision : ℕ) (totals : List ℕ) (scope : NodeSet) (s : IsSetting d p decision totals scope)
    (us : List ℕ) (goals : AreGoals d.nodes decision us) (total : ℕ) (total_is : total ≡ nat_product_over (weight_total d.nodes p) (joint_ruled d.nodes decision)) (fits : FitsPairs d.nodes total us)
    (steps : List ℕ) (order : IsJointOrder d.nodes decision steps)
  where
    abbrev labels : List ℕ
    labels = joint_ruled d.nodes decision ++ us

    -- the first tables are those of the joint sum
    tables_are : tables_at both_run d.nodes p labels ≡ joint_tables both_run d.nodes p decision us
    tables_are = both_map d.nodes decision us goals (λ u. utility_table both_run d.nodes u) (λ v. node_table both_run d.nodes p v)

    -- ---- what the call asks
    within : (v : ℕ) → Among v labels → v < length d.nodes
    within v m = go (among_append v (joint_ruled d.nodes decision) us m)
      where
        go : Among v (joint_ruled d.nodes decision) ⊎ Among v us → v < length d.nodes
        go (inl r) = node_within d.nodes decision v (ruled_node d.nodes decision v r)
        go (inr u) = (goals.each v (contains_from_among us v u)).within

    pub known : All (λ v. v < length d.nodes) labels
    known = each_is (λ v. v < length d.nodes) labels within

    pub few_labels : length labels ≤ 256
    few_labels = le_trans (few labels (length d.nodes) (labels_apart d.nodes decision us goals) within) s.is_diagram.limits.nodes

    pub steps_known : All (λ v. v < length d.nodes) steps
    steps_known = each_is (λ v. v < length d.nodes) steps (λ v m. node_within d.nodes decision v (ruled_node d.nodes decision v (summed_ruled d.nodes decision v (among_from_contains (joint_summed d.nodes decision) v ((order.all v).0 (contains_from_among steps v m))))))

    bound_is : joint_bound d.nodes p decision us ≤ most_size
    bound_is = subst (λ n. n * nat_product_over (value_bound d.nodes) us ≤ most_size) total_is fits

    value_some : (u : ℕ) → 0 < value_bound d.nodes u
    value_some u = two (greatest_abs (node_at d.nodes u).cells)
      where
        two : (a : ℕ) → 0 < 2 * max 1 a
        two a = omega arith

    positive : (v : ℕ) → 0 < weight_total d.nodes p v
    positive = (tables_of d.nodes p s.is_diagram.graph s.is_diagram.tables s.profile).positive

    -- the product of the values' sizes, of which there is one at least, is two at least
    values_two : 2 ≤ nat_product_over (value_bound d.nodes) us
    values_two = go us goals.some
      where
        two : (a x : ℕ) → 1 ≤ x → 2 ≤ 2 * max 1 a * x
        two a x h = omega (arith, mul-le-mul_left (2 * max 1 a) h)

        go : (us : List ℕ) → 0 < length us → 2 ≤ nat_product_over (value_bound d.nodes) us
        go [] l = absurd (omega arith)
        go (u ∷ us) l = two (greatest_abs (node_at d.nodes u).cells) (nat_product_over (value_bound d.nodes) us) (product_some (value_bound d.nodes) value_some us)

    numbers_by_kind : WeightsFit → ValuesFit → (v : ℕ) → Among v (joint_ruled d.nodes decision) ⊎ Among v us → NumbersFit most_size d.nodes p v
    numbers_by_kind weights values v (inl r) =
        weights d.nodes p most_size v s.is_diagram.tables s.profile
        (go (weight_total d.nodes p v) (nat_product_over (weight_total d.nodes p) (joint_ruled d.nodes decision)) (nat_product_over (value_bound d.nodes) us) (factor_at_most (weight_total d.nodes p) positive (joint_ruled d.nodes decision) v r) values_two bound_is)
        (λ e. plain (ap is_utility e) (node_kind d.nodes decision v (ruled_node d.nodes decision v r)))
      where
        go : (w t x : ℕ) → w ≤ t → 2 ≤ x → t * x ≤ most_size → 2 * w ≤ most_size
        go w t x h k l = omega (arith, h, l, mul-le-mul_left t k)

        plain : {b : Bool} → b ≡ true → b ≡ false → ⊥
        plain h k = absurd (let clash : true ≡ false = sym h ∙ k in cc)
    numbers_by_kind weights values v (inr u) =
        values d.nodes p most_size v
        (go (greatest_abs (node_at d.nodes v).cells) (nat_product_over (weight_total d.nodes p) (joint_ruled d.nodes decision)) (nat_product_over (value_bound d.nodes) us) (factor_at_most (value_bound d.nodes) value_some us v u) (product_some (weight_total d.nodes p) positive (joint_ruled d.nodes decision)) bound_is)
        (goals.each v (contains_from_among us v u)).kind
      where
        go : (a t x : ℕ) → 2 * max 1 a ≤ x → 1 ≤ t → t * x ≤ most_size → 2 * a ≤ most_size
        go a t x h k l = omega (arith, h, l, mul-le-mul_right x k)

    pub numbers : WeightsFit → ValuesFit → All (NumbersFit most_size d.nodes p) labels
    numbers weights values = each_is (NumbersFit most_size d.nodes p) labels (λ v m. numbers_by_kind weights values v (among_append v (joint_ruled d.nodes decision) us m))

    pub steps_hold : StepsHold both_kind (states_of d.nodes) steps (tables_at both_run d.nodes p labels)
    steps_hold = subst (StepsHold both_kind (states_of d.nodes) steps) (sym tables_are) (joint_holds both_run both_laws d.nodes p decision us steps goals order)

    pub steps_fit : StepsFit both_kind both_kind.size (states_of d.nodes) most_size steps (tables_at both_run d.nodes p labels)
    steps_fit =
        subst (StepsFit both_kind both_kind.size (states_of d.nodes) most_size steps) (sym tables_are)
        (fits_more both_kind both_kind.size (states_of d.nodes) (joint_bound d.nodes p decision us) most_size bound_is steps (joint_tables both_run d.nodes p decision us)
        (joint_fits both_run both_laws both_kind.size both_sizes both_run_sized d.nodes p decision us steps s.is_diagram.graph s.is_diagram.tables s.profile goals order))

    -- ---- what it gives
    module _ (after : WorkspaceView Both) (slot : Slot) (so : SumsTables both_run d.nodes p labels steps after slot) where
      pub slot_scope : (v : ℕ) → IsIn slot.scope v ↔ Contains (decision ∷ parents_of d.nodes decision) v
      slot_scope v =
          let e : holds slot.scope v ≡ has (decision ∷ parents_of d.nodes decision) v =
          so.scope v ∙ ap (λ ts. joined (eliminate both_kind (states_of d.nodes) steps ts) v) tables_are
          ∙ joint_keeps both_run both_laws d.nodes p decision us steps s.is_diagram.graph s.is_decision goals order v in
          let c = has_contains (decision ∷ parents_of d.nodes decision) v in
          ((λ h. c.0 (sym e ∙ h)), (λ h. e ∙ c.1 h))

      -- the gain of a cell is what the goals give
      slot_gain : (q : World) → InRange (states_of d.nodes) q → ((table_of both_kind d.nodes after.cells slot).cell q).g ≡ sum_each (λ u. goal_part d.nodes p decision u q) us
      slot_gain q i =
          ap (λ (b : Both). b.g)
          (so.cell q i ∙ ap (λ ts. product_of both_kind (eliminate both_kind (states_of d.nodes) steps ts) q) tables_are
          ∙ runs_joint both_run both_laws d.nodes p decision us steps q order i)
          ∙ gains_by both_run both_laws pair_in both_pairs d.nodes p decision us q s.is_diagram.graph s.is_diagram.tables s.profile s.is_decision goals i

      alone : (x : ℤ) → x *ℤ pos 1 ≡ x
      alone x = omega (arith, ints)

      slot_part : (q : World) → InRange (states_of d.nodes) q → ((table_of both_kind d.nodes after.cells slot).cell q).g *ℤ pos 1 ≡ sum_each (λ u. goal_part d.nodes p decision u q) us
      slot_part q i = alone (((table_of both_kind d.nodes after.cells slot).cell q).g) ∙ slot_gain q i

      pub slot_room : ScopesFitPlans → MissingIsPositive → (gains : List ℤ) → HasRoomForGoals d decision us gains → (q : World) → InRange (states_of d.nodes) q
          → nat_abs (gain_there gains d.nodes decision q) + nat_abs (((table_of both_kind d.nodes after.cells slot).cell q).g *ℤ pos 1) ≤ greatest_number
      slot_room keeps missing gains room q i =
          sum _ _ _ (subst (λ z. nat_abs z ≤ scope_product d.nodes decision * greatest_of d.nodes us) (sym (slot_part q i))
          (parts_small d.nodes p decision us q (λ u m. part_small d p decision totals scope s keeps missing u (goals.each u (contains_from_among us u m)) q i))) (room.room q i)
        where
          sum : (a b c : ℕ) → b ≤ c → a + c ≤ greatest_number → a + b ≤ greatest_number
          sum a b c h k = omega (arith, h, k)

      pub slot_adds : (before now : List ℤ) → AddsTable d.nodes decision (λ q. ((table_of both_kind d.nodes after.cells slot).cell q).g) 1 before now → AddsGoals d.nodes p decision us before now
      slot_adds before now adds = record { count = adds.len; each = λ q i. adds.each q i ∙ ap (λ z. gain_there before d.nodes decision q +ℤ z) (slot_part q i) }
