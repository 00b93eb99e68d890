-- A decision in its setting: what its plans give, and that all of it has room.
use Rattle.std.proofs.Common.{◌≡◌, ◌∙◌, ◌↔◌, ℕ, ◌+◌, ◌*◌, ◌^◌, ◌<◌, ◌≤◌, max, Bool, true, false, List, [], ◌∷◌, Contains, length, slice_index, refl, sym, ap, subst, ℤ, pos, ◌+ℤ◌, ◌*ℤ◌, nat_abs, arith}
use Rattle.std.proofs.Math.Nat.{mul-le-mul_left, one-le-pow}
use Rattle.std.proofs.lemmas.Int.{ints}
use Rattle.std.proofs.lemmas.List.{get_or_default}
use Rattle.finite_sums.specs.Sums.{World, InRange}
use Rattle.finite_sums.proofs.Members.{among_from_contains, contains_from_among}
use Rattle.maid_model.specs.Diagrams.{greatest_number}
use Rattle.maid_model.specs.Gains.{greatest_abs}
use Rattle.maid_model.specs.Graph.{IsGraph}
use Rattle.maid_model.specs.Nodes.{IsDecision, node_at, rows_of, states_of}
use Rattle.maid_model.specs.Parts.{leads_to}
use Rattle.maid_model.specs.Relevance.{IsGoal}
use Rattle.maid_model.specs.Scopes.{goals_of, greatest_of, scope_of, scope_product}
use Rattle.maid_model.specs.Views.{NodeView, DiagramView, RuleView}
use Rattle.node_sets.specs.declared.sets.NodeSet.{NodeSet}
use Rattle.node_sets.specs.Sets.{IsIn}
use Rattle.part_laws.proofs.ScopeLaws.{goal_listed}
use Rattle.plan_sums.specs.Plans.{PlanView, gain_cells, mass_cells, gain_plan, plan_nodes, plan_sum, row_plan}
use Rattle.cell_rings.specs.Rings.{most_size}
use Rattle.eliminate.specs.Results.{plan_total}
use Rattle.scope_sums.specs.Laws.{MissingIsPositive, PlansFitScope, ScopesFitPlans, SumsOfScopes}
use Rattle.scope_sums.specs.Missing.{missing_in, missing_in_without}
use Rattle.scope_sums.proofs.Summed.{goal_of}
use Rattle.rule_solver.specs.Reading.{AddsTable, PutsMasses, gain_there}
use Rattle.rule_solver.specs.Sums.{AddsGoals, HasMasses, HasRoomForGoals, IsSetting, goal_part}
use Rattle.rule_solver.specs.Totals.{product_in}
use Rattle.rule_solver.proofs.Missing.{missing_product, missing_product_after}
use Rattle.rule_solver.proofs.PlanLemmas.{rows_number, goal_fits, rows_fit}

-- ---- the list of goals
pub bool_same : (a b : Bool) → (a ≡ true → b ≡ true) → (b ≡ true → a ≡ true) → a ≡ b
bool_same true b h k = sym (h refl)
bool_same false true h k = k refl
bool_same false false h k = refl

module _ (nodes : List NodeView) (graph : IsGraph nodes) (decision : ℕ) (is : IsDecision nodes decision) where
  -- a goal stands in the list
  pub index_of_goal : (u : ℕ) → IsGoal nodes decision u → Contains (goals_of nodes decision) u
  index_of_goal u h = contains_from_among (goals_of nodes decision) u (goal_listed nodes graph decision is u h)

  pub goal_at : (k : ℕ) → k < length (goals_of nodes decision) → IsGoal nodes decision (slice_index (goals_of nodes decision) k)
  goal_at k h = goal_of nodes decision graph is (slice_index (goals_of nodes decision) k) (among_from_contains (goals_of nodes decision) (slice_index (goals_of nodes decision) k) (k, h, get_or_default (goals_of nodes decision) k (slice_index (goals_of nodes decision) k) 0 h))

module _ (d : DiagramView) (p : List RuleView) (decision : ℕ) (totals : List ℕ) (scope : NodeSet) (s : IsSetting d p decision totals scope) where
  -- P alone is within the bound
  product_small : scope_product d.nodes decision ≤ greatest_number
  product_small =
      let whole : scope_product d.nodes decision * 1 ≤ scope_product d.nodes decision * max (10 ^ d.decimals) (greatest_of d.nodes (goals_of d.nodes decision)) = mul-le-mul_left (scope_product d.nodes decision) (greater (10 ^ d.decimals) (greatest_of d.nodes (goals_of d.nodes decision)) (one-le-pow d.decimals 10 ten)) in
      chain _ _ whole s.bound
    where
      ten : 0 < 10
      ten = omega arith

      greater : (a b : ℕ) → 1 ≤ a → 1 ≤ max a b
      greater a b h = omega (arith, h)

      chain : (a b : ℕ) → a * 1 ≤ b → b ≤ greatest_number → a ≤ greatest_number
      chain a b h k = omega (arith, h, k)

  pub in_room : (m : ℕ) → m ≤ scope_product d.nodes decision → m ≤ greatest_number
  in_room m h = let k = product_small in omega (arith, h, k)

  module _ (fits : ScopesFitPlans) (some : MissingIsPositive) where
    fit : PlansFitScope d.nodes p decision
    fit = fits d.nodes p decision s.is_diagram.graph s.is_diagram.tables s.profile s.is_decision s.rules

    -- ---- the plan of the rows
    module _ (plan : PlanView) (is : plan ≡ row_plan d.nodes decision) where
      pub rows_missing : (planned all left : NodeSet) → ((v : ℕ) → IsIn planned v ↔ Contains (plan_nodes d.nodes plan) v) → ((v : ℕ) → IsIn all v ↔ (IsIn scope v × (IsIn planned v → ⊥))) → ((v : ℕ) → IsIn left v ↔ (IsIn all v × (v ≡ decision → ⊥)))
          → product_in totals left ≡ missing_in_without d.nodes p decision (scope_of d.nodes decision) (row_plan d.nodes decision)
      rows_missing planned all left plans alls lefts =
          missing_product_after d.nodes p totals s.has_totals (leads_to d.nodes (decision ∷ goals_of d.nodes decision)) (row_plan d.nodes decision) scope planned left s.is_scope
          (subst (λ x. (v : ℕ) → IsIn planned v ↔ Contains (plan_nodes d.nodes x) v) is plans) decision all alls lefts

      pub rows_total : 2 * plan_total d.nodes p plan ≤ most_size
      rows_total =
          subst (λ x. 2 * plan_total d.nodes p x ≤ most_size) (sym is)
          (rows_fit d p decision (missing_in_without d.nodes p decision (scope_of d.nodes decision) (row_plan d.nodes decision))
          ((some d.nodes p (scope_of d.nodes decision) (row_plan d.nodes decision) s.is_diagram.graph s.is_diagram.tables s.profile).1 decision) s.bound fit.row_tables)

      pub rows_missing_small : missing_in_without d.nodes p decision (scope_of d.nodes decision) (row_plan d.nodes decision) ≤ greatest_number
      rows_missing_small = in_room _ fit.missing_row

      module _ (number : World → ℤ) (is_sum : (q : World) → InRange (states_of d.nodes) q → number q ≡ plan_sum gain_cells d.nodes p plan q) where
        rows_mass : (q : World) → InRange (states_of d.nodes) q → nat_abs (number q) ≡ plan_sum mass_cells d.nodes p (row_plan d.nodes decision) q
        rows_mass q i = ap nat_abs (is_sum q i ∙ ap (λ x. plan_sum gain_cells d.nodes p x q) is ∙ rows_number d.nodes p decision q)

        module _ (factor : ℕ) (factor_is : factor ≡ missing_in_without d.nodes p decision (scope_of d.nodes decision) (row_plan d.nodes decision)) where
          rows_part : (q : World) → InRange (states_of d.nodes) q → nat_abs (number q) * factor ≡ plan_sum mass_cells d.nodes p (row_plan d.nodes decision) q * missing_in_without d.nodes p decision (scope_of d.nodes decision) (row_plan d.nodes decision)
          rows_part q i = λ t. rows_mass q i t * factor_is t

          within : (q : World) → InRange (states_of d.nodes) q → nat_abs (number q) * factor ≤ scope_product d.nodes decision
          within q i = subst (λ n. n ≤ scope_product d.nodes decision) (sym (rows_part q i)) (fit.row q i)

          pub rows_room : (q : World) → InRange (states_of d.nodes) q → nat_abs (number q) * factor ≤ greatest_number
          rows_room q i = in_room _ (within q i)

          pub rows_masses : SumsOfScopes → (masses : List ℕ) → length masses ≡ rows_of d.nodes decision → PutsMasses d.nodes decision number factor masses → HasMasses d p decision masses
          rows_masses sums masses count puts = record {
            count = count;
            each = λ q i. ap pos (puts.each q i ∙ rows_part q i) ∙ sym ((sums d.nodes p decision s.is_diagram.graph s.is_diagram.tables s.profile s.is_decision).mass_there q i);
            small = λ q i. subst (λ n. n ≤ scope_product d.nodes decision) (sym (puts.each q i)) (within q i);
          }

    -- ---- the plan of a goal
    module _ (goal : ℕ) (is_goal : IsGoal d.nodes decision goal) (plan : PlanView) (is : plan ≡ gain_plan d.nodes decision goal) where
      pub goal_missing : (planned left : NodeSet) → ((v : ℕ) → IsIn planned v ↔ Contains (plan_nodes d.nodes plan) v) → ((v : ℕ) → IsIn left v ↔ (IsIn scope v × (IsIn planned v → ⊥)))
          → product_in totals left ≡ missing_in d.nodes p (scope_of d.nodes decision) (gain_plan d.nodes decision goal)
      goal_missing planned left plans lefts =
          missing_product d.nodes p totals s.has_totals (leads_to d.nodes (decision ∷ goals_of d.nodes decision)) (gain_plan d.nodes decision goal) scope planned left s.is_scope
          (subst (λ x. (v : ℕ) → IsIn planned v ↔ Contains (plan_nodes d.nodes x) v) is plans) lefts

      pub goal_missing_small : missing_in d.nodes p (scope_of d.nodes decision) (gain_plan d.nodes decision goal) ≤ greatest_number
      goal_missing_small = in_room _ (fit.missing goal is_goal)

      pub goal_total : 2 * plan_total d.nodes p plan ≤ most_size
      goal_total =
          subst (λ x. 2 * plan_total d.nodes p x ≤ most_size) (sym is)
          (goal_fits d p decision goal (missing_in d.nodes p (scope_of d.nodes decision) (gain_plan d.nodes decision goal))
          (some d.nodes p (scope_of d.nodes decision) (gain_plan d.nodes decision goal) s.is_diagram.graph s.is_diagram.tables s.profile).0
          (goal_listed d.nodes s.is_diagram.graph decision s.is_decision goal is_goal) s.bound (fit.gain_tables goal is_goal))

      module _ (number : World → ℤ) (is_sum : (q : World) → InRange (states_of d.nodes) q → number q ≡ plan_sum gain_cells d.nodes p plan q) (factor : ℕ)
          (factor_is : factor ≡ missing_in d.nodes p (scope_of d.nodes decision) (gain_plan d.nodes decision goal))
        where
          goal_number : (q : World) → InRange (states_of d.nodes) q → number q ≡ plan_sum gain_cells d.nodes p (gain_plan d.nodes decision goal) q
          goal_number q i = is_sum q i ∙ ap (λ x. plan_sum gain_cells d.nodes p x q) is

          part : (q : World) → InRange (states_of d.nodes) q → number q *ℤ pos factor ≡ goal_part d.nodes p decision goal q
          part q i = λ t. goal_number q i t *ℤ pos (factor_is t)

          pub goal_room : (gains : List ℤ) → HasRoomForGoals d decision (goal ∷ []) gains → (q : World) → InRange (states_of d.nodes) q → nat_abs (gain_there gains d.nodes decision q) + nat_abs (number q *ℤ pos factor) ≤ greatest_number
          goal_room gains room q i =
              sum _ _ _ _ (subst (λ z. nat_abs z ≤ scope_product d.nodes decision * greatest_abs (node_at d.nodes goal).cells) (sym (part q i)) (fit.gain goal q is_goal i)) (room.room q i)
            where
              sum : (a b m x : ℕ) → b ≤ m * x → a + m * (x + 0) ≤ greatest_number → a + b ≤ greatest_number
              sum a b m x h k = omega (arith, h, k)

          pub goal_added : (before after : List ℤ) → AddsTable d.nodes decision number factor before after → AddsGoals d.nodes p decision (goal ∷ []) before after
          goal_added before after adds = record { count = adds.len; each = λ q i. adds.each q i ∙ ap (λ z. gain_there before d.nodes decision q +ℤ z) (part q i ∙ alone (goal_part d.nodes p decision goal q)) }
            where
              alone : (x : ℤ) → x ≡ x +ℤ pos 0
              alone x = omega (arith, ints)

    -- what a goal gives is within P and its greatest value
    pub part_small : (goal : ℕ) → IsGoal d.nodes decision goal → (q : World) → InRange (states_of d.nodes) q → nat_abs (goal_part d.nodes p decision goal q) ≤ scope_product d.nodes decision * greatest_abs (node_at d.nodes goal).cells
    part_small goal is_goal q i = fit.gain goal q is_goal i
