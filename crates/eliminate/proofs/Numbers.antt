-- The numbers of a plan's first tables fit, since each is at most its table's total.
use Rattle.std.proofs.Common.{◌≡◌, ◌≢◌, ◌⊎◌, ℕ, zero, suc, ◌+◌, ◌-◌, ◌*◌, ◌<◌, ◌≤◌, max, map, List, [], ◌∷◌, length, get_or, refl, sym, ap, subst, inl, inr, arith, All, Option, Some, None, ℤ, pos, nat_abs, ◌+ℤ◌, ◌≤ℤ◌, le_trans, suc-mul}
use Rattle.std.proofs.lemmas.Int.{ints}
use Rattle.std.proofs.lemmas.List.{get_or_default}
use Rattle.std.proofs.lemmas.Nat.{mul-le}
use Rattle.finite_sums.specs.Members.{Among}
use Rattle.finite_sums.specs.Sums.{sum_below, nat_product_over}
use Rattle.maid_model.specs.declared.diagrams.Kind.{Kind}
use Rattle.maid_model.specs.declared.diagrams.Kind.TheVariants.{Chance, Decision, Utility}
use Rattle.maid_model.specs.Gains.{greatest_abs}
use Rattle.maid_model.specs.Graph.{IsGraph}
use Rattle.maid_model.specs.Nodes.{node_at, states_of, rows_of}
use Rattle.maid_model.specs.Profiles.{IsProfile}
use Rattle.maid_model.specs.Tables.{IsTable, HasChanceTables, chance_total, total_by, weights_of, weight_total, rule_total}
use Rattle.maid_model.specs.Views.{NodeView, RuleView}
use Rattle.maid_laws.proofs.Tied.{tables_of, decision_of}
use Rattle.plan_sums.specs.Plans.{PlanView, ruled_nodes}
use Rattle.plan_sums.specs.Sizes.{plan_bound, value_bound_by}
use Rattle.plan_sums.proofs.Sized.{cell_le}
use Rattle.factor_core.specs.Operations.{NumbersFit, numbers_by}
use Rattle.eliminate.specs.Results.{greatest_value, plan_total}

-- ---- cells of a table
-- a term of a sum of which no term is below nought
nothing_below : (n : ℕ) (f : ℕ → ℤ) → ((i : ℕ) → pos 0 ≤ℤ f i) → pos 0 ≤ℤ sum_below n f
nothing_below zero f h = omega (arith, ints)
nothing_below (suc n) f h = omega (arith, ints, nothing_below n f h, h n)

term_below : (n : ℕ) (f : ℕ → ℤ) → ((i : ℕ) → pos 0 ≤ℤ f i) → (k : ℕ) → k < n → f k ≤ℤ sum_below n f
term_below zero f h k l = absurd (omega arith)
term_below (suc n) f h k l = go (last k n l) (λ m. term_below n f h k m)
  where
    last : (k n : ℕ) → k < suc n → (k ≡ n) ⊎ (k < n)
    last k n l = grind arith

    go : (k ≡ n) ⊎ (k < n) → (k < n → f k ≤ℤ sum_below n f) → f k ≤ℤ (sum_below n f +ℤ f n)
    go (inl e) r = subst (λ j. f j ≤ℤ (sum_below n f +ℤ f n)) (sym e) (omega (arith, ints, nothing_below n f h))
    go (inr m) r = omega (arith, ints, r m, h n)

-- a place by its row and its state
in_row : (rows states k : ℕ) → k < rows * states → (r : ℕ) × (s : ℕ) × (r < rows) × (s < states) × (k ≡ r * states + s)
in_row zero states k l = absurd (omega arith)
in_row (suc rows) states k l = go (here k (rows * states)) (in_row rows states k)
  where
    here : (k m : ℕ) → (k < m) ⊎ (m ≤ k)
    here k m = grind arith

    go : (k < rows * states) ⊎ (rows * states ≤ k) → (k < rows * states → (r : ℕ) × (s : ℕ) × (r < rows) × (s < states) × (k ≡ r * states + s)) → (r : ℕ) × (s : ℕ) × (r < suc rows) × (s < states) × (k ≡ r * states + s)
    go (inl m) rec = let a = rec m in let b = a.2 in (a.0, a.1, omega arith, a.3, a.4)
    go (inr m) rec = (rows, k - rows * states, omega arith, omega (arith, suc-mul rows states), omega arith)

cell_at_most : (cells : List ℤ) (rows states total : ℕ) → IsTable cells rows states total → (k : ℕ) → k < length cells → nat_abs (get_or cells k (pos 0)) ≤ total
cell_at_most cells rows states total t k l =
    let a = in_row rows states k (omega (arith, t.len)) in
    let most = subst (λ z. get_or cells (a.0 * states + a.1) (pos 0) ≤ℤ z) (t.row a.0 a.2) (term_below states (λ s. get_or cells (a.0 * states + s) (pos 0)) (λ s. t.not_negative (a.0 * states + s)) a.1 a.3) in
    let there = subst (λ j. get_or cells j (pos 0) ≤ℤ pos total) (sym a.4) most in
    narrow (get_or cells k (pos 0)) total (t.not_negative k) there
  where
    narrow : (z : ℤ) (n : ℕ) → pos 0 ≤ℤ z → z ≤ℤ pos n → nat_abs z ≤ n
    narrow z n a b = omega (arith, ints)

all_at_most : (cells : List ℤ) (total most : ℕ) → ((k : ℕ) → k < length cells → nat_abs (get_or cells k (pos 0)) ≤ total) → 2 * total ≤ most → All (λ z. 2 * nat_abs z ≤ most) cells
all_at_most cells total most h fits k d l =
    let e = h k l in subst (λ (z : ℤ). 2 * nat_abs z ≤ most) (get_or_default cells k (pos 0) d l) (omega arith)

-- ---- products of totals
product_some : (f : ℕ → ℕ) → ((v : ℕ) → 0 < f v) → (xs : List ℕ) → 1 ≤ nat_product_over f xs
product_some f h [] = omega arith
product_some f h (x ∷ xs) = mul-le 1 1 (f x) (nat_product_over f xs) (h x) (product_some f h xs)

factor_at_most : (f : ℕ → ℕ) → ((v : ℕ) → 0 < f v) → (xs : List ℕ) (v : ℕ) → Among v xs → f v ≤ nat_product_over f xs
factor_at_most f h [] v m = absurd m
factor_at_most f h (x ∷ xs) v (inl e) =
    let l : f x * 1 ≤ f x * nat_product_over f xs = mul-le (f x) 1 (f x) (nat_product_over f xs) (omega arith) (product_some f h xs) in
    subst (λ y. f y ≤ f x * nat_product_over f xs) (sym e) (omega (arith, l))
factor_at_most f h (x ∷ xs) v (inr m) =
    let l : 1 * f v ≤ f x * nat_product_over f xs = mul-le 1 (f v) (f x) (nat_product_over f xs) (h x) (factor_at_most f h xs v m) in
    omega arith

value_some : (nodes : List NodeView) (o : Option ℕ) → 1 ≤ greatest_value nodes o
value_some nodes None = omega arith
value_some nodes (Some u) = omega arith

-- ---- the numbers of one node
module _ (nodes : List NodeView) (p : List RuleView) (most : ℕ) where
  -- where its total fits twice
  pub node_numbers : HasChanceTables nodes → IsProfile nodes p → (v : ℕ) → 2 * weight_total nodes p v ≤ most → (node_at nodes v).kind ≢ Utility → NumbersFit most nodes p v
  node_numbers chance profile v fits plain = by_kind (node_at nodes v).kind refl
    where
      by_kind : (k : Kind) → (node_at nodes v).kind ≡ k → NumbersFit most nodes p v
      by_kind Chance e =
          let total : weight_total nodes p v ≡ chance_total nodes v = ap (λ k. total_by k (chance_total nodes v) (rule_total p v)) e in
          let cells = (node_at nodes v).cells in
          subst (λ k. All (λ z. 2 * nat_abs z ≤ most) (numbers_by k cells (weights_of p v))) (sym e)
          (all_at_most cells (chance_total nodes v) most (cell_at_most cells (rows_of nodes v) (states_of nodes v) (chance_total nodes v) (chance.table v e)) (subst (λ t. 2 * t ≤ most) total fits))
      by_kind Decision e =
          let total : weight_total nodes p v ≡ rule_total p v = ap (λ k. total_by k (chance_total nodes v) (rule_total p v)) e in
          let cells = map pos (weights_of p v) in
          subst (λ k. All (λ z. 2 * nat_abs z ≤ most) (numbers_by k (node_at nodes v).cells (weights_of p v))) (sym e)
          (all_at_most cells (rule_total p v) most (cell_at_most cells (rows_of nodes v) (states_of nodes v) (rule_total p v) (profile.rule v (decision_of nodes v e)).table) (subst (λ t. 2 * t ≤ most) total fits))
      by_kind Utility e = absurd (plain e)

  -- where a utility's greatest value does
  pub value_numbers : (u : ℕ) → 2 * greatest_abs (node_at nodes u).cells ≤ most → (node_at nodes u).kind ≡ Utility → NumbersFit most nodes p u
  value_numbers u fits e =
      let cells = (node_at nodes u).cells in
      subst (λ k. All (λ z. 2 * nat_abs z ≤ most) (numbers_by k cells (weights_of p u))) (sym e)
      (all_at_most cells (greatest_abs cells) most (λ k l. cell_le cells k) fits)

-- ---- the numbers of a plan
module _ (nodes : List NodeView) (p : List RuleView) (plan : PlanView) (most : ℕ) (graph : IsGraph nodes) (chance : HasChanceTables nodes) (profile : IsProfile nodes p) (fits : 2 * plan_total nodes p plan ≤ most) where
  positive : (v : ℕ) → 0 < weight_total nodes p v
  positive = (tables_of nodes p graph chance profile).positive

  abbrev product : ℕ
  product = nat_product_over (weight_total nodes p) (ruled_nodes nodes plan)

  total_fits : (v : ℕ) → Among v (ruled_nodes nodes plan) → 2 * weight_total nodes p v ≤ most
  total_fits v m =
      let l : weight_total nodes p v * 1 ≤ product * greatest_value nodes plan.utility = mul-le (weight_total nodes p v) 1 product (greatest_value nodes plan.utility) (factor_at_most (weight_total nodes p) positive (ruled_nodes nodes plan) v m) (value_some nodes plan.utility) in
      omega arith

  value_fits : 2 * greatest_value nodes plan.utility ≤ most
  value_fits =
      let l : 1 * greatest_value nodes plan.utility ≤ product * greatest_value nodes plan.utility = mul-le 1 (greatest_value nodes plan.utility) product (greatest_value nodes plan.utility) (product_some (weight_total nodes p) positive (ruled_nodes nodes plan)) (omega arith) in
      omega arith

  -- of a node with its own table
  pub ruled_fit : (v : ℕ) → Among v (ruled_nodes nodes plan) → (node_at nodes v).kind ≢ Utility → NumbersFit most nodes p v
  ruled_fit v m plain = node_numbers nodes p most chance profile v (total_fits v m) plain

  -- of the utility
  pub value_fit : (u : ℕ) → plan.utility ≡ Some u → (node_at nodes u).kind ≡ Utility → NumbersFit most nodes p u
  value_fit u some e =
      let most_here : 2 * greatest_value nodes (Some u) ≤ most = subst (λ o. 2 * greatest_value nodes o ≤ most) some value_fits in
      value_numbers nodes p most u (omega (arith, most_here)) e

  -- the bound of all sums on the way
  pub bound_fits : plan_bound nodes p plan ≤ most
  bound_fits = le_trans (no_more plan.utility) fits
    where
      no_more : (o : Option ℕ) → product * value_bound_by nodes o ≤ 2 * (product * greatest_value nodes o)
      no_more None = omega arith
      no_more (Some u) = twice product (max 1 (greatest_abs (node_at nodes u).cells))
        where
          twice : (a b : ℕ) → a * (2 * b) ≤ 2 * (a * b)
          twice a b = grind arith
