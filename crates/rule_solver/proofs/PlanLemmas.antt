-- The plans of a decision and of a utility: their numbers fit, and their cells are numbers.
use Rattle.std.proofs.Common.{◌≡◌, ℕ, ◌*◌, ◌^◌, ◌<◌, ◌≤◌, max, List, refl, sym, subst, ℤ, pos, arith}
use Rattle.std.proofs.Math.Nat.{mul-le-mul, mul-le-mul_left}
use Rattle.cell_rings.specs.RingLaws.{gain_is_ring, mass_is_ring, mass_to_gain}
use Rattle.cell_rings.specs.Rings.{IsRing, gain_ring, most_size}
use Rattle.finite_sums.specs.Members.{Among}
use Rattle.finite_sums.specs.Sums.{World, nat_product_over}
use Rattle.maid_model.specs.Diagrams.{greatest_number}
use Rattle.maid_model.specs.Gains.{greatest_abs}
use Rattle.maid_model.specs.Nodes.{node_at}
use Rattle.maid_model.specs.Scopes.{goals_of, greatest_of, scope_bound, scope_bound_for, scope_product, scope_product_for, utilities_for}
use Rattle.maid_model.specs.Tables.{weight_total}
use Rattle.maid_model.specs.Views.{NodeView, DiagramView, RuleView}
use Rattle.plan_sums.specs.Laws.{IsCellMap}
use Rattle.plan_sums.specs.Plans.{Cells, PlanView, gain_cells, mass_cells, gain_plan, plan_sum, row_plan, ruled_nodes, worth_plan}
use Rattle.plan_sums.proofs.Products.{maps_plans}
use Rattle.eliminate.specs.Results.{plan_total}
use Rattle.scope_sums.proofs.Shares.{one_of_greatest, scale_some, tables_fit}

-- ---- cells as numbers
-- what a plan sums to in cells that are numbers is what it sums to in numbers
pub number_sum : {C : Type 0} (c : Cells C) (number : C → ℤ) → IsRing c.ring → IsCellMap c gain_cells number
    → (nodes : List NodeView) (p : List RuleView) (plan : PlanView) (q : World) → number (plan_sum c nodes p plan q) ≡ plan_sum gain_cells nodes p plan q
number_sum c number laws are nodes p plan q = maps_plans c gain_cells laws gain_is_ring number are nodes p plan q

-- masses as numbers with a sign, where no value counts
abbrev pub signed_masses : Cells ℤ
signed_masses = record { ring = gain_ring; weight = λ w. pos w; value = λ v. pos 1 }

-- the plan of a decision's rows has no utility, so it sums to a mass
pub rows_number : (nodes : List NodeView) (p : List RuleView) (d : ℕ) (q : World) → plan_sum gain_cells nodes p (row_plan nodes d) q ≡ pos (plan_sum mass_cells nodes p (row_plan nodes d) q)
rows_number nodes p d q = sym (maps_plans mass_cells signed_masses mass_is_ring gain_is_ring pos (record { ring = mass_to_gain; weight = λ w. refl; value = λ v. refl }) nodes p (row_plan nodes d) q)

-- ---- numbers that fit
-- the plan of a goal fits
pub goal_fits : (d : DiagramView) (p : List RuleView) (decision goal missing : ℕ) → 0 < missing → Among goal (goals_of d.nodes decision) → scope_bound d decision ≤ greatest_number
    → nat_product_over (weight_total d.nodes p) (ruled_nodes d.nodes (gain_plan d.nodes decision goal)) * missing ≤ scope_product d.nodes decision
    → 2 * plan_total d.nodes p (gain_plan d.nodes decision goal) ≤ most_size
goal_fits d p decision goal missing some listed bound within =
    tables_fit (nat_product_over (weight_total d.nodes p) (ruled_nodes d.nodes (gain_plan d.nodes decision goal))) missing (scope_product d.nodes decision) (10 ^ d.decimals) (greatest_abs (node_at d.nodes goal).cells) (greatest_of d.nodes (goals_of d.nodes decision))
    some within (scale_some d.decimals) (one_of_greatest d.nodes (goals_of d.nodes decision) goal listed) bound

-- the plan of a decision's rows fits
pub rows_fit : (d : DiagramView) (p : List RuleView) (decision missing : ℕ) → 0 < missing → scope_bound d decision ≤ greatest_number
    → nat_product_over (weight_total d.nodes p) (ruled_nodes d.nodes (row_plan d.nodes decision)) * missing ≤ scope_product d.nodes decision
    → 2 * plan_total d.nodes p (row_plan d.nodes decision) ≤ most_size
rows_fit d p decision missing some bound within =
    let tables = nat_product_over (weight_total d.nodes p) (ruled_nodes d.nodes (row_plan d.nodes decision)) in
    let none : 0 ≤ greatest_of d.nodes (goals_of d.nodes decision) = omega arith in
    subst (λ n. 2 * n ≤ most_size) (ones tables) (tables_fit tables missing (scope_product d.nodes decision) (10 ^ d.decimals) 0 (greatest_of d.nodes (goals_of d.nodes decision)) some within (scale_some d.decimals) none bound)
  where
    ones : (a : ℕ) → a * max 1 0 ≡ a * 1
    ones a = refl

-- the plan of a utility's worth fits
pub worth_fits : (d : DiagramView) (p : List RuleView) (agent utility missing : ℕ) → 0 < missing → Among utility (utilities_for d.nodes agent) → scope_bound_for d agent ≤ greatest_number
    → nat_product_over (weight_total d.nodes p) (ruled_nodes d.nodes (worth_plan utility)) * missing ≤ scope_product_for d.nodes agent
    → 2 * plan_total d.nodes p (worth_plan utility) ≤ most_size
worth_fits d p agent utility missing some listed bound within =
    tables_fit (nat_product_over (weight_total d.nodes p) (ruled_nodes d.nodes (worth_plan utility))) missing (scope_product_for d.nodes agent) (10 ^ d.decimals) (greatest_abs (node_at d.nodes utility).cells) (greatest_of d.nodes (utilities_for d.nodes agent))
    some within (scale_some d.decimals) (one_of_greatest d.nodes (utilities_for d.nodes agent) utility listed) bound

-- a product within P is within the bound, with the scale too
pub within_bound : (product scale all m : ℕ) → m ≤ product → product * max scale all ≤ greatest_number → m * scale ≤ greatest_number
within_bound product scale all m h bound = chain _ _ (mul-le-mul h (left scale all)) bound
  where
    left : (a b : ℕ) → a ≤ max a b
    left a b = omega arith

    chain : (a b : ℕ) → a ≤ b → b ≤ greatest_number → a ≤ greatest_number
    chain a b h k = omega (arith, h, k)

-- so is a number within P and the greatest values
pub values_bound : (product scale all m : ℕ) → m ≤ product * all → product * max scale all ≤ greatest_number → m ≤ greatest_number
values_bound product scale all m h bound = chain _ _ _ h (mul-le-mul_left product (right scale all)) bound
  where
    right : (a b : ℕ) → b ≤ max a b
    right a b = omega arith

    chain : (a b c : ℕ) → a ≤ b → b ≤ c → c ≤ greatest_number → a ≤ greatest_number
    chain a b c h k l = omega (arith, h, k, l)
