-- The product of a plan's totals, by the set of the nodes whose tables the plan has.
use Rattle.std.proofs.Common.{◌≡◌, ◌⊎◌, ◌↔◌, ℕ, ◌*◌, ◌≤◌, max, Bool, true, false, ◌||◌, eqb, List, Contains, Option, Some, None, refl, ap, arith}
use Rattle.std.specs.Prelude.{option_to_list}
use Rattle.std.proofs.Math.Nat.{mul-le-mul_left}
use Rattle.cell_rings.specs.Rings.{most_size}
use Rattle.eliminate.specs.Results.{greatest_value, plan_total}
use Rattle.finite_sums.specs.Sums.{nat_product_over}
use Rattle.maid_laws.proofs.Booleans.{eqb_same, eqb_yes}
use Rattle.maid_model.specs.Diagrams.{greatest_number}
use Rattle.maid_model.specs.Gains.{greatest_abs}
use Rattle.maid_model.specs.Nodes.{node_at}
use Rattle.maid_model.specs.Tables.{weight_total}
use Rattle.maid_model.specs.Views.{NodeView, RuleView}
use Rattle.node_sets.specs.declared.sets.NodeSet.{NodeSet}
use Rattle.node_sets.specs.Sets.{IsIn}
use Rattle.plan_sums.specs.Plans.{PlanView, has, ruled_nodes}
use Rattle.rule_solver.specs.Totals.{HasTotals, product_in}
use Rattle.size_precheck.specs.Sizes.{IsPlanned, SizedPlan}
use Rattle.rule_solver.proofs.GoalPlans.{plan_members}
use Rattle.rule_solver.proofs.Missing.{ruled_product}

-- the node that is left out, as a test
without_is : (o : Option ℕ) (v : ℕ) → (has (option_to_list o) v ≡ true) ↔ (o ≡ Some v)
without_is None v = ((λ e. absurd (cc)), (λ e. absurd (cc)))
without_is (Some d) v = ((λ e. ap Some (eqb_same d v (first (eqb d v) e))), (λ e. second (eqb d v) (eqb_yes d v (some_same e))))
  where
    first : (b : Bool) → (b || false) ≡ true → b ≡ true
    first true e = refl
    first false e = e

    second : (b : Bool) → b ≡ true → (b || false) ≡ true
    second true e = refl
    second false e = e

    some_same : {x y : ℕ} → Some x ≡ Some y → x ≡ y
    some_same {x} {y} e = ap (λ (o : Option ℕ). elim o as (λ _. ℕ) [ None ↦ x | Some n ↦ n ]) e

module _ (nodes : List NodeView) (p : List RuleView) (totals : List ℕ) (are : HasTotals nodes p totals) (asked : PlanView) (made : SizedPlan) (planned : IsPlanned nodes asked made) (ruled : NodeSet)
    (are_ruled : (v : ℕ) → IsIn ruled v ↔ ((Contains made.plan.keep v ⊎ Contains made.steps v) × (made.plan.without ≡ Some v → ⊥)))
  where
    -- the product of their listed totals is that of the plan's tables
    pub ruled_is : product_in totals ruled ≡ nat_product_over (weight_total nodes p) (ruled_nodes nodes made.plan)
    ruled_is = ruled_product nodes p totals are made.plan ruled (λ v. (
      (λ t. let r = (are_ruled v).0 t in ((plan_members nodes asked made planned v).0 r.0, (λ h. r.1 ((without_is made.plan.without v).0 h)))),
      (λ r. (are_ruled v).1 ((plan_members nodes asked made planned v).1 r.0, (λ e. r.1 ((without_is made.plan.without v).1 e)))),
    ))

    pub total_is : product_in totals ruled * greatest_value nodes made.plan.utility ≡ plan_total nodes p made.plan
    total_is = ap (λ n. n * greatest_value nodes made.plan.utility) ruled_is

-- a value is 1 at least
pub value_some : (nodes : List NodeView) (u : Option ℕ) → 1 ≤ greatest_value nodes u
value_some nodes None = omega arith
value_some nodes (Some u) = greater (greatest_abs (node_at nodes u).cells)
  where
    greater : (a : ℕ) → 1 ≤ max 1 a
    greater a = omega arith

-- so the product of the tables' totals is within the bound where twice the whole is within 128 bits
pub half_fits : (whole : ℕ) → 2 * whole ≤ most_size → whole ≤ greatest_number
half_fits whole h = omega (arith, h)

pub tables_within : (tables value whole : ℕ) → 1 ≤ value → tables * value ≡ whole → whole ≤ greatest_number → tables ≤ greatest_number
tables_within tables value whole some is h =
    let grow : tables * 1 ≤ tables * value = mul-le-mul_left tables some in
    chain tables (tables * value) whole grow is h
  where
    chain : (a b w : ℕ) → a * 1 ≤ b → b ≡ w → w ≤ greatest_number → a ≤ greatest_number
    chain a b w g e h = omega (arith, g, e, h)
