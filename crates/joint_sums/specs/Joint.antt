-- Several goals of a decision summed together: the nodes of its scope, their first tables, and the
-- joint sum.
use Rattle.std.specs.Prelude.{◌↔◌, ℕ, ◌*◌, ◌<◌, not, ◌==◌, List, ◌∷◌, ◌++◌, length, map, filter, Contains}
use Rattle.finite_sums.specs.Sums.{World, nat_product_over}
use Rattle.maid_model.specs.Graph.{AllDifferent}
use Rattle.maid_model.specs.Nodes.{node_at, states_of, parents_of, is_utility}
use Rattle.maid_model.specs.Relevance.{IsGoal}
use Rattle.maid_model.specs.Scopes.{scope_of}
use Rattle.maid_model.specs.Tables.{weight_total}
use Rattle.maid_model.specs.Views.{NodeView, RuleView}
use Rattle.ring_sums.specs.Sums.{ring_sum_over}
use Rattle.ring_sums.specs.Tables.{Table, product_of}
use Rattle.plan_sums.specs.Plans.{Cells, has, node_table, utility_table}
use Rattle.plan_sums.specs.Sizes.{value_bound}

-- the chance and decision nodes of a decision's scope
abbrev pub scope_nodes : List NodeView → ℕ → List ℕ
scope_nodes nodes d = filter (λ v. not (is_utility (node_at nodes v).kind)) (scope_of nodes d)

-- those whose own tables are multiplied: all but the decision
abbrev pub joint_ruled : List NodeView → ℕ → List ℕ
joint_ruled nodes d = filter (λ v. not (v == d)) (scope_nodes nodes d)

-- those that are summed out: all but the decision and its parents
abbrev pub joint_summed : List NodeView → ℕ → List ℕ
joint_summed nodes d = filter (λ v. not (has (d ∷ parents_of nodes d) v)) (scope_nodes nodes d)

-- the first tables: of those nodes, and of the utilities
abbrev pub joint_tables :
    {C : Type 0} → Cells C → List NodeView → List RuleView → ℕ → List ℕ → List (Table C)
joint_tables c nodes p d us = map (λ v. node_table c nodes p v) (joint_ruled nodes d)
    ++ map (λ u. utility_table c nodes u) us

-- the joint sum at the states of the decision and its parents: over the states of the other nodes,
-- of the product of the first tables
abbrev pub joint_sum :
    {C : Type 0} → Cells C → List NodeView → List RuleView → ℕ → List ℕ → World → C
joint_sum c nodes p d us q = ring_sum_over c.ring (states_of nodes) (joint_summed nodes d)
    (product_of c.ring (joint_tables c nodes p d us)) q

-- the product of the totals of the tables, and of what bounds the utilities' cells
abbrev pub joint_bound : List NodeView → List RuleView → ℕ → List ℕ → ℕ
joint_bound nodes p d us = nat_product_over (weight_total nodes p) (joint_ruled nodes d)
    * nat_product_over (value_bound nodes) us

-- an order of elimination: each node that is summed out, once
pub record IsJointOrder (nodes : List NodeView) (d : ℕ) (steps : List ℕ) : Type 0 where
  pub once : AllDifferent steps
  pub all : (v : ℕ) → Contains steps v ↔ Contains (joint_summed nodes d) v

-- different goals of the decision, at least one
pub record AreGoals (nodes : List NodeView) (d : ℕ) (us : List ℕ) : Type 0 where
  pub some : 0 < length us
  pub different : AllDifferent us
  pub each : (u : ℕ) → Contains us u → IsGoal nodes d u
