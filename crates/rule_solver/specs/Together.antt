-- Goals of a decision that are summed together. Only private functions cite this file.
use Rattle.std.specs.Prelude.{◌≡◌, ℕ, ◌*◌, ◌<◌, ◌≤◌, List, take, Option, Some, None, MatchOption}
use Rattle.cell_rings.specs.Rings.{most_size}
use Rattle.finite_sums.specs.Sums.{nat_product_over}
use Rattle.joint_sums.specs.Joint.{IsJointOrder, joint_ruled}
use Rattle.maid_model.specs.Tables.{weight_total}
use Rattle.maid_model.specs.Views.{NodeView, RuleView}
use Rattle.plan_sums.specs.Sizes.{value_bound}
use Rattle.size_precheck.specs.Sizes.{SizedPlan}
use Rattle.rule_solver.specs.declared.joint_goals.JointSums.{JointSums}

-- the number of a plan's utility, and 0 where it has none, which plans of goals never lack
abbrev pub utility_of_plan : Option ℕ → ℕ
utility_of_plan (Some u) = u
utility_of_plan None = 0

-- the goal whose plan it is
abbrev pub goal_in : SizedPlan → ℕ
goal_in plan = utility_of_plan plan.plan.utility

-- what the joint sums of a decision's goals share: the nodes with their own tables, an order of the
-- other nodes, and the product of those tables' totals
pub record IsJoint
    (nodes : List NodeView) (p : List RuleView) (d : ℕ) (joint : JointSums) : Type 0 where
  pub ruled : joint.ruled.items ≡ joint_ruled nodes d
  pub order : IsJointOrder nodes d joint.steps.now
  pub total : joint.total ≡ nat_product_over (weight_total nodes p) (joint_ruled nodes d)

-- the bound with one goal more, which fits
abbrev pub IsBoundWith : List NodeView → ℕ → ℕ → ℕ → Type 0
IsBoundWith nodes bound goal more = (more ≡ bound * value_bound nodes goal) × (more ≤ most_size)

-- with one goal more a bound of some size is too great
abbrev pub HasNoBoundWith : List NodeView → ℕ → ℕ → Type 0
HasNoBoundWith nodes bound goal = 0 < bound → most_size < bound * value_bound nodes goal

-- so the program has the bound with one goal more, or none where it is too great
abbrev pub IsBoundOrNone : List NodeView → ℕ → ℕ → Option ℕ → Type 0
IsBoundOrNone nodes bound goal result =
    MatchOption result (HasNoBoundWith nodes bound goal) (IsBoundWith nodes bound goal)

-- cells of pairs surely hold the joint sum of these goals
abbrev pub FitsPairs : List NodeView → ℕ → List ℕ → Type 0
FitsPairs nodes total us = total * nat_product_over (value_bound nodes) us ≤ most_size

-- they hold that of the first so many goals, where there are any of these
abbrev pub FitsPairsOfFirst : List NodeView → ℕ → List ℕ → ℕ → Type 0
FitsPairsOfFirst nodes total us n = 0 < n → FitsPairs nodes total (take n us)
