-- The plans of a diagram under evidence, their sizes, and the room that they need.
use Rattle.std.specs.Prelude.{◌≡◌, ℕ, ◌<◌, List, [], ◌∷◌, ◌++◌, map, length, Option, Some, None}
use Rattle.maid_model.specs.declared.diagrams.Kind.TheVariants.{Utility}
use Rattle.maid_model.specs.Nodes.{node_at}
use Rattle.maid_model.specs.Placing.{IsRelianceOrder}
use Rattle.maid_model.specs.Views.{NodeView, DiagramView}
use Rattle.plan_sums.specs.Plans.{PlanView}
use Rattle.size_precheck.specs.declared.sizes.Size.{Size}
use Rattle.size_precheck.specs.Sizes.{plan_of, IsSizeOfAll, run_plans, utility_list}
use Rattle.rule_solver.specs.Faults.{KeepsPlanLimits}
use Rattle.rule_solver.specs.declared.spaces.Workspaces.{Workspaces}
use Rattle.rule_solver.specs.Rooms.{AreReady, HasCellsAtMost}

-- the plan that keeps x, perhaps with a utility: without one it sums to the weight of the worlds
-- with a state at x
abbrev pub plan_given : ℕ → Option ℕ → PlanView
plan_given x utility = plan_of (x ∷ []) None utility

-- the further plans: one without a utility, and one for each utility
abbrev pub further_plans : List NodeView → ℕ → List PlanView
further_plans nodes x = plan_given x None ∷ map (λ u. plan_given x (Some u)) (utility_list nodes)

-- all plans: those of a run in this order, and the further ones
abbrev pub plans_given : List NodeView → List ℕ → ℕ → List PlanView
plans_given nodes order x = run_plans nodes order ++ further_plans nodes x

-- this is the size of all plans in this order
abbrev pub IsSizeOfPlans : List NodeView → List ℕ → ℕ → Size → Type 0
IsSizeOfPlans nodes order x size = IsSizeOfAll nodes (plans_given nodes order x) size

-- this is the size of all plans, where x is given
pub record IsSizeGiven (d : DiagramView) (x : ℕ) (size : Size) : Type 0 where
  pub order : List ℕ
  pub is_order : IsRelianceOrder d.nodes order
  pub is_size : IsSizeOfPlans d.nodes order x size

-- no plan has too many cells, and all of them together have not too much work
abbrev pub IsSmallEnoughGiven : DiagramView → ℕ → Type 0
IsSmallEnoughGiven d x = (size : Size) → IsSizeGiven d x size → KeepsPlanLimits size

-- the plans have these cells and this work, which pass a limit
abbrev pub IsTooLargeGiven : DiagramView → ℕ → ℕ → ℕ → Type 0
IsTooLargeGiven d x cells work = IsSizeGiven d x (record { cells = cells; work = work })
    × (KeepsPlanLimits (record { cells = cells; work = work }) → ⊥)

-- so many cells are room for the further plans
pub record HasRoomGiven (nodes : List NodeView) (x cells : ℕ) : Type 0 where
  pub alone : HasCellsAtMost nodes (plan_given x None) cells
  pub utilities : (u : ℕ) → u < length nodes → (node_at nodes u).kind ≡ Utility
      → HasCellsAtMost nodes (plan_given x (Some u)) cells

-- the workspaces have no table, and room for the plan
abbrev pub HasSpaceFor : List NodeView → PlanView → Workspaces → Type 0
HasSpaceFor nodes plan spaces = (cells : ℕ) × AreReady cells spaces × HasCellsAtMost nodes plan cells

-- the workspaces have no table, and room for each of the further plans
abbrev pub HasSpace : List NodeView → ℕ → Workspaces → Type 0
HasSpace nodes x spaces = (cells : ℕ) × AreReady cells spaces × HasRoomGiven nodes x cells
