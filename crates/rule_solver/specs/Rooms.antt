-- What the plans of a run ask for: room for their cells.
use Rattle.std.specs.Prelude.{◌≡◌, ℕ, ◌<◌, ◌≤◌, ◌*◌, min, All, IfSome, List, Option, [], length}
use Rattle.maid_model.specs.declared.diagrams.Kind.TheVariants.{Utility}
use Rattle.maid_model.specs.declared.limits.TheConstants.{MOST_PLAN_CELLS}
use Rattle.maid_model.specs.Nodes.{IsDecision, node_at}
use Rattle.maid_model.specs.Relevance.{IsGoal}
use Rattle.maid_model.specs.Views.{NodeView}
use Rattle.plan_sums.specs.Plans.{PlanView, row_plan, gain_plan, worth_plan}
use Rattle.factor_core.specs.Slots.{WorkspaceView}
use Rattle.size_precheck.specs.declared.joint_orders.TheConstants.{MOST_PAIR_CELLS}
use Rattle.size_precheck.specs.Sizes.{SizedPlan, IsMade}
use Rattle.rule_solver.specs.declared.spaces.Workspaces.{Workspaces}

-- the plan has at most so many cells
abbrev pub HasCellsAtMost : List NodeView → PlanView → ℕ → Type 0
HasCellsAtMost nodes plan cells = (made : SizedPlan) → IsMade nodes plan made → made.size.cells ≤ cells

-- so do the plans of a decision: that of its rows, and those of its goals
pub record HasRoomForDecision (nodes : List NodeView) (d cells : ℕ) : Type 0 where
  pub rows : HasCellsAtMost nodes (row_plan nodes d) cells
  pub goals : (u : ℕ) → IsGoal nodes d u → HasCellsAtMost nodes (gain_plan nodes d u) cells

-- and that of a node's worth, if the node is a utility
abbrev pub HasRoomForWorth : List NodeView → ℕ → ℕ → Type 0
HasRoomForWorth nodes u cells =
    (node_at nodes u).kind ≡ Utility → HasCellsAtMost nodes (worth_plan u) cells

-- and those of all utilities' worths
abbrev pub HasRoomForWorths : List NodeView → ℕ → Type 0
HasRoomForWorths nodes cells = (u : ℕ) → u < length nodes → HasRoomForWorth nodes u cells

-- so do all plans of a run
pub record HasRoomForRun (nodes : List NodeView) (cells : ℕ) : Type 0 where
  pub decisions : (d : ℕ) → IsDecision nodes d → HasRoomForDecision nodes d cells
  pub worths : HasRoomForWorths nodes cells

-- these cells are at most every number that is no less than `fewest` and than the cells of each of
-- the plans
abbrev pub AreNeededForPlans : ℕ → List SizedPlan → ℕ → Type 0
AreNeededForPlans fewest plans cells =
    (n : ℕ) → fewest ≤ n → All (λ plan. plan.size.cells ≤ n) plans → cells ≤ n

-- a workspace within the limit has no table and room for so many cells
pub record IsEmptyWithin {C : Type 0} (cells : ℕ) (work : WorkspaceView C) : Type 0 where
  pub empty : work.cells ≡ []
  pub spare : work.spare ≡ cells
  pub limit : cells ≤ MOST_PLAN_CELLS

-- so are two of three workspaces, and that of pairs with its own room
pub record AreReady (cells : ℕ) (spaces : Workspaces) : Type 0 where
  pub small : IsEmptyWithin cells spaces.small
  pub wide : IsEmptyWithin cells spaces.wide
  pub pairs : IsEmptyWithin spaces.pair_cells spaces.pairs
  pub room : spaces.cells ≡ cells
  pub pair_cells : spaces.pair_cells ≡ min (4 * cells) MOST_PAIR_CELLS

-- a workspace is ready, and has room for the plan
abbrev pub IsReadyFor : {C : Type 0} → List NodeView → PlanView → WorkspaceView C → Type 0
IsReadyFor nodes plan work = (cells : ℕ) × IsEmptyWithin cells work × HasCellsAtMost nodes plan cells

-- two workspaces are ready, and have room for the plan
abbrev pub AreReadyFor :
    {C D : Type 0} → List NodeView → PlanView → WorkspaceView C → WorkspaceView D → Type 0
AreReadyFor nodes plan small wide =
    (cells : ℕ) × IsEmptyWithin cells small × IsEmptyWithin cells wide × HasCellsAtMost nodes plan cells

-- two workspaces are ready, and have room for the plans of all utilities' worths
abbrev pub AreBothReadyForWorths :
    {C D : Type 0} → List NodeView → WorkspaceView C → WorkspaceView D → Type 0
AreBothReadyForWorths nodes small wide =
    (cells : ℕ) × IsEmptyWithin cells small × IsEmptyWithin cells wide × HasRoomForWorths nodes cells

-- the workspaces are ready, and have room for the plan
abbrev pub AreReadyForPlan : List NodeView → PlanView → Workspaces → Type 0
AreReadyForPlan nodes plan spaces =
    (cells : ℕ) × AreReady cells spaces × HasCellsAtMost nodes plan cells

-- the workspaces are ready, and have room for the decision's plans
abbrev pub AreReadyForDecision : List NodeView → ℕ → Workspaces → Type 0
AreReadyForDecision nodes d spaces =
    (cells : ℕ) × AreReady cells spaces × HasRoomForDecision nodes d cells

-- and for the plans of every decision
abbrev pub AreReadyForDecisions : List NodeView → Workspaces → Type 0
AreReadyForDecisions nodes spaces = (cells : ℕ) × AreReady cells spaces
    × ((d : ℕ) → IsDecision nodes d → HasRoomForDecision nodes d cells)

-- and for all plans of a run
abbrev pub AreReadyForRun : List NodeView → Workspaces → Type 0
AreReadyForRun nodes spaces = (cells : ℕ) × AreReady cells spaces × HasRoomForRun nodes cells

-- and for the plans of all utilities' worths
abbrev pub AreReadyForWorths : List NodeView → Workspaces → Type 0
AreReadyForWorths nodes spaces =
    (cells : ℕ) × AreReady cells spaces × HasRoomForWorths nodes cells

-- the workspaces are ready, and have room for the plans of the decision's goals
abbrev pub AreReadyForGoals : List NodeView → ℕ → Workspaces → Type 0
AreReadyForGoals nodes d spaces = (cells : ℕ) × AreReady cells spaces
    × ((u : ℕ) → IsGoal nodes d u → HasCellsAtMost nodes (gain_plan nodes d u) cells)

-- workspaces that a run has left, if any are, are ready again
abbrev pub AreLeft : Option Workspaces → Type 0
AreLeft left = IfSome left (λ spaces. AreReady spaces.cells spaces)

-- they are used again where they have room for so many cells
abbrev pub AreThoseLeft : Option Workspaces → ℕ → Workspaces → Type 0
AreThoseLeft left cells spaces = IfSome left (λ own. cells ≤ own.cells → spaces ≡ own)
