-- What a caller may ask of the sums.
use Rattle.std.specs.Prelude.{ℕ, ◌≤◌, List, ◌++◌, Contains}
use Rattle.maid_model.specs.declared.limits.TheConstants.{MOST_PLAN_CELLS}
use Rattle.maid_model.specs.Placing.{IsRelianceOrder}
use Rattle.maid_model.specs.Views.{NodeView}
use Rattle.plan_sums.specs.Plans.{PlanView}
use Rattle.size_precheck.specs.declared.sizes.Size.{Size}
use Rattle.size_precheck.specs.Sizes.{IsSizeOfAll, IsSizeOfRun, ListsDecisions, run_plans}
use Rattle.rule_solver.specs.Rooms.{HasCellsAtMost, HasRoomForRun}

-- an order of solving lists each decision once
abbrev pub OrdersListDecisions : Type 0
OrdersListDecisions =
    (nodes : List NodeView) (order : List ℕ) → IsRelianceOrder nodes order → ListsDecisions nodes order

-- in an order that lists each decision once, each plan of a run has at most the cells of the run's
-- size
abbrev pub CountedRunsHaveRoom : Type 0
CountedRunsHaveRoom = (nodes : List NodeView) (order : List ℕ) (size : Size)
    → ListsDecisions nodes order → IsSizeOfRun nodes order size → HasRoomForRun nodes size.cells

-- where further plans are counted with those of such a run, each of all these plans has at most the
-- cells of their size
abbrev pub CountedPlansHaveRoom : Type 0
CountedPlansHaveRoom =
    (nodes : List NodeView) (order : List ℕ) (further : List PlanView) (size : Size)
    → ListsDecisions nodes order → IsSizeOfAll nodes (run_plans nodes order ++ further) size
    → HasRoomForRun nodes size.cells
    × ((plan : PlanView) → Contains further plan → HasCellsAtMost nodes plan size.cells)

-- where a run's greatest cells keep the limit, the plans of each decision and of each utility do
abbrev pub MeasuredPlansHaveRoom : Type 0
MeasuredPlansHaveRoom = (nodes : List NodeView) (order : List ℕ) (size : Size)
    → IsRelianceOrder nodes order → IsSizeOfRun nodes order size → size.cells ≤ MOST_PLAN_CELLS
    → HasRoomForRun nodes MOST_PLAN_CELLS
