-- Each plan has a size, so a run in the order of solving has one; where that is small enough, no
-- plan has too many cells.
use Rattle.std.proofs.Common.{ℕ, List, [], ◌∷◌, map, refl}
use Rattle.std.specs.Prelude.{sum_by}
use Rattle.std.specs.List.{AllZip}
use Rattle.maid_model.specs.declared.limits.TheConstants.{MOST_PLAN_CELLS}
use Rattle.maid_model.specs.Bounds.{stopped}
use Rattle.maid_model.specs.Placing.{IsRelianceOrder}
use Rattle.maid_model.specs.Views.{NodeView, DiagramView}
use Rattle.plan_sums.specs.Plans.{PlanView}
use Rattle.rule_solver.specs.Faults.{IsSmallEnough}
use Rattle.rule_solver.specs.Laws.{MeasuredPlansHaveRoom}
use Rattle.rule_solver.specs.Rooms.{HasRoomForRun}
use Rattle.size_precheck.specs.declared.sizes.Size.{Size}
use Rattle.size_precheck.specs.Laws.{GreedyOrdersAreOrders, HasGreedyOrder}
use Rattle.size_precheck.specs.Sizes.{HasSize, IsSizeOfAll, greatest, plan_cells, plan_work, run_plans}

module _ (nodes : List NodeView) (some : HasGreedyOrder) (orders : GreedyOrdersAreOrders) where
  -- that of its greedy order
  plan_size : (plan : PlanView) → (size : Size) × HasSize nodes plan size
  plan_size plan =
      let greedy = some nodes plan in (
        record { cells = plan_cells nodes plan greedy.0; work = plan_work nodes plan greedy.0 },
        (greedy.0, record { plan = refl; greedy = greedy.1; order = orders nodes plan greedy.0 greedy.1; cells = refl; work = refl }),
      )

  plan_sizes : (plans : List PlanView) → (sizes : List Size) × AllZip (HasSize nodes) plans sizes
  plan_sizes [] = ([], tt)
  plan_sizes (plan ∷ plans) =
      let first = plan_size plan in
      let others = plan_sizes plans in
      (first.0 ∷ others.0, (first.1, others.1))

  size_of_plans : (plans : List PlanView) → (size : Size) × IsSizeOfAll nodes plans size
  size_of_plans plans =
      let sizes = plan_sizes plans in (
        record { cells = greatest (map (λ (s : Size). s.cells) sizes.0); work = stopped (sum_by (λ (s : Size). s.work) sizes.0) },
        record { sizes = sizes.0; each = sizes.1; cells = refl; work = refl },
      )

-- the plans of a small enough diagram have room
pub small_has_room : (d : DiagramView) (order : List ℕ) → HasGreedyOrder → GreedyOrdersAreOrders → MeasuredPlansHaveRoom → IsRelianceOrder d.nodes order → IsSmallEnough d → HasRoomForRun d.nodes MOST_PLAN_CELLS
small_has_room d order some orders measured is small =
    let sized = size_of_plans d.nodes some orders (run_plans d.nodes order) in
    measured d.nodes order sized.0 is sized.1 (small sized.0 (record { order = order; is_order = is; is_size = sized.1 })).cells
