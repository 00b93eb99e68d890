-- What refuses a diagram: the first that applies of the relevance cycle, the weight bound and too
-- large a run.
use Rattle.std.specs.Prelude.{ℕ, ◌≤◌, List, Option, Some, None}
use Rattle.first_fault.specs.Passes.{Pass, ◌▸◌}
use Rattle.maid_model.specs.declared.limits.TheConstants.{MOST_PLAN_CELLS, MOST_WORK}
use Rattle.maid_model.specs.Placing.{HasRelianceOrder, IsRelianceCycle, IsRelianceOrder}
use Rattle.maid_model.specs.Scopes.{KeepsScopedBounds}
use Rattle.maid_model.specs.Views.{DiagramView}
use Rattle.size_precheck.specs.declared.sizes.Size.{Size}
use Rattle.size_precheck.specs.Sizes.{IsSizeOfRun}
use Rattle.weight_scale.specs.Bound.{IsPassedAt, IsPassedByUtilities}
use Rattle.rule_solver.specs.declared.faults.SolveFault.{SolveFault}
use Rattle.rule_solver.specs.declared.faults.SolveFault.TheVariants as faults

-- a fault, with the plain list of its cycle
pub data FaultView : Type 0 where
  Cycle : List ℕ → FaultView
  WeightBound : Option ℕ → FaultView
  TooLarge : ℕ → ℕ → FaultView

-- the fault in an error, or None where memory ran out, which says nothing of the diagram
abbrev pub solve_fault : SolveFault → Option FaultView
solve_fault (faults.Cycle list) = Some (Cycle list.items)
solve_fault (faults.WeightBound node) = Some (WeightBound node)
solve_fault (faults.TooLarge cells work) = Some (TooLarge cells work)
solve_fault faults.NoMemory = None

-- an order of solving has all decisions, or the relevance cycle is found
abbrev pub cycle_pass : DiagramView → Pass FaultView
cycle_pass d None = HasRelianceOrder d.nodes
cycle_pass d (Some (Cycle list)) = (HasRelianceOrder d.nodes → ⊥) × IsRelianceCycle d.nodes list
cycle_pass d (Some fault) = ⊥

-- the weight bound is kept in each scope, or the place of the first that fails is found: a node, or
-- else the utilities
abbrev pub bound_pass : DiagramView → Pass FaultView
bound_pass d None = KeepsScopedBounds d
bound_pass d (Some (WeightBound (Some v))) = IsPassedAt d v
bound_pass d (Some (WeightBound None)) = IsPassedByUtilities d
bound_pass d (Some fault) = ⊥

-- this is the size of the run that solves the diagram in its order of solving
pub record IsRunSize (d : DiagramView) (size : Size) : Type 0 where
  pub order : List ℕ
  pub is_order : IsRelianceOrder d.nodes order
  pub is_size : IsSizeOfRun d.nodes order size

-- a size within both limits
pub record KeepsPlanLimits (size : Size) : Type 0 where
  pub cells : size.cells ≤ MOST_PLAN_CELLS
  pub work : size.work ≤ MOST_WORK

-- no plan of the diagram's run has too many cells, and all of them together have not too much work
abbrev pub IsSmallEnough : DiagramView → Type 0
IsSmallEnough d = (size : Size) → IsRunSize d size → KeepsPlanLimits size

-- the run has these cells and this work, which pass a limit
abbrev pub IsTooLarge : DiagramView → ℕ → ℕ → Type 0
IsTooLarge d cells work = IsRunSize d (record { cells = cells; work = work })
    × (KeepsPlanLimits (record { cells = cells; work = work }) → ⊥)

-- the run is small enough, or its size is found
abbrev pub size_pass : DiagramView → Pass FaultView
size_pass d None = IsSmallEnough d
size_pass d (Some (TooLarge cells work)) = IsTooLarge d cells work
size_pass d (Some fault) = ⊥

-- the stages of solving, one behind another
abbrev pub solve_pass : DiagramView → Pass FaultView
solve_pass d = cycle_pass d ▸ bound_pass d ▸ size_pass d
