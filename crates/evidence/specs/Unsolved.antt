-- A fault of the solver as one of a diagram under evidence, and the stages once there is an order
-- of solving.
use Rattle.std.specs.Prelude.{◌≡◌, ℕ, Option, Some, None}
use Rattle.first_fault.specs.Passes.{Pass, ◌▸◌}
use Rattle.maid_model.specs.Views.{DiagramView}
use Rattle.rule_solver.specs.Faults.{solve_fault}
use Rattle.rule_solver.specs.Faults as solver
use Rattle.rule_solver.specs.declared.faults.SolveFault.{SolveFault}
use Rattle.evidence.specs.declared.faults.GivenFault.{GivenFault}
use Rattle.evidence.specs.Faults.{FaultView, given_fault, impossible_pass, limits_pass, unsolved}
use Rattle.evidence.specs.Faults.FaultView.{Unsolved}

-- the solver's fault as one under evidence, or that memory ran out
abbrev pub as_unsolved : Option solver.FaultView → Option FaultView
as_unsolved None = None
as_unsolved (Some fault) = Some (Unsolved fault)

-- the fault under evidence tells of the solver's fault
abbrev pub is_unsolved : SolveFault → GivenFault → Type 0
is_unsolved before after = given_fault after ≡ as_unsolved (solve_fault before)

-- the stages behind the order: the limits, and evidence that is impossible
abbrev pub ordered_pass : DiagramView → ℕ → ℕ → Pass FaultView
ordered_pass d x state = unsolved (limits_pass d x) ▸ impossible_pass d x state
