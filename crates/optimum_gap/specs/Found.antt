-- What is found of an edit: a value, or the first reason why none stands there.
use Rattle.std.specs.Prelude.{◌≡◌, ℕ, List, Option, Some, None, Result, Ok, Err, IfOk}
use Rattle.first_fault.specs.Answers.{IsFaultOrNoMemory}
use Rattle.first_fault.specs.Outcomes.{◌▸▸◌, gives}
use Rattle.first_fault.specs.Passes.{Pass}
use Rattle.maid_model.specs.declared.answers.Ratio.{Ratio}
use Rattle.maid_model.specs.Values.{IsDifferenceOfOptima}
use Rattle.maid_model.specs.Views.{DiagramView}
use Rattle.arc_laws.specs.Worths.{nought_ratio}
use Rattle.rule_solver.specs.declared.faults.SolveFault.{SolveFault}
use Rattle.rule_solver.specs.Faults.{solve_fault, solve_pass}
use Rattle.rule_solver.specs.Faults as solver
use Rattle.optimum_gap.specs.declared.found.Found.{Found}
use Rattle.optimum_gap.specs.declared.found.Found.TheVariants as found

-- why no value stands there, with the plain list of a cycle
pub data Reason : Type 0 where
  Worthless : Reason
  Cycle : List ℕ → Reason
  Bound : Reason
  TooLarge : Reason

-- what is found: the value, or the reason
abbrev pub found_of : Found → Result Ratio Reason
found_of (found.Value r) = Ok r
found_of found.Worthless = Err Worthless
found_of (found.Cycle list) = Err (Cycle list.items)
found_of found.Bound = Err Bound
found_of found.TooLarge = Err TooLarge

-- the reason stands there unless that holds
abbrev pub unless : Type 0 → Reason → Pass Reason
unless Holds reason None = Holds
unless Holds reason (Some r) = (Holds → ⊥) × (r ≡ reason)

-- the solver refuses the diagram for that reason, or does not refuse it
abbrev pub reason_pass : DiagramView → Pass Reason
reason_pass d None = solve_pass d None
reason_pass d (Some Worthless) = ⊥
reason_pass d (Some (Cycle list)) = solve_pass d (Some (solver.Cycle list))
reason_pass d (Some Bound) = (node : Option ℕ) × solve_pass d (Some (solver.WeightBound node))
reason_pass d (Some TooLarge) = (cells work : ℕ) × solve_pass d (Some (solver.TooLarge cells work))

-- what an edit is worth, as far as that is told: nought where it is worthless
abbrev pub worth_of : Found → Option Ratio
worth_of (found.Value r) = Some r
worth_of found.Worthless = Some nought_ratio
worth_of (found.Cycle list) = None
worth_of found.Bound = None
worth_of found.TooLarge = None

-- what is told is a reason that the pass finds
abbrev pub refused_by : Pass Reason → Result Ratio Reason → Type 0
refused_by P (Ok r) = ⊥
refused_by P (Err reason) = P (Some reason)

-- what is found is a reason, which is the pass's
abbrev pub TellsReason : Pass Reason → Found → Type 0
TellsReason P found = refused_by P (found_of found)

-- the reason that stands for the solver's fault, whichever diagram is refused with it
abbrev pub TellsRefusal : {E : Type 0} → SolveFault → Result Found E → Type 0
TellsRefusal fault result = (d : DiagramView) → IsFaultOrNoMemory solve_fault (solve_pass d) fault
    → IfOk result (TellsReason (reason_pass d))

-- the edited diagram is refused for a reason, or its optimum less that of the diagram is found
abbrev pub IsGain : DiagramView → DiagramView → ℕ → Found → Type 0
IsGain d edited agent found = (reason_pass edited
    ▸▸ gives (IsDifferenceOfOptima edited.nodes d.nodes d.decimals agent)) (found_of found)

-- the same the other way round: what the diagram's optimum is above that of the edited one
abbrev pub IsLoss : DiagramView → DiagramView → ℕ → Found → Type 0
IsLoss d edited agent found = (reason_pass edited
    ▸▸ gives (IsDifferenceOfOptima d.nodes edited.nodes d.decimals agent)) (found_of found)
