-- What code answers. An error's view is its fault, or None where memory ran out.
use Rattle.std.specs.Prelude.{Option, None, Some, Result, Ok, Err}
use Rattle.first_fault.specs.Passes.{Pass}
use Rattle.first_fault.specs.Outcomes.{Outcomes, refusals}

-- that fault is the pass's first; where there is none, nothing is said
abbrev pub IsFoundIfAny : {Fault : Type 0} → Pass Fault → Option Fault → Type 0
IsFoundIfAny P None = Unit {0}
IsFoundIfAny P (Some f) = P (Some f)

-- an error tells the pass's first fault, or that memory ran out, which says nothing of the pass
abbrev pub IsFaultOrNoMemory : {E Fault : Type 0} → (E → Option Fault) → Pass Fault → E → Type 0
IsFaultOrNoMemory view P error = IsFoundIfAny P (view error)

-- a result is Ok where the pass finds nothing, and else tells its first fault or that memory ran
-- out
abbrev pub Passes : {A E Fault : Type 0} → (E → Option Fault) → Pass Fault → Result A E → Type 0
Passes view P (Ok x) = P None
Passes view P (Err error) = IsFaultOrNoMemory view P error

-- a result is what comes of the task, or tells that memory ran out
abbrev pub ComesOf :
    {A E Fault : Type 0} → (E → Option Fault) → Outcomes A Fault → Result A E → Type 0
ComesOf view C (Ok x) = C (Ok x)
ComesOf view C (Err error) = IsFaultOrNoMemory view (refusals C) error
