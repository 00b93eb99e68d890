-- What a table of faults owes: a pass finds nothing or a fault, never both, and one fault at most.
use Rattle.std.specs.Prelude.{◌≡◌, ◌⊎◌, None, Some, Result}
use Rattle.first_fault.specs.Passes.{Pass}
use Rattle.first_fault.specs.Outcomes.{Outcomes}

-- it finds nothing or a fault
abbrev pub IsCovered : {Fault : Type 0} → Pass Fault → Type 0
IsCovered {Fault = Fault} P = P None ⊎ ((f : Fault) × P (Some f))

-- and never both
abbrev pub IsExclusive : {Fault : Type 0} → Pass Fault → Type 0
IsExclusive {Fault = Fault} P = (f : Fault) → P None → P (Some f) → ⊥

-- and one fault at most
abbrev pub HasOneFault : {Fault : Type 0} → Pass Fault → Type 0
HasOneFault {Fault = Fault} P = (f g : Fault) → P (Some f) → P (Some g) → f ≡ g

-- the faults that it finds look the same: have one status, one place ..
abbrev pub HasOne : {Fault Look : Type 0} → (Fault → Look) → Pass Fault → Type 0
HasOne {Fault = Fault} look P = (f g : Fault) → P (Some f) → P (Some g) → look f ≡ look g

-- the faults that it finds are all such
abbrev pub FindsOnly : {Fault : Type 0} → (Fault → Type 0) → Pass Fault → Type 0
FindsOnly {Fault = Fault} IsSuch P = (f : Fault) → P (Some f) → IsSuch f

-- all that comes looks the same
abbrev pub EndsAlike : {A Fault Look : Type 0} → (Result A Fault → Look) → Outcomes A Fault → Type 0
EndsAlike {A = A} {Fault = Fault} look C = (o p : Result A Fault) → C o → C p → look o ≡ look p
