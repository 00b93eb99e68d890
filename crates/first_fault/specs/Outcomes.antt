-- What comes of a task that has stages: the first fault of its stages, one behind another, or what
-- it gives where they find nothing.
use Rattle.std.specs.Prelude.{◌⊎◌, List, None, Some, Result, Ok, Err}
use Rattle.first_fault.specs.Passes.{Pass, each}

-- What comes of a task: C (Ok x) says that it gives x, and C (Err f) that it is refused with f.
abbrev pub Outcomes : Type 0 → Type 0 → Type 1
Outcomes A Fault = Result A Fault → Type 0

-- it gives what is such, and is never refused
abbrev pub gives : {A Fault : Type 0} → (A → Type 0) → Outcomes A Fault
gives IsSuch (Ok x) = IsSuch x
gives IsSuch (Err f) = ⊥

infixr 20 ◌▸▸◌
-- the pass, and then the task
abbrev pub ◌▸▸◌ : {A Fault : Type 0} → Pass Fault → Outcomes A Fault → Outcomes A Fault
(P ▸▸ C) (Ok x) = P None × C (Ok x)
(P ▸▸ C) (Err f) = P (Some f) ⊎ (P None × C (Err f))

-- these stages over a value, one behind another, and then what is such of the value
abbrev pub staged :
    {S D A Fault : Type 0} → (S → D → Pass Fault) → List S → (D → A → Type 0) → D → Outcomes A Fault
staged Finds stages IsOf d = each (λ s. Finds s d) stages ▸▸ gives (IsOf d)

-- the pass that a task is: nothing is found where it gives something
abbrev pub refusals : {A Fault : Type 0} → Outcomes A Fault → Pass Fault
refusals {A = A} C None = (x : A) × C (Ok x)
refusals C (Some f) = C (Err f)
