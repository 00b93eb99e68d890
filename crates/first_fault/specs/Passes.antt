-- Passes: each finds its first fault, or nothing. A table of faults is written down in these words,
-- row by row.
use Rattle.std.specs.Prelude.{◌≡◌, ◌⊎◌, Bool, true, false, List, [], ◌∷◌, ◌++◌, Option, None, Some}

-- What a pass finds: P None says that it finds nothing, and P (Some f) that f is the first fault it
-- finds.
abbrev pub Pass : Type 0 → Type 1
Pass Fault = Option Fault → Type 0

-- nothing is ever found
abbrev pub clear : {Fault : Type 0} → Pass Fault
clear None = Unit {0}
clear (Some f) = ⊥

-- one row of a table: the fault is found where it applies
abbrev pub rule : {Fault : Type 0} → Type 0 → Fault → Pass Fault
rule Applies fault None = Applies → ⊥
rule Applies fault (Some f) = Applies × (f ≡ fault)

-- the fault is found
abbrev pub always : {Fault : Type 0} → Fault → Pass Fault
always fault = rule (Unit {0}) fault

-- the rows behind it count where the test holds
abbrev pub only : {Fault : Type 0} → Bool → Pass Fault → Pass Fault
only true P = P
only false P = clear

infixr 20 ◌▸◌
-- the one pass and then the other
abbrev pub ◌▸◌ : {Fault : Type 0} → Pass Fault → Pass Fault → Pass Fault
(P ▸ Q) None = P None × Q None
(P ▸ Q) (Some f) = P (Some f) ⊎ (P None × Q (Some f))

-- each item in turn, from left to right
abbrev pub each : {A Fault : Type 0} → (A → Pass Fault) → List A → Pass Fault
each P [] = clear
each P (x ∷ xs) = P x ▸ each P xs

-- the same where each item sees those before it
abbrev pub each_after :
    {A Fault : Type 0} → (List A → A → Pass Fault) → List A → List A → Pass Fault
each_after P earlier [] = clear
each_after P earlier (x ∷ xs) = P earlier x ▸ each_after P (earlier ++ x ∷ []) xs

-- the pass over the value of which that holds; and so with outcomes
abbrev pub over : {A O : Type 0} → (A → Type 0) → (A → O → Type 0) → O → Type 0
over {A = A} IsIt P outcome = (x : A) × IsIt x × P x outcome
