-- What a `?` hands on: a fault is the first after it as before, and where memory ran out nothing is
-- said of the diagram.
use Rattle.std.proofs.Common.{◌≡◌, Option, None, Some, Result, Ok, Err, inl, inr}
use Rattle.std.proofs.lemmas.Result.{err_from_is_err_and}
use Rattle.std.specs.Result.{IsErr, IsErrAnd}
use Rattle.first_fault.specs.Passes.{Pass, ◌▸◌}
use Rattle.first_fault.specs.Answers.{IsFoundIfAny, Passes}
use Rattle.first_fault.proofs.HandedOn.{hands_on}
use Rattle.first_fault.proofs.Leading.{refused_first}
use Rattle.rule_solver.specs.Faults as solver
use Rattle.rule_solver.specs.declared.faults.SolveFault.{SolveFault}
use Rattle.rule_solver.specs.declared.faults.SolveFault.TheVariants as solver_faults
use Rattle.evidence.specs.declared.faults.GivenFault.{GivenFault}
use Rattle.evidence.specs.declared.faults.GivenFault.TheVariants as faults
use Rattle.evidence.specs.Faults.{FaultView, given_fault, unsolved}
use Rattle.evidence.specs.Faults.FaultView.{BelowDecision, Impossible, RulesTooLarge, Unsolved}
use Rattle.evidence.specs.Unsolved.{as_unsolved, is_unsolved}

-- the rows behind it aren't looked at
pub first_fault : {A E Fault : Type 0} (view : E → Option Fault) (P Q : Pass Fault) (before : E) (r : Result A E) → IsFoundIfAny P (view before) → IsErr r × IsErrAnd r (λ y. y ≡ before) → Passes view (P ▸ Q) r
first_fault view P Q before r h e = hands_on view (P ▸ Q) r before e (refused_first P Q (view before) h)

-- the solver's first fault is the first under evidence
pub solver_fault : {A : Type 0} (P : Pass solver.FaultView) (Q : Pass FaultView) (before : SolveFault) (r : Result A GivenFault) → IsFoundIfAny P (solver.solve_fault before) → IsErr r × IsErrAnd r (is_unsolved before) → Passes given_fault (unsolved P ▸ Q) r
solver_fault P Q before r h e = let p = err_from_is_err_and r e.1 in rw (p.1, p.2) (first (solver.solve_fault before) h)
  where
    first : (told : Option solver.FaultView) → IsFoundIfAny P told → IsFoundIfAny (unsolved P ▸ Q) (as_unsolved told)
    first None h = tt
    first (Some f) h = inl h

-- the solver's next rows, where the first find nothing
pub solver_on : {A : Type 0} (P Q : Pass solver.FaultView) (R : Pass FaultView) (r : Result A GivenFault) → P None → Passes given_fault (unsolved Q ▸ R) r → Passes given_fault (unsolved (P ▸ Q) ▸ R) r
solver_on P Q R (Ok x) p h = ((p, h.0), h.1)
solver_on P Q R (Err fault) p h = told (given_fault fault) h
  where
    own : (f : FaultView) → unsolved Q (Some f) → unsolved (P ▸ Q) (Some f)
    own (Unsolved f) q = inr (p, q)
    own BelowDecision q = q
    own RulesTooLarge q = q
    own Impossible q = q

    told : (t : Option FaultView) → IsFoundIfAny (unsolved Q ▸ R) t → IsFoundIfAny (unsolved (P ▸ Q) ▸ R) t
    told None h = tt
    told (Some f) (inl q) = inl (own f q)
    told (Some f) (inr r) = inr ((p, r.0), r.1)

pub out_of_memory : {A : Type 0} (P : Pass FaultView) (r : Result A GivenFault) → IsErr r × IsErrAnd r (λ y. y ≡ faults.NoMemory) → Passes given_fault P r
out_of_memory P r e = hands_on given_fault P r faults.NoMemory e tt

pub solver_out_of_memory : {A : Type 0} (P : Pass solver.FaultView) (r : Result A SolveFault) → IsErr r × IsErrAnd r (λ y. y ≡ solver_faults.NoMemory) → Passes solver.solve_fault P r
solver_out_of_memory P r e = hands_on solver.solve_fault P r solver_faults.NoMemory e tt
