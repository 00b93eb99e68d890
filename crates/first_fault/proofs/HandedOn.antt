-- What a `?` hands on: the fault as it is.
use Rattle.std.proofs.Common.{◌≡◌, Option, Result}
use Rattle.std.proofs.lemmas.Result.{err_from_is_err_and}
use Rattle.std.specs.Result.{IsErr, IsErrAnd}
use Rattle.first_fault.specs.Passes.{Pass}
use Rattle.first_fault.specs.Answers.{IsFaultOrNoMemory, Passes}

pub hands_on : {A E Fault : Type 0} (view : E → Option Fault) (P : Pass Fault) (r : Result A E) (fault : E) → IsErr r × IsErrAnd r (λ y. y ≡ fault) → IsFaultOrNoMemory view P fault → Passes view P r
hands_on view P r fault e h = let p = err_from_is_err_and r e.1 in rw (p.1, p.2) h
