-- What a `?` hands on where memory ran out: it says nothing of the text, so that it passes whatever
-- rows.
use Rattle.std.proofs.Common.{◌≡◌, Result}
use Rattle.std.specs.Result.{IsErr, IsErrAnd}
use Rattle.first_fault.specs.Passes.{Pass}
use Rattle.first_fault.specs.Answers.{Passes}
use Rattle.first_fault.proofs.HandedOn.{hands_on}
use Rattle.net_build.specs.declared.faults.BuildFault.{BuildFault}
use Rattle.net_build.specs.declared.faults.BuildFault.TheVariants.{NoMemory}
use Rattle.net_build.specs.Passes.{Found, build_fault}

pub out_of_memory : {A : Type 0} (P : Pass Found) (r : Result A BuildFault) → IsErr r × IsErrAnd r (λ y. y ≡ NoMemory) → Passes build_fault P r
out_of_memory P r e = hands_on build_fault P r NoMemory e tt
