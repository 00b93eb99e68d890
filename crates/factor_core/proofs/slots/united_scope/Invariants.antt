use Rattle.factor_core.proofs.Scoping.{IsUnitedSoFar}
use Rattle.factor_core.proofs.slots.united_scope.Given as goal

abbrev pub invariant-loop-slot : goal.invariant-loop-slot
invariant-loop-slot l = IsUnitedSoFar l.slots l.slot-index l.scope
