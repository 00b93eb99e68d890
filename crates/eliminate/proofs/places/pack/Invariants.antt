use Rattle.std.proofs.Common.{◌≡◌, length, take}
use Rattle.eliminate.proofs.places.pack.Given as goal

abbrev pub invariant-loop-i : goal.invariant-loop-i
invariant-loop-i l = (take l.i l.slots ≡ take l.i l.spare) × (length l.slots ≡ length l.fn.slots)
