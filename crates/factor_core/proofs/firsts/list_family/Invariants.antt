use Rattle.std.proofs.Common.{◌≡◌, length, take}
use Rattle.factor_core.proofs.firsts.list_family.Given as goal

abbrev pub invariant-loop-i : goal.invariant-loop-i
invariant-loop-i l = (length l.list ≡ length l.fn.list) × (take l.i l.list ≡ take l.i l.parents)
