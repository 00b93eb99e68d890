use Rattle.std.proofs.Common.{take}
use Rattle.weight_scale.specs.Plain.{AddsUpTo}
use Rattle.weight_scale.proofs.plain.total_within.Given as goal

abbrev pub invariant-loop-number : goal.invariant-loop-number
invariant-loop-number l = AddsUpTo (take l.number-index l.row) l.total
