use Rattle.weight_scale.proofs.PlainParts.{SharesFirst}
use Rattle.weight_scale.proofs.plain.share_none.Given as goal

abbrev pub invariant-loop-number : goal.invariant-loop-number
invariant-loop-number l = SharesFirst l.numbers l.number-index l.divisor
