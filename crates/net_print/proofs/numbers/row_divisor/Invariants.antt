use Rattle.std.proofs.Common.{map, take, unsigned_abs}
use Rattle.net_print.proofs.Divisors.{IsGreatestDivisor}
use Rattle.net_print.proofs.numbers.row_divisor.Given as goal

-- the greatest divisor of the weights so far
abbrev pub invariant-loop-weight : goal.invariant-loop-weight
invariant-loop-weight l = IsGreatestDivisor (map unsigned_abs (take l.weight-index l.row)) l.divisor
