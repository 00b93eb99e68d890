use Rattle.std.proofs.Common.{take}
use Rattle.weight_scale.specs.Rows.{IsFinest}
use Rattle.weight_scale.proofs.rows.finest.Given as goal

abbrev pub invariant-loop-number : goal.invariant-loop-number
invariant-loop-number l = IsFinest (take l.number-index l.row) l.finest.size l.finest.decimals
