use Rattle.std.proofs.Common.{take}
use Rattle.weight_scale.specs.Rows.{shares, AppendsShares}
use Rattle.weight_scale.proofs.rows.push_raised.Given as goal

abbrev pub invariant-loop-number : goal.invariant-loop-number
invariant-loop-number l = AppendsShares l.fn.reduced.items l.reduced.items (shares l.decimals 1 (take l.number-index l.row)) l.total
