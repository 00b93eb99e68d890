use Rattle.std.proofs.Common.{◌≡◌, drop}
use Rattle.factor_core.specs.Copies.{list_stride}
use Rattle.factor_core.specs.Tables.{states_in}
use Rattle.factor_core.proofs.tables.stride_in.Given as goal

abbrev pub invariant-loop-i : goal.invariant-loop-i
invariant-loop-i l = list_stride (states_in l.counts) (drop l.i l.list) l.node ≡ list_stride (states_in l.counts) l.list l.node
