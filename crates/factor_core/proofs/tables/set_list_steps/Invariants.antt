use Rattle.std.proofs.Common.{◌≡◌, length, take}
use Rattle.factor_core.specs.Copies.{steps_of, list_stride}
use Rattle.factor_core.specs.Tables.{states_in}
use Rattle.factor_core.proofs.tables.set_list_steps.Given as goal

abbrev pub invariant-loop-i : goal.invariant-loop-i
invariant-loop-i l = (length l.steps ≡ length l.fn.steps) × (take l.i l.steps ≡ steps_of (states_in l.counts) (list_stride (states_in l.counts) l.list) (take l.i l.order))
