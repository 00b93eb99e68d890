use Rattle.std.proofs.Common.{◌≡◌, length, take}
use Rattle.node_sets.specs.Sets.{holds}
use Rattle.factor_core.specs.Copies.{steps_of}
use Rattle.factor_core.specs.Tables.{states_in, stride_of}
use Rattle.factor_core.proofs.setting.set_steps.Given as goal

abbrev pub invariant-loop-i : goal.invariant-loop-i
invariant-loop-i l = (length l.steps ≡ length l.fn.steps) × (take l.i l.steps ≡ steps_of (states_in l.counts) (stride_of (states_in l.counts) (length l.counts) (holds l.scope)) (take l.i l.order))
