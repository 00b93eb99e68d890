use Rattle.std.proofs.Common.{◌≡◌, ◌-◌, length, take, drop, get_or}
use Rattle.node_sets.specs.Sets.{holds}
use Rattle.factor_core.specs.Tables.{states_in, stride_over, size_from, axes_of}
use Rattle.factor_core.proofs.setting.set_axes.Given as goal

-- the axes of the nodes from i on are written, and the size is that of the nodes from the i-th on
abbrev pub invariant-loop-i : goal.invariant-loop-i
invariant-loop-i l =
    (length l.axes ≡ length l.fn.axes)
    × (drop l.i (take (length l.kept) l.axes) ≡ axes_of (states_in l.counts) (stride_over l.counts l.scope) (drop l.i l.kept))
    × (l.size ≡ size_from (states_in l.counts) (holds l.scope) (get_or l.kept l.i (length l.counts)) (length l.counts - get_or l.kept l.i (length l.counts)))
