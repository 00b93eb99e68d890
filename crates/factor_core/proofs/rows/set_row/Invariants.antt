use Rattle.std.proofs.Common.{◌≡◌, ◌+◌, ◌++◌, length, take, drop}
use Rattle.factor_core.specs.Tables.{stride_row}
use Rattle.factor_core.specs.Rows.{sizes_from}
use Rattle.factor_core.proofs.rows.set_row.Given as goal

-- the first slots' strides are written and their sizes taken in, and all else is as it was
abbrev pub invariant-loop-j : goal.invariant-loop-j
invariant-loop-j l =
    (length l.strides ≡ length l.fn.strides)
    × (length l.sizes ≡ length l.fn.sizes)
    × (take (l.from + l.j) l.strides ≡ take l.from l.fn.strides ++ stride_row l.counts (take l.j l.slots) l.node)
    × (drop (l.from + l.j) l.strides ≡ drop (l.from + l.j) l.fn.strides)
    × (take l.j l.sizes ≡ sizes_from l.counts (take l.j l.slots) l.node)
    × (drop l.j l.sizes ≡ drop l.j l.fn.sizes)
