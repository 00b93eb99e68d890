use Rattle.std.proofs.Common.{◌≡◌, ℕ, ◌<◌, ◌≤◌, length, take, get_or}
use Rattle.factor_core.specs.Rows.{sizes_from, HasStrideRow, row_beside}
use Rattle.factor_core.proofs.rows.set_rows.Given as goal

-- the rows of the nodes from i on that are in the range are written, and their states taken in
abbrev pub invariant-loop-i : goal.invariant-loop-i
invariant-loop-i l =
    (length l.strides ≡ length l.fn.strides)
    × (length l.sizes ≡ length l.fn.sizes)
    × ((j : ℕ) → l.i ≤ j → j < length l.kept → l.low ≤ get_or l.kept j 0 → get_or l.kept j 0 < l.high → HasStrideRow l.counts l.slots l.strides (row_beside l.at j) (get_or l.kept j 0))
    × ((r v : ℕ) → ((j : ℕ) → j < length l.kept → r ≡ row_beside l.at j → v ≡ get_or l.kept j 0) → HasStrideRow l.counts l.slots l.fn.strides r v → HasStrideRow l.counts l.slots l.strides r v)
    × ((u : ℕ) → l.low ≤ u → u ≤ l.high → ((j : ℕ) → j < l.i → get_or l.kept j 0 < l.high → get_or l.kept j 0 < u) → ((j : ℕ) → l.i ≤ j → j < length l.kept → l.low ≤ get_or l.kept j 0 → u ≤ get_or l.kept j 0) → take (length l.slots) l.sizes ≡ sizes_from l.counts l.slots u)
