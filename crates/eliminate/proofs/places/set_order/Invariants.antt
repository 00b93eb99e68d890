use Rattle.std.proofs.Common.{◌≡◌, ◌<◌, ◌≤◌, ℕ, length, slice_index}
use Rattle.eliminate.specs.Places.{rank_of, IsBlankFor}
use Rattle.eliminate.proofs.places.set_order.Given as goal

-- no node so far has the rank of a step
abbrev pub invariant-loop-v : goal.invariant-loop-v
invariant-loop-v l = ((u : ℕ) → u < l.v → slice_index l.ranks u ≡ length l.steps) × (length l.ranks ≡ length l.fn.ranks)

-- a node's rank is no later than each of its positions from i on, and is one of its positions where
-- it is one of a step; the nodes with such ranks have no places
abbrev pub invariant-loop-i : goal.invariant-loop-i
invariant-loop-i l =
    (length l.ranks ≡ length l.fn.ranks)
    × ((j : ℕ) → l.i ≤ j → j < length l.steps → rank_of l.ranks (length l.steps) (slice_index l.steps j) ≤ j)
    × ((u : ℕ) → rank_of l.ranks (length l.steps) u < length l.steps → slice_index l.steps (rank_of l.ranks (length l.steps) u) ≡ u)
    × (length l.at ≡ length l.fn.at)
    × IsBlankFor l.ranks (length l.steps) l.at
