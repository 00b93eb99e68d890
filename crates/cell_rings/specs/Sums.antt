-- Finite sums and products in a ring, and what is added to a list of cells.
use Rattle.std.specs.Prelude.{◌≡◌, ◌==◌, if◌then◌else◌, ℕ, zero, suc, ◌+◌, ◌*◌, ◌<◌, ◌≤◌, List, [], ◌∷◌, length, map, slice_index_or}
use Rattle.cell_rings.specs.Rings.{Ring, mass_ring}
use Rattle.cell_rings.specs.declared.pairs.RunPair.{RunPair}

-- f 0 + f 1 + .. + f (n - 1)
abbrev pub ring_sum : {C : Type 0} → Ring C → ℕ → (ℕ → C) → C
ring_sum r zero f = r.nought
ring_sum r (suc n) f = r.plus (ring_sum r n f) (f n)

-- the cell at a place, and nought beyond the end
abbrev pub cell_at : {C : Type 0} → Ring C → List C → ℕ → C
cell_at r cells p = slice_index_or cells p r.nought

-- the product of `sofar` and the cells at these places
abbrev pub product_from : {C : Type 0} → Ring C → List C → C → List ℕ → C
product_from r cells sofar [] = sofar
product_from r cells sofar (p ∷ ps) = product_from r cells (r.times sofar (cell_at r cells p)) ps

-- the product of the cells at these places
abbrev pub product_at : {C : Type 0} → Ring C → List C → List ℕ → C
product_at r cells places = product_from r cells r.unit places

-- the sizes of the cells
abbrev pub sizes_of : {C : Type 0} → Ring C → List C → List ℕ
sizes_of r cells = map r.size cells

-- each product of the first factors fits, if what stands before them has that size
abbrev pub ProductFits : {C : Type 0} → Ring C → List C → ℕ → List ℕ → Type 0
ProductFits r cells before [] = Unit {0}
ProductFits r cells before (p ∷ ps) = (before * r.size (cell_at r cells p) ≤ r.most)
    × ProductFits r cells (before * r.size (cell_at r cells p)) ps

-- the sum of those f i for which p is the i-th place from `at` on, so nought elsewhere
abbrev pub run_sum : {C : Type 0} → Ring C → ℕ → ℕ → (ℕ → C) → ℕ → C
run_sum r n at f p = ring_sum r n (λ i. if p == at + i then f i else r.nought)

-- the factor times the i-th cell from a place on
abbrev pub one_scaled : {C : Type 0} → Ring C → C → List C → ℕ → ℕ → C
one_scaled r factor cells from = λ i. r.times factor (cell_at r cells (from + i))

-- the most that is by the sizes of both
abbrev pub one_sizes : {C : Type 0} → Ring C → C → List C → ℕ → ℕ → ℕ
one_sizes r factor cells from = λ i. r.size factor * r.size (cell_at r cells (from + i))

-- that times the i-th cell of another run
abbrev pub dot_scaled : {C : Type 0} → Ring C → C → List C → ℕ → ℕ → ℕ → C
dot_scaled r factor cells from beside = λ i.
    r.times (r.times factor (cell_at r cells (from + i))) (cell_at r cells (beside + i))

-- the most that is by the sizes of all three
abbrev pub dot_sizes : {C : Type 0} → Ring C → C → List C → ℕ → ℕ → ℕ → ℕ
dot_sizes r factor cells from beside = λ i.
    r.size factor * r.size (cell_at r cells (from + i)) * r.size (cell_at r cells (beside + i))

-- there is room for the sum of these of n cells
abbrev pub HasRoomForDot : {C : Type 0} → Ring C → ℕ → C → List C → ℕ → ℕ → Type 0
HasRoomForDot r n factor cells from beside =
    ring_sum mass_ring n (dot_sizes r factor cells from beside) ≤ r.most

-- the i-th cells of both runs, each times its factor, added up; a factor is the cell that `of`
-- makes of it
abbrev pub two_scaled : {C F : Type 0} → Ring C → (F → C) → List C → RunPair F → ℕ → C
two_scaled r of cells pair = λ i.
    r.plus (r.times (of pair.first) (cell_at r cells (pair.from + i)))
    (r.times (of pair.second) (cell_at r cells (pair.beside + i)))

-- the most that is by the sizes of the cells and of the factors
abbrev pub two_sizes : {C F : Type 0} → Ring C → (F → ℕ) → List C → RunPair F → ℕ → ℕ
two_sizes r size cells pair = λ i.
    size pair.first * r.size (cell_at r cells (pair.from + i))
    + size pair.second * r.size (cell_at r cells (pair.beside + i))

-- the i-th cells of the four runs of two pairs, each times its factor, added up
abbrev pub four_scaled : {C F : Type 0} → Ring C → (F → C) → List C → RunPair F → RunPair F → ℕ → C
four_scaled r of cells one other = λ i.
    r.plus (two_scaled r of cells one i) (two_scaled r of cells other i)

-- the most that is by the sizes of the cells and of the factors
abbrev pub four_sizes : {C F : Type 0} → Ring C → (F → ℕ) → List C → RunPair F → RunPair F → ℕ → ℕ
four_sizes r size cells one other = λ i. two_sizes r size cells one i + two_sizes r size cells other i

-- both runs of n cells lie within the list
abbrev pub AreWithin : {C F : Type 0} → List C → RunPair F → ℕ → Type 0
AreWithin cells pair n = (pair.from + n ≤ length cells) × (pair.beside + n ≤ length cells)

-- the bits of n cells from a place on are below `narrow`
abbrev pub IsNarrowRun : {C : Type 0} → Ring C → (C → ℕ) → ℕ → List C → ℕ → ℕ → Type 0
IsNarrowRun r bits narrow cells from n =
    (i : ℕ) → i < n → bits (cell_at r cells (from + i)) < narrow

-- those of both runs of n cells are
abbrev pub IsNarrowPair :
    {C F : Type 0} → Ring C → (C → ℕ) → ℕ → List C → RunPair F → ℕ → Type 0
IsNarrowPair r bits narrow cells pair n =
    IsNarrowRun r bits narrow cells pair.from n × IsNarrowRun r bits narrow cells pair.beside n

-- the new list has f added to the old one, cell by cell
pub record AddsCells {C : Type 0} (r : Ring C) (f : ℕ → C) (old new : List C) : Type 0 where
  pub each : (p : ℕ) → cell_at r new p ≡ r.plus (cell_at r old p) (f p)

-- there is room to add cells of these sizes
pub record HasRoom {C : Type 0} (r : Ring C) (cells : List C) (f : ℕ → ℕ) : Type 0 where
  pub each : (p : ℕ) → r.size (cell_at r cells p) + f p ≤ r.most

-- there is room in n cells from `at` on for those of a run, each times the factor
abbrev pub HasRoomForOne : {C : Type 0} → Ring C → C → List C → ℕ → ℕ → List C → ℕ → Type 0
HasRoomForOne r factor out at n cells from =
    HasRoom r out (run_sum mass_ring n at (one_sizes r factor cells from))

-- these are added to them
abbrev pub AddsOne : {C : Type 0} → Ring C → C → List C → List C → ℕ → ℕ → List C → ℕ → Type 0
AddsOne r factor old new at n cells from =
    AddsCells r (run_sum r n at (one_scaled r factor cells from)) old new

-- there is room in n cells from `at` on for those of two runs, each times its factor, whose size is
-- `size`
abbrev pub HasRoomForTwo :
    {C F : Type 0} → Ring C → (F → ℕ) → List C → ℕ → ℕ → List C → RunPair F → Type 0
HasRoomForTwo r size out at n cells pair =
    HasRoom r out (run_sum mass_ring n at (two_sizes r size cells pair))

-- these are added to them; a factor is the cell that `of` makes of it
abbrev pub AddsTwo :
    {C F : Type 0} → Ring C → (F → C) → List C → List C → ℕ → ℕ → List C → RunPair F → Type 0
AddsTwo r of old new at n cells pair = AddsCells r (run_sum r n at (two_scaled r of cells pair)) old new

-- there is room in n cells from `at` on for those of two pairs of runs, each times its factor
abbrev pub HasRoomForFour :
    {C F : Type 0} → Ring C → (F → ℕ) → List C → ℕ → ℕ → List C → RunPair F → RunPair F → Type 0
HasRoomForFour r size out at n cells one other =
    HasRoom r out (run_sum mass_ring n at (four_sizes r size cells one other))

-- these are added to them
abbrev pub AddsFour : {C F : Type 0} → Ring C → (F → C) → List C → List C → ℕ → ℕ → List C
    → RunPair F → RunPair F → Type 0
AddsFour r of old new at n cells one other =
    AddsCells r (run_sum r n at (four_scaled r of cells one other)) old new
