-- A walk over several axes: at each choice of a state for each axis the product of the operands'
-- cells is added to a cell of the result. Only private contracts cite this file.
use Rattle.std.specs.Prelude.{◌≡◌, ℕ, ◌+◌, ◌*◌, ◌^◌, ◌<◌, ◌≤◌, ◌==◌, if◌then◌else◌, Bool, true, false, List, [], ◌∷◌, ◌-◌, length, take, drop, All, slice_index}
use Rattle.cell_rings.specs.Rings.{Ring, mass_ring}
use Rattle.cell_rings.specs.Sums.{ring_sum, cell_at, product_at, product_from, sizes_of, ProductFits, AddsCells, HasRoom}
use Rattle.cell_rings.specs.declared.pairs.RunPair.{RunPair}
use Rattle.factor_core.specs.declared.walks.Axis.{Axis}

-- the places after s steps along an axis, whose strides stand first in the list
abbrev pub shifted : ℕ → List ℕ → List ℕ → List ℕ
shifted s strides [] = []
shifted s [] (p ∷ ps) = p ∷ ps
shifted s (d ∷ ds) (p ∷ ps) = (p + s * d) ∷ shifted s ds ps

-- what the walk adds to the cell p of the result: the sum, over all choices of states that lead to
-- p, of the products of the operands' cells
abbrev pub total : {C : Type 0} → Ring C → List C → List Axis → List ℕ → List ℕ → ℕ → ℕ → C
total r cells [] strides places at p = if p == at then product_at r cells places else r.nought
total r cells (a ∷ rest) strides places at p = ring_sum r a.states (λ s.
    total r cells rest (drop (length places) strides) (shifted s strides places) (at + s * a.out) p)

-- this is added to the result
abbrev pub AddsTotal : {C : Type 0}
    → Ring C → List C → List Axis → List ℕ → List ℕ → ℕ → List C → List C → Type 0
AddsTotal r cells axes strides places at old new =
    AddsCells r (total r cells axes strides places at) old new

-- the same of sizes
abbrev pub load : {C : Type 0} → Ring C → List C → List Axis → List ℕ → List ℕ → ℕ → ℕ → ℕ
load r cells axes strides places at p = total mass_ring (sizes_of r cells) axes strides places at p

-- a fact that holds of the operands' places and the result's place at each choice of states
abbrev pub AtEach : (List ℕ → ℕ → Type 0) → List Axis → List ℕ → List ℕ → ℕ → Type 0
AtEach P [] strides places at = P places at
AtEach P (a ∷ rest) strides places at = (s : ℕ) → s < a.states
    → AtEach P rest (drop (length places) strides) (shifted s strides places) (at + s * a.out)

-- one choice of states: the places lie in the cells, the result's in the result, and each product
-- of the first factors fits
pub record IsMet {C : Type 0}
    (r : Ring C) (cells : List C) (len : ℕ) (places : List ℕ) (at : ℕ) : Type 0 where
  pub within : All (λ p. p < length cells) places
  pub out : at < len
  pub fits : ProductFits r cells 1 places

-- an axis of a walk: one state or more, and no long step
pub record IsAxis (a : Axis) : Type 0 where
  pub some : 0 < a.states
  pub few : a.states ≤ 2 ^ 16
  pub near : a.out ≤ 2 ^ 32

-- what a walk requires: a row of strides for each axis, all places in range at each choice of
-- states, and room for what is added
pub record CanWalk {C : Type 0}
    (r : Ring C) (cells : List C) (axes : List Axis) (strides places : List ℕ) (out : List C)
    (at : ℕ) : Type 0 where
  pub are_axes : All IsAxis axes
  pub count : length strides ≡ length axes * length places
  pub near : All (λ d. d ≤ 2 ^ 32) strides
  pub few_cells : length cells ≤ 2 ^ 32
  pub short_out : length out ≤ 2 ^ 32
  pub met : AtEach (IsMet r cells (length out)) axes strides places at
  pub room : HasRoom r out (load r cells axes strides places at)

-- along the axis the result and the last operand move cell by cell, and the other operands stand
pub record IsRun (a : Axis) (strides : List ℕ) (count : ℕ) : Type 0 where
  pub some : 0 < count
  pub out : a.out ≡ 1
  pub last : slice_index strides (count - 1) ≡ 1
  pub fixed : (i : ℕ) → i < count - 1 → slice_index strides i ≡ 0

-- there are two operands, of which the first and the result move cell by cell along the axis, and
-- the second stands
pub record IsTurned (a : Axis) (strides : List ℕ) (count : ℕ) : Type 0 where
  pub two : count ≡ 2
  pub out : a.out ≡ 1
  pub first : slice_index strides 0 ≡ 1
  pub second : slice_index strides 1 ≡ 0

-- along the axis the result and one operand move cell by cell: the first of two where it is turned,
-- else the last
abbrev pub MovesAlong : Bool → Axis → List ℕ → ℕ → Type 0
MovesAlong false a strides count = IsRun a strides count
MovesAlong true a strides count = IsTurned a strides count

-- the axis has two states, along which the result stands
pub record IsPair (a : Axis) : Type 0 where
  pub two : a.states ≡ 2
  pub out : a.out ≡ 0

-- along the axis the result stands, the operands from one on move cell by cell, and those before
-- them stand
pub record IsDot (a : Axis) (strides : List ℕ) (stand count : ℕ) : Type 0 where
  pub within : stand ≤ count
  pub out : a.out ≡ 0
  pub fixed : (i : ℕ) → i < stand → slice_index strides i ≡ 0
  pub moving : (i : ℕ) → stand ≤ i → i < count → slice_index strides i ≡ 1

-- the places moved by so many strides
abbrev pub HaveMoved : ℕ → List ℕ → List ℕ → List ℕ → Type 0
HaveMoved states strides before after = (i : ℕ) → i < length after
    → slice_index before i + states * slice_index strides i ≡ slice_index after i

-- the places s cells further
abbrev pub further : ℕ → List ℕ → List ℕ
further s [] = []
further s (p ∷ ps) = (p + s) ∷ further s ps

-- the sum of the factor's products with the cells at n such places
abbrev pub sum_along : {C : Type 0} → Ring C → ℕ → List C → C → List ℕ → C
sum_along r n cells factor places =
    ring_sum r n (λ s. product_from r cells factor (further s places))

-- how many operands there are where one runs along an axis: two where it is the first, else one or
-- more
abbrev pub IsCount : Bool → ℕ → Type 0
IsCount false n = 0 < n
IsCount true n = n ≡ 2

-- the places from which a run can be read
pub record CanReadRun {C : Type 0} (turned : Bool) (r : Ring C) (cells : List C) (places : List ℕ) :
    Type 0 where
  pub count : IsCount turned (length places)
  pub within : All (λ p. p < length cells) places
  pub fits : ProductFits r cells 1 places

-- the factor is the product of the cells before the last place, at which the run begins
pub record IsLastRun {C : Type 0}
    (r : Ring C) (cells : List C) (places : List ℕ) (factor : C) (from : ℕ) : Type 0 where
  pub product : factor ≡ product_at r cells (take (length places - 1) places)
  pub size : r.size factor
      ≤ product_at mass_ring (sizes_of r cells) (take (length places - 1) places)
  pub begins : from ≡ slice_index places (length places - 1)

-- the factor is the cell at the second place, and the run begins at the first
pub record IsFirstRun {C : Type 0}
    (r : Ring C) (cells : List C) (places : List ℕ) (factor : C) (from : ℕ) : Type 0 where
  pub stands : factor ≡ cell_at r cells (slice_index places 1)
  pub begins : from ≡ slice_index places 0

-- what a walk adds along an axis that one operand moves along: the cells from a place on, each
-- times the factor
abbrev pub IsRunAt : {C : Type 0} → Bool → Ring C → List C → List ℕ → C → ℕ → Type 0
IsRunAt false r cells places factor from = IsLastRun r cells places factor from
IsRunAt true r cells places factor from = IsFirstRun r cells places factor from

-- the same at the next state of the axis, whose strides stand first: the second run of a pair
abbrev pub IsSecondRun :
    {C : Type 0} → Bool → Ring C → List C → List ℕ → List ℕ → RunPair C → Type 0
IsSecondRun turned r cells strides places pair =
    IsRunAt turned r cells (shifted 1 strides places) pair.second pair.beside

-- ---- walks over few axes
-- what the walk over one axis adds
abbrev pub AddsOneAxis : {C : Type 0}
    → Ring C → List C → Axis → List ℕ → List ℕ → ℕ → List C → List C → Type 0
AddsOneAxis r cells axis strides places at old new =
    AddsTotal r cells (axis ∷ []) strides places at old new

-- what the walk over two axes adds
abbrev pub AddsTwoAxes : {C : Type 0}
    → Ring C → List C → Axis → Axis → List ℕ → List ℕ → ℕ → List C → List C → Type 0
AddsTwoAxes r cells axis inner strides places at old new =
    AddsTotal r cells (axis ∷ (inner ∷ [])) strides places at old new

-- what that requires
abbrev pub CanWalkTwoAxes : {C : Type 0}
    → Ring C → List C → Axis → Axis → List ℕ → List ℕ → List C → ℕ → Type 0
CanWalkTwoAxes r cells axis inner strides places out at =
    CanWalk r cells (axis ∷ (inner ∷ [])) strides places out at

-- what the walk over three axes adds
abbrev pub AddsCube : {C : Type 0}
    → Ring C → List C → Axis → Axis → Axis → List ℕ → List ℕ → ℕ → List C → List C → Type 0
AddsCube r cells outer axis inner strides places at old new =
    AddsTotal r cells (outer ∷ (axis ∷ (inner ∷ []))) strides places at old new

-- what that requires
abbrev pub CanWalkCube : {C : Type 0}
    → Ring C → List C → Axis → Axis → Axis → List ℕ → List ℕ → List C → ℕ → Type 0
CanWalkCube r cells outer axis inner strides places out at =
    CanWalk r cells (outer ∷ (axis ∷ (inner ∷ []))) strides places out at

-- one operand moves along the inner of two axes, whose strides stand behind those of the outer
abbrev pub IsInnerMoved : Bool → Axis → List ℕ → List ℕ → Type 0
IsInnerMoved turned axis strides places =
    MovesAlong turned axis (drop (length places) strides) (length places)

-- ---- moves of the places
-- each place has room for its stride
abbrev pub CanAdvance : List ℕ → List ℕ → Type 0
CanAdvance strides places =
    (i : ℕ) → i < length places → slice_index places i + slice_index strides i < 2 ^ 64

-- each place has moved by its stride
abbrev pub HaveAdvanced : List ℕ → List ℕ → List ℕ → Type 0
HaveAdvanced strides before after = (i : ℕ) → i < length before
    → slice_index after i ≡ slice_index before i + slice_index strides i

-- each place can move back by so many strides
abbrev pub CanRetreat : ℕ → List ℕ → List ℕ → Type 0
CanRetreat states strides places =
    (i : ℕ) → i < length places → states * slice_index strides i ≤ slice_index places i

-- ---- sizes
-- the cell is no greater than the product of the sizes at these places
abbrev pub IsWithinSizes : {C : Type 0} → Ring C → List C → List ℕ → C → Type 0
IsWithinSizes r cells places cell = r.size cell ≤ product_at mass_ring (sizes_of r cells) places

-- the factor's products with the cells at n such places fit
abbrev pub ProductsAlongFit : {C : Type 0} → Ring C → ℕ → List C → C → List ℕ → Type 0
ProductsAlongFit r n cells factor places =
    (s : ℕ) → s < n → ProductFits r cells (r.size factor) (further s places)

-- their sum fits
abbrev pub SumAlongFits : {C : Type 0} → Ring C → ℕ → List C → C → List ℕ → Type 0
SumAlongFits r n cells factor places =
    sum_along mass_ring n (sizes_of r cells) (r.size factor) places ≤ r.most
