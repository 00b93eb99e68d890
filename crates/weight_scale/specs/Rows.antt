-- How a row is reduced. The parts of `scale_rows` speak of it; what it promises doesn't.
use Rattle.std.specs.Global.{Vec}
use Rattle.std.specs.Prelude.{◌≡◌, ◌<◌, ◌≤◌, ◌*◌, ◌/◌, ℕ, ℤ, pos, unsigned_abs, List, ◌++◌, map, length, sum, All, ◌⊎◌}
use Rattle.std.specs.Int.{◌∣◌}
use Rattle.maid_model.specs.declared.limits.TheConstants.{MOST_DECIMALS}
use Rattle.maid_model.specs.Diagrams.{greatest_number}
use Rattle.weight_scale.specs.Scaling.{whole_number, raised_row, row_at, IsReducedRow, IsCommonTotal, multiplied_row}
use Rattle.weight_scale.specs.declared.decimal.Decimal.{Decimal}
use Rattle.weight_scale.specs.declared.scaling.Reduced.{Reduced}
use Rattle.weight_scale.specs.declared.scaling.ScaleFault.{ScaleFault}
use Rattle.weight_scale.specs.declared.scaling.ScaleFault.TheVariants.{Negative, ZeroRow, WideWeight, NoMemory}

-- A size, and at most 30 decimals: no number but noughts has more decimals, what divides all
-- numbers, raised by these, divides the size, and the size is nought only where all numbers are.
pub record IsFinest (row : List Decimal) (size decimals : ℕ) : Type 0 where
  pub few : decimals ≤ MOST_DECIMALS
  pub most : All (λ d. (unsigned_abs d.m ≡ 0) ⊎ (d.k ≤ decimals)) row
  pub divided : (g : ℕ) → All (λ d. g ∣ whole_number decimals d) row → g ∣ size
  pub nought : size ≡ 0 → All (λ d. unsigned_abs d.m ≡ 0) row

-- the number takes the place of the finest so far where it isn't nought and has more decimals, or
-- is the first that isn't nought
abbrev pub IsFiner : ℕ → ℕ → Decimal → ℕ → ℕ → Type 0
IsFiner size decimals d size' decimals' = ((size' ≡ size) × (decimals' ≡ decimals)
    × ((unsigned_abs d.m ≡ 0) ⊎ ((0 < size) × (d.k ≤ decimals))))
    ⊎ ((size' ≡ unsigned_abs d.m) × (decimals' ≡ d.k) × (0 < unsigned_abs d.m)
    × ((size ≡ 0) ⊎ (decimals < d.k)))

-- the row's numbers, raised, over the divisor
abbrev pub shares : ℕ → ℕ → List Decimal → List ℕ
shares decimals divisor row = map (λ d. whole_number decimals d / divisor) row

-- the shares stand behind what was there, and the total is theirs
pub record AppendsShares (old new shares : List ℕ) (total : ℕ) : Type 0 where
  pub appended : new ≡ old ++ shares
  pub total_is : total ≡ sum shares

-- so do the row's numbers, raised, over the divisor
abbrev pub AppendsSharesOf : List ℕ → List ℕ → ℕ → ℕ → List Decimal → ℕ → Type 0
AppendsSharesOf old new decimals divisor row total = AppendsShares old new (shares decimals divisor row) total

-- so the program has the numbers before and after
abbrev pub AppendsRowShares : Vec ℕ → Vec ℕ → ℕ → ℕ → List Decimal → ℕ → Type 0
AppendsRowShares before after decimals divisor row total =
    AppendsSharesOf before.items after.items decimals divisor row total

-- these add up to too much
abbrev pub AreWideShares : ℕ → ℕ → List Decimal → Type 0
AreWideShares decimals divisor row = greatest_number < sum (shares decimals divisor row)

-- the numbers, multiplied, stand behind what was there
abbrev pub AppendsMultiples : ℕ → List ℕ → List ℤ → List ℤ → Type 0
AppendsMultiples factor row old new = new ≡ old ++ map (λ x. pos (x * factor)) row

-- the reduced row stands behind what was there
pub record AppendsReduced (row old new : List ℕ) (total : ℕ) : Type 0 where
  pub reduced : List ℕ
  pub is_reduced : IsReducedRow row reduced
  pub appends : AppendsShares old new reduced total

-- the fault is want of memory, or P holds and it is a wide weight
abbrev pub OnWide : ScaleFault → Type 0 → Type 0
OnWide (Negative place) P = ⊥
OnWide (ZeroRow row) P = ⊥
OnWide WideWeight P = P
OnWide NoMemory P = Unit {0}

-- the reduced row adds up to too much
abbrev pub IsWideRow : List ℕ → Type 0
IsWideRow row = (reduced : List ℕ) → IsReducedRow row reduced → greatest_number < sum reduced

-- the first rows reduced, and the least common multiple of their totals
pub record ReducesRows
    (rows : List Decimal) (states count : ℕ) (reduced : List ℕ) (total : ℕ) : Type 0 where
  pub len : length reduced ≡ count * states
  pub row : (r : ℕ) → r < count → IsReducedRow (raised_row states rows r) (row_at states reduced r)
  pub common : IsCommonTotal reduced states count total

-- the first rows of weights
pub record WeighsRows (reduced : List ℕ) (states total count : ℕ) (weights : List ℤ) : Type 0 where
  pub len : length weights ≡ count * states
  pub row :
      (r : ℕ) → r < count → row_at states weights r ≡ multiplied_row total (row_at states reduced r)

-- all rows reduced, and the least common multiple of their totals
abbrev pub ReducesAll : List Decimal → ℕ → Reduced → Type 0
ReducesAll rows states reduced =
    ReducesRows rows states (length rows / states) reduced.numbers.items reduced.total

-- all rows of weights
abbrev pub WeighsAll : List ℕ → ℕ → ℕ → List ℤ → Type 0
WeighsAll reduced states total weights =
    WeighsRows reduced states total (length reduced / states) weights

-- each row has a total above nought
abbrev pub HasPositiveTotals : List ℕ → ℕ → Type 0
HasPositiveTotals reduced states =
    (r : ℕ) → r < length reduced / states → 0 < sum (row_at states reduced r)

-- the total is a multiple of each row's
abbrev pub IsMultipleOfTotals : List ℕ → ℕ → ℕ → Type 0
IsMultipleOfTotals reduced states total =
    (r : ℕ) → r < length reduced / states → sum (row_at states reduced r) ∣ total
