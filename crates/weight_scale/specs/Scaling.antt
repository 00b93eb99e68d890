-- The rows of a chance table taken in proportion: reduced rows, their common total, and the
-- weights.
use Rattle.std.specs.Prelude.{◌≡◌, ◌<◌, ◌≤◌, ◌-◌, ◌*◌, ◌/◌, ◌^◌, ℕ, ℤ, pos, ◌≤ℤ◌, ◌<ℤ◌, unsigned_abs, List, map, length, take, drop, sum, All, slice_index_or}
use Rattle.std.specs.Int.{◌∣◌}
use Rattle.maid_model.specs.declared.limits.TheConstants.{MOST_DECIMALS}
use Rattle.maid_model.specs.Diagrams.{greatest_number}
use Rattle.weight_scale.specs.Views.{ScaledView}
use Rattle.weight_scale.specs.declared.decimal.Decimal.{Decimal}
use Rattle.weight_scale.specs.declared.scaling.ScaleFault.{ScaleFault}
use Rattle.weight_scale.specs.declared.scaling.ScaleFault.TheVariants.{Negative, ZeroRow, WideWeight, NoMemory}

-- row r of a table that stands row by row, each row with a place for each state
abbrev pub row_at : {A : Type 0} → ℕ → List A → ℕ → List A
row_at states cells r = take states (drop (r * states) cells)

-- the size of a number times ten to the power of `decimals`: a whole number, where it has no more
-- decimals than that
abbrev pub whole_number : ℕ → Decimal → ℕ
whole_number decimals d = unsigned_abs d.m * 10 ^ (decimals - d.k)

-- the numbers of a row raised to whole numbers by one power of ten: none has more than 30 decimals
abbrev pub raised : List Decimal → List ℕ
raised row = map (whole_number MOST_DECIMALS) row

-- those of row r
abbrev pub raised_row : ℕ → List Decimal → ℕ → List ℕ
raised_row states rows r = raised (row_at states rows r)

-- the greatest common divisor: it divides each number, and each number that divides them all
-- divides it
pub record IsGreatestDivisor (xs : List ℕ) (g : ℕ) : Type 0 where
  pub divides : All (λ x. g ∣ x) xs
  pub greatest : (d : ℕ) → All (λ x. d ∣ x) xs → d ∣ g

-- a reduced row: the numbers of a row divided by their greatest common divisor
pub record IsReducedRow (row reduced : List ℕ) : Type 0 where
  pub divisor : ℕ
  pub greatest : IsGreatestDivisor row divisor
  pub divided : reduced ≡ map (λ x. x / divisor) row

-- the reduced rows, one after another
pub record AreReducedRows (rows : List Decimal) (states : ℕ) (reduced : List ℕ) : Type 0 where
  pub len : length reduced ≡ length rows
  pub row : (r : ℕ) → r < length rows / states
      → IsReducedRow (raised_row states rows r) (row_at states reduced r)

-- W: the least common multiple of the totals of the first `count` rows
pub record IsCommonTotal (reduced : List ℕ) (states count total : ℕ) : Type 0 where
  pub positive : 0 < total
  pub multiple : (r : ℕ) → r < count → sum (row_at states reduced r) ∣ total
  pub least : (m : ℕ) → ((r : ℕ) → r < count → sum (row_at states reduced r) ∣ m) → total ∣ m

-- a reduced row multiplied so that its total is the common one
abbrev pub multiplied_row : ℕ → List ℕ → List ℤ
multiplied_row total row = map (λ x. pos (x * (total / sum row))) row

-- the number at a place
abbrev pub number_at : List Decimal → ℕ → ℤ
number_at rows i = slice_index_or (map (λ d. d.m) rows) i (pos 0)

-- no number is below nought
abbrev pub NoneNegative : List Decimal → Type 0
NoneNegative rows = (i : ℕ) → i < length rows → pos 0 ≤ℤ number_at rows i

-- each of the first `count` rows has a total above nought
abbrev pub NoZeroRow : List Decimal → ℕ → ℕ → Type 0
NoZeroRow rows states count = (r : ℕ) → r < count → 0 < sum (raised_row states rows r)

-- no number is below nought, and no row of total nought
abbrev pub AreFaultless : List Decimal → ℕ → Type 0
AreFaultless rows states = NoneNegative rows × NoZeroRow rows states (length rows / states)

-- the weights: no number is below nought, and each reduced row is multiplied so that its total is
-- the least common multiple of all totals
pub record IsScaled (rows : List Decimal) (states : ℕ) (scaled : ScaledView) : Type 0 where
  pub none_negative : NoneNegative rows
  pub reduced : List ℕ
  pub rows_reduced : AreReducedRows rows states reduced
  pub common : IsCommonTotal reduced states (length rows / states) scaled.total
  pub small : scaled.total ≤ greatest_number
  pub len : length scaled.weights ≡ length rows
  pub row : (r : ℕ) → r < length rows / states
      → row_at states scaled.weights r ≡ multiplied_row scaled.total (row_at states reduced r)

-- the place of the first number below nought
pub record IsFirstNegative (rows : List Decimal) (place : ℕ) : Type 0 where
  pub within : place < length rows
  pub negative : number_at rows place <ℤ pos 0
  pub first : (i : ℕ) → i < place → pos 0 ≤ℤ number_at rows i

-- the first row of total nought
pub record IsFirstZeroRow (rows : List Decimal) (states row : ℕ) : Type 0 where
  pub within : row < length rows / states
  pub zero_row : sum (raised_row states rows row) ≡ 0
  pub first : NoZeroRow rows states row

-- the least common multiple of the totals of the reduced rows is too great
pub record IsTooWide (rows : List Decimal) (states : ℕ) : Type 0 where
  pub reduced : List ℕ
  pub total : ℕ
  pub rows_reduced : AreReducedRows rows states reduced
  pub common : IsCommonTotal reduced states (length rows / states) total
  pub wide : greatest_number < total

-- Why the rows have no weights, each fault where none before it is; want of memory says nothing.
abbrev pub IsScaleFault : List Decimal → ℕ → ScaleFault → Type 0
IsScaleFault rows states (Negative place) = IsFirstNegative rows place
IsScaleFault rows states (ZeroRow row) = NoneNegative rows × IsFirstZeroRow rows states row
IsScaleFault rows states WideWeight =
    NoneNegative rows × NoZeroRow rows states (length rows / states) × IsTooWide rows states
IsScaleFault rows states NoMemory = Unit {0}
