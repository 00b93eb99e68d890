-- Tables of whole numbers that are weights as they stand.
use Rattle.std.specs.Prelude.{◌≡◌, ◌<◌, ◌≤◌, ◌/◌, ℕ, ℤ, unsigned_abs, List, All, length, map, sum}
use Rattle.std.specs.Int.{◌∣◌}
use Rattle.maid_model.specs.Diagrams.{greatest_number}
use Rattle.weight_scale.specs.Scaling.{row_at, AreFaultless, IsScaled}
use Rattle.weight_scale.specs.declared.decimal.Decimal.{Decimal}
use Rattle.maid_model.specs.Tables.{IsTable}

-- these decimals are whole numbers
abbrev pub AreWhole : List Decimal → List ℤ → Type 0
AreWhole rows cells = (map (λ d. d.m) rows ≡ cells) × All (λ d. d.k ≡ 0) rows

-- decimals that are these whole numbers have them as their weights, with that total
abbrev pub AreOwnWeights : List ℤ → ℕ → ℕ → Type 0
AreOwnWeights cells states total = (rows : List Decimal) → AreWhole rows cells
    → IsScaled rows states (record { weights = cells; total = total })

-- such decimals have no fault
abbrev pub AreFaultlessAlone : List ℤ → ℕ → Type 0
AreFaultlessAlone cells states =
    (rows : List Decimal) → AreWhole rows cells → AreFaultless rows states

-- they are a table of that total
abbrev pub AreOwnTable : List ℤ → ℕ → ℕ → Type 0
AreOwnTable cells states total =
    (rows : List Decimal) → AreWhole rows cells → IsTable cells (length rows / states) states total

-- 1 alone divides all numbers
abbrev pub ShareNone : List ℤ → Type 0
ShareNone numbers = (d : ℕ) → All (λ x. d ∣ unsigned_abs x) numbers → d ∣ 1

-- the numbers add up to the total, which is within the limits
abbrev pub AddsUpTo : List ℤ → ℕ → Type 0
AddsUpTo row total = (sum (map unsigned_abs row) ≡ total) × (total ≤ greatest_number)

-- there is a row, and each row adds up to this total
pub record HaveTotal (cells : List ℤ) (states total : ℕ) : Type 0 where
  pub some : 0 < length cells / states
  pub each : (r : ℕ) → r < length cells / states → AddsUpTo (row_at states cells r) total

-- so do the rows, and 1 alone divides all of the table's numbers
pub record ArePlainRows (cells : List ℤ) (states total : ℕ) : Type 0 where
  pub rows : HaveTotal cells states total
  pub alone : ShareNone cells
