-- What is answered in a row, whose states have these gains, against its mass. Of this a public
-- function cites `AreGainsOfRow` alone.
use Rattle.std.specs.Prelude.{◌≡◌, ◌<◌, ◌≤◌, ◌*◌, ℕ, ℤ, ◌≤ℤ◌, nat_abs, pos, List, All, length, slice_index, slice_index_or, Some, None, IfSome}
use Rattle.maid_model.specs.declared.answers.Ratio.{Ratio}
use Rattle.maid_model.specs.declared.answers.Row.{Row}
use Rattle.maid_model.specs.Answers.{IsFirstBest, IsFraction, IsReduced, no_row}
use Rattle.maid_model.specs.Diagrams.{greatest_number}
use Rattle.maid_model.specs.Gains.{gain_in}

-- no state of a row has a greater gain
abbrev pub IsBest : (ℕ → ℤ) → ℕ → ℕ → Type 0
IsBest gain states choice = (s : ℕ) → s < states → gain s ≤ℤ gain choice

-- these gains of a row, in their order, are that row's of all gains
abbrev pub AreGainsOfRow : List ℤ → ℕ → ℕ → List ℤ → Type 0
AreGainsOfRow gains states row here =
    (s : ℕ) → s < states → slice_index_or here s (pos 0) ≡ gain_in gains states s row

-- each gain of the list is a number of 128 bits
abbrev pub FitNumbers : List ℤ → Type 0
FitNumbers gains =
    (i : ℕ) → i < length gains → nat_abs (slice_index_or gains i (pos 0)) ≤ greatest_number

-- each mass of the list still is one, times the scale
abbrev pub FitScaled : List ℕ → ℕ → Type 0
FitScaled masses scale =
    (row : ℕ) → row < length masses → slice_index masses row * scale ≤ greatest_number

-- With mass the first best state, which is worth its gain over the mass and the scale. Without mass
-- the first state, and no worth.
pub record AnswersRow (gain : ℕ → ℤ) (states mass scale : ℕ) (r : Row) : Type 0 where
  pub best : 0 < mass → IsFirstBest gain states r.choice
  pub worth :
      0 < mass → (w : Ratio) × (r.worth ≡ Some w) × IsFraction w (gain r.choice) (mass * scale)
  pub never : mass ≡ 0 → (r.choice ≡ 0) × (r.worth ≡ None)

-- the row's states have these gains, in their order
abbrev pub AnswersGains : List ℤ → ℕ → ℕ → Row → Type 0
AnswersGains gains mass scale r =
    AnswersRow (λ s. slice_index_or gains s (pos 0)) (length gains) mass scale r

-- the row is so answered by its gains in the list
abbrev pub AnswersInList : List ℤ → List ℕ → ℕ → ℕ → ℕ → Row → Type 0
AnswersInList gains masses states scale row r =
    AnswersRow (λ s. gain_in gains states s row) states (slice_index masses row) scale r

-- so many rows, each answered by its own gains and mass, with choices in range and worths in lowest
-- terms
pub record AnswersRows
    (gain : ℕ → ℕ → ℤ) (mass : ℕ → ℕ) (states scale number : ℕ) (rows : List Row) : Type 0 where
  pub count : length rows ≡ number
  pub each : (row : ℕ) → row < number
      → AnswersRow (λ s. gain s row) states (mass row) scale (slice_index_or rows row no_row)
  pub choices : All (λ r. r.choice < states) rows
  pub worths : All (λ r. IfSome r.worth IsReduced) rows

-- so many rows as there are masses, each answered by its gains in the list
abbrev pub AnswersByGains : List ℤ → List ℕ → ℕ → ℕ → List Row → Type 0
AnswersByGains gains masses states scale rows =
    AnswersRows (gain_in gains states) (slice_index masses) states scale (length masses) rows
