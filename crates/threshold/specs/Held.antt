-- Intervals of fractions on which conditions hold, and how they get narrower. Only private
-- functions cite it.
use Rattle.std.specs.Prelude.{◌≡◌, ◌↔◌, ℕ, ◌<◌, ◌≤◌, ◌*◌, ◌^◌, List, length, slice_index_or, ℤ, pos, ◌+ℤ◌, ◌-ℤ◌, ◌*ℤ◌, ◌≤ℤ◌}
use Rattle.maid_model.specs.declared.answers.Row.{Row}
use Rattle.maid_model.specs.Answers.{no_row}
use Rattle.maid_model.specs.Gains.{AreSmallGains, gain_in}
use Rattle.threshold.specs.declared.held.Held.{Held}
use Rattle.threshold.specs.declared.held.Part.{Part}

-- the fraction num / den is at least the part
abbrev pub IsFrom : Part → ℕ → ℕ → Type 0
IsFrom part num den = part.num * den ≤ num * part.den

-- the fraction num / den is at most the part
abbrev pub IsUpTo : Part → ℕ → ℕ → Type 0
IsUpTo part num den = num * part.den ≤ part.num * den

-- a fraction from 0 to 1, whose numerator has room for a sign
pub record IsPart (part : Part) : Type 0 where
  pub positive : 0 < part.den
  pub at_most : part.num ≤ part.den
  pub room : part.num < 2 ^ 127

-- a fraction is at least c exactly where it is at least both a and b
abbrev pub IsGreater : Part → Part → Part → Type 0
IsGreater a b c = (num den : ℕ) → IsFrom c num den ↔ (IsFrom a num den × IsFrom b num den)

-- and at most c exactly where it is at most both
abbrev pub IsLesser : Part → Part → Part → Type 0
IsLesser a b c = (num den : ℕ) → IsUpTo c num den ↔ (IsUpTo a num den × IsUpTo b num den)

-- both ends are such fractions
pub record IsRange (held : Held) : Type 0 where
  pub low : IsPart held.low
  pub high : IsPart held.high

-- the fraction is in the interval
abbrev pub IsWithin : Held → ℕ → ℕ → Type 0
IsWithin held num den = IsFrom held.low num den × IsUpTo held.high num den

-- a condition holds at some fraction from 0 to 1
pub record HoldsSomewhere (P : ℕ → ℕ → Type 0) : Type 0 where
  pub num : ℕ
  pub den : ℕ
  pub positive : 0 < den
  pub at_most : num ≤ den
  pub holds : P num den

-- of the fractions of the one interval, the other has those at which the condition holds
pub record Narrows (P : ℕ → ℕ → Type 0) (before after : Held) : Type 0 where
  pub range : IsRange after
  pub within : (num den : ℕ) → 0 < den → num ≤ den
      → IsWithin after num den ↔ (IsWithin before num den × P num den)

-- den times the number at num / den that is affine between these numbers at 0 and 1
abbrev pub between : ℤ → ℤ → ℕ → ℕ → ℤ
between nought one num den = (one *ℤ pos num) +ℤ (nought *ℤ (pos den -ℤ pos num))

-- it is not below nought
abbrev pub IsNotBelow : ℤ → ℤ → ℕ → ℕ → Type 0
IsNotBelow nought one num den = pos 0 ≤ℤ between nought one num den

-- what stands in the list at one place, less what stands at another
abbrev pub lead_at : List ℤ → ℕ → ℕ → ℤ
lead_at gains best other = slice_index_or gains best (pos 0) -ℤ slice_index_or gains other (pos 0)

-- what the choice gains more than another state in a row
abbrev pub lead_in : List ℤ → ℕ → ℕ → ℕ → ℕ → ℤ
lead_in gains states choice s line = gain_in gains states choice line -ℤ gain_in gains states s line

-- at the fraction no state gains more in the row than the choice
abbrev pub IsBestIn : List ℤ → List ℤ → ℕ → ℕ → ℕ → ℕ → ℕ → Type 0
IsBestIn nought one states choice line num den = (s : ℕ) → s < states
    → IsNotBelow (lead_in nought states choice s line) (lead_in one states choice s line) num den

-- the choice of a row
abbrev pub choice_at : List Row → ℕ → ℕ
choice_at rows line = (slice_index_or rows line no_row).choice

-- nor in any of the first n rows
abbrev pub AreBestIn : List ℤ → List ℤ → ℕ → List Row → ℕ → ℕ → ℕ → Type 0
AreBestIn nought one states rows n num den =
    (line : ℕ) → line < n → IsBestIn nought one states (choice_at rows line) line num den

-- nor in any row
abbrev pub AllBestIn : List ℤ → List ℤ → ℕ → List Row → ℕ → ℕ → Type 0
AllBestIn nought one states rows num den = AreBestIn nought one states rows (length rows) num den

-- gains of rows at the probabilities 0 and 1: one for each row and state, all of them small, and at
-- some fraction no state gains more in any row than its choice
pub record AreEndGains (nought one : List ℤ) (states : ℕ) (rows : List Row) : Type 0 where
  pub nought_count : length nought ≡ length rows * states
  pub one_count : length one ≡ length rows * states
  pub small_nought : AreSmallGains nought
  pub small_one : AreSmallGains one
  pub somewhere : HoldsSomewhere (AllBestIn nought one states rows)
