-- What holds of every numeral, of every scaling and of the place of a bound.
use Rattle.std.specs.Prelude.{◌≡◌, ◌⊎◌, ◌<◌, ◌/◌, ℕ, List, length}
use Rattle.std.specs.Int.{◌∣◌}
use Rattle.maid_model.specs.Tables.{IsTable}
use Rattle.maid_model.specs.Views.{DiagramView}
use Rattle.weight_scale.specs.declared.decimal.Decimal.{Decimal}
use Rattle.weight_scale.specs.declared.weight_bound.BoundPlace.{BoundPlace}
use Rattle.weight_scale.specs.Bound.{IsBoundPlace}
use Rattle.weight_scale.specs.Numeral.{numerator, denominator, IsDecimalOf, IsLeastDecimalOf}
use Rattle.weight_scale.specs.Views.{ScaledView}
use Rattle.weight_scale.specs.Scaling.{NoneNegative, NoZeroRow, IsScaled, IsTooWide}

-- each numeral has a decimal, with fewest decimals, or none at all
abbrev pub DecimalOrNone : Type 0
DecimalOrNone = (numeral : List ℕ) → ((d : Decimal) × IsLeastDecimalOf (numerator numeral)
    (denominator numeral) d)
    ⊎ ((d : Decimal) → IsDecimalOf (numerator numeral) (denominator numeral) d → ⊥)

-- rows without numbers below nought and of totals above nought have a scaling, or too great a
-- common total
abbrev pub ScaledOrTooWide : Type 0
ScaledOrTooWide = (rows : List Decimal) (states : ℕ) → 0 < states → states ∣ length rows
    → NoneNegative rows → NoZeroRow rows states (length rows / states)
    → ((scaled : ScaledView) × IsScaled rows states scaled) ⊎ IsTooWide rows states

-- and never both
abbrev pub NeverScaledAndTooWide : Type 0
NeverScaledAndTooWide = (rows : List Decimal) (states : ℕ) (scaled : ScaledView)
    → IsScaled rows states scaled → IsTooWide rows states → ⊥

-- scaled rows are a table
abbrev pub ScaledIsTable : Type 0
ScaledIsTable = (rows : List Decimal) (states : ℕ) (scaled : ScaledView) → 0 < states
    → states ∣ length rows → IsScaled rows states scaled
    → IsTable scaled.weights (length rows / states) states scaled.total

-- two scalings of the same rows are equal
abbrev pub ScalesInOneWay : Type 0
ScalesInOneWay = (rows : List Decimal) (states : ℕ) (a b : ScaledView) → 0 < states
    → states ∣ length rows → IsScaled rows states a → IsScaled rows states b → a ≡ b

-- the bounds of all scopes hold, or the first that fails has a place
abbrev pub HasBoundPlace : Type 0
HasBoundPlace = (d : DiagramView) → (place : BoundPlace) × IsBoundPlace d place

-- and never two
abbrev pub OneBoundPlace : Type 0
OneBoundPlace = (d : DiagramView) (a b : BoundPlace) → IsBoundPlace d a → IsBoundPlace d b → a ≡ b
