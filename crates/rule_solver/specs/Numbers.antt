-- The kinds of cell that are numbers. Proofs stand here since ghost members cite them; only private
-- code does.
use Rattle.std.proofs.Common.{refl}
use Rattle.std.specs.Prelude.{pos}
use Rattle.cell_rings.specs.Kinds.{gain_kind, as_gain, small_gain_kind, small_gain_of}
use Rattle.factor_core.specs.Operations.{cells_by}
use Rattle.plan_sums.specs.Laws.{IsCellMap}
use Rattle.plan_sums.specs.Plans.{gain_cells}

pub gain_numbers :
    IsCellMap (cells_by gain_kind (λ w. as_gain (pos w)) as_gain) gain_cells (λ a. a.0)
gain_numbers = record {
  ring = record { nought = refl; unit = refl; plus = λ a b. refl; times = λ a b. refl };
  weight = λ w. refl;
  value = λ v. refl;
}

pub small_gain_numbers : IsCellMap
    (cells_by small_gain_kind (λ w. small_gain_of (pos w)) small_gain_of) gain_cells (λ a. a.0)
small_gain_numbers = record {
  ring = record { nought = refl; unit = refl; plus = λ a b. refl; times = λ a b. refl };
  weight = λ w. refl;
  value = λ v. refl;
}
