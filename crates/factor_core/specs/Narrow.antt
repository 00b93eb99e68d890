-- Stretches of narrow cells. Only private contracts cite this file.
use Rattle.std.specs.Prelude.{ℕ, ◌<◌, ◌≤◌, List}
use Rattle.cell_rings.specs.Rings.{Ring}
use Rattle.cell_rings.specs.Sums.{cell_at}
use Rattle.factor_core.specs.declared.narrow.Narrow.{Narrow}

-- the cells at these places are narrow
abbrev pub AreNarrow : {C : Type 0} → Ring C → (C → ℕ) → ℕ → List C → Narrow → Type 0
AreNarrow r bits narrow cells at =
    (k : ℕ) → at.from ≤ k → k < at.end → bits (cell_at r cells k) < narrow
