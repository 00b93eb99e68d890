-- What a diagram is like that a text stands for: its tables' totals and its decimals are the least.
use Rattle.std.specs.Prelude.{◌≡◌, ℕ, zero, suc, ◌*◌, ◌/◌, ◌%◌, ◌^◌, ◌==◌, ℤ, unsigned_abs, nat_abs, List, map, sum, All, if◌then◌else◌}
use Rattle.std.specs.Int.{◌∣◌}
use Rattle.std.specs.List.{flat_map, list_all, range_with_len}
use Rattle.maid_model.specs.declared.diagrams.Kind.TheVariants.{Chance, Utility}
use Rattle.maid_model.specs.Nodes.{node_at, states_of, rows_of}
use Rattle.maid_model.specs.Placing.{IsLeast}
use Rattle.maid_model.specs.Tables.{chance_total}
use Rattle.maid_model.specs.Views.{DiagramView}
use Rattle.weight_scale.specs.Scaling.{row_at, IsCommonTotal}

-- the greatest number up to n that divides each
unfoldable pub greatest_divisor : ℕ → List ℕ → ℕ
greatest_divisor zero row = 0
greatest_divisor (suc n) row =
    if list_all (λ x. x % suc n == 0) row then suc n else greatest_divisor n row

-- the greatest common divisor of a row's weights, which isn't greater than their sum
abbrev pub row_divisor : List ℕ → ℕ
row_divisor row = greatest_divisor (sum row) row

-- the row over its greatest common divisor
abbrev pub reduced_row : List ℕ → List ℕ
reduced_row row = map (λ x. x / row_divisor row) row

-- the reduced rows of a table of so many rows, one after the other
abbrev pub reduced_rows : ℕ → ℕ → List ℤ → List ℕ
reduced_rows states rows cells =
    flat_map (λ r. reduced_row (map unsigned_abs (row_at states cells r))) (range_with_len 0 rows)

-- so many decimals are enough for all values of utilities: cell / 10^decimals * 10^k is whole
abbrev pub AreEnough : DiagramView → ℕ → Type 0
AreEnough d k = (v : ℕ) → (node_at d.nodes v).kind ≡ Utility
    → All (λ x. (10 ^ d.decimals) ∣ nat_abs x * 10 ^ k) (node_at d.nodes v).cells

-- W(v) is the least common multiple of the reduced rows' totals, and the decimals are the least
-- that all values of utilities need
pub record IsPlain (d : DiagramView) : Type 0 where
  pub weights : (v : ℕ) → (node_at d.nodes v).kind ≡ Chance
      → IsCommonTotal
      (reduced_rows (states_of d.nodes v) (rows_of d.nodes v) (node_at d.nodes v).cells)
      (states_of d.nodes v) (rows_of d.nodes v) (chance_total d.nodes v)
  pub decimals : IsLeast (AreEnough d) d.decimals
