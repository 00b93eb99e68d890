-- Counts that stop.
use Rattle.std.specs.Prelude.{ℕ, Bool, List, if◌then◌else◌}
use Rattle.maid_model.specs.Bounds.{stopped}
use Rattle.maid_model.specs.Nodes.{states_of, numbers_of}
use Rattle.maid_model.specs.Views.{NodeView}
use Rattle.finite_sums.specs.Sums.{nat_product_over}

-- the cells of a table over the nodes that pass the test: the product of their counts of states,
-- which stops at 10^18
abbrev pub counted_cells : List NodeView → (ℕ → Bool) → ℕ
counted_cells nodes scope =
    stopped (nat_product_over (λ u. if scope u then states_of nodes u else 1) (numbers_of nodes))
