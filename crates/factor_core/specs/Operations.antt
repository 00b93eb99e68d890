-- What operations make of tables, and what they ask of the cells.
use Rattle.std.specs.Prelude.{ℕ, ◌*◌, ◌≤◌, not, ◌&&◌, ◌==◌, List, map, All, ℤ, pos, nat_abs, if◌then◌else◌}
use Rattle.finite_sums.specs.Sums.{World, InRange, with_state}
use Rattle.maid_model.specs.declared.diagrams.Kind.{Kind}
use Rattle.maid_model.specs.declared.diagrams.Kind.TheVariants.{Chance, Decision, Utility}
use Rattle.maid_model.specs.Views.{NodeView, RuleView}
use Rattle.maid_model.specs.Nodes.{node_at, is_utility, rows_of, states_of}
use Rattle.maid_model.specs.Tables.{weights_of}
use Rattle.cell_rings.specs.declared.cells.Cell.{Ghosts}
use Rattle.cell_rings.specs.Rings.{Ring, mass_ring}
use Rattle.cell_rings.specs.Sums.{ring_sum}
use Rattle.ring_sums.specs.Tables.{Table, joined, product_of}
use Rattle.plan_sums.specs.Plans.{Cells, node_table, utility_table}

-- the product of tables, over their joined scope
abbrev pub product_table : {C : Type 0} → Ring C → List (Table C) → Table C
product_table r ts = record { holds = joined ts; cell = product_of r ts }

-- the table at one state of a node, over its other nodes
abbrev pub restricted : {C : Type 0} → ℕ → ℕ → Table C → Table C
restricted v s t =
    record { holds = λ u. t.holds u && not (u == v); cell = λ w. t.cell (with_state w v s) }

-- the sum of the sizes over the node's states fits
pub record SumFits {C : Type 0} (r : Ring C) (count : ℕ → ℕ) (v : ℕ) (t : Table C) : Type 0 where
  pub sum : (w : World) → InRange count w
      → ring_sum mass_ring (count v) (λ s. r.size (t.cell (with_state w v s))) ≤ r.most

-- the first table of a node: a chance node's or decision's over itself and its parents, a utility's
-- over its parents
abbrev pub first_table : {C : Type 0} → Cells C → List NodeView → List RuleView → ℕ → Table C
first_table c nodes p v =
    if is_utility (node_at nodes v).kind then utility_table c nodes v else node_table c nodes p v

-- how many cells it has
abbrev pub first_count : List NodeView → ℕ → ℕ
first_count nodes v =
    if is_utility (node_at nodes v).kind then rows_of nodes v else rows_of nodes v * states_of nodes v

-- the numbers of a node's first table by its kind: a decision's are the weights of its rule
abbrev pub numbers_by : Kind → List ℤ → List ℕ → List ℤ
numbers_by Chance cells weights = cells
numbers_by Decision cells weights = map pos weights
numbers_by Utility cells weights = cells

-- the numbers of the node's first table
abbrev pub numbers_in : List NodeView → List RuleView → ℕ → List ℤ
numbers_in nodes p v = numbers_by (node_at nodes v).kind (node_at nodes v).cells (weights_of p v)

-- they are at most half of what fits in absolute value
abbrev pub NumbersFit : ℕ → List NodeView → List RuleView → ℕ → Type 0
NumbersFit most nodes p v = All (λ z. 2 * nat_abs z ≤ most) (numbers_in nodes p v)

-- a kind of cell, as plans see it
abbrev pub cells_by : {C : Type 0} → Ring C → (ℕ → C) → (ℤ → C) → Cells C
cells_by r weight value = record { ring = r; weight = weight; value = value }

-- the kind that a type of cells is, as plans see it
abbrev pub cells_of : {C : Type 0} → Ghosts C → Cells C
cells_of kind = cells_by kind.ring kind.of_weight kind.of_value
