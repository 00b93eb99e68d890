-- The tables of nodes and the rules of decisions: which cell a world picks, and what a row adds up
-- to.
use Rattle.std.specs.Prelude.{◌≡◌, ℕ, ◌+◌, ◌*◌, ◌<◌, ◌≤ℤ◌, List, [], ◌∷◌, length, slice_index, slice_index_or, ℤ, pos, nat_abs, ◌==◌, if◌then◌else◌}
use Rattle.maid_model.specs.declared.diagrams.Kind.{Kind}
use Rattle.maid_model.specs.declared.diagrams.Kind.TheVariants.{Chance, Decision, Utility}
use Rattle.maid_model.specs.Views.{NodeView, RuleView}
use Rattle.maid_model.specs.Nodes.{node_at, states_of, parents_of, rows_of}
use Rattle.finite_sums.specs.Sums.{World, sum_below}

-- the row that the world gives to these parents, the first parent slowest; `row` stands for those
-- before them
abbrev pub row_from : (ℕ → ℕ) → World → ℕ → List ℕ → ℕ
row_from count w row [] = row
row_from count w row (u ∷ us) = row_from count w (row * count u + w u) us

-- the row that the world gives to v
abbrev pub row_of : List NodeView → ℕ → World → ℕ
row_of nodes v w = row_from (states_of nodes) w 0 (parents_of nodes v)

-- the place of the cell that the world picks in a table with a column for each state, v's own state
-- fastest
abbrev pub cell_of : List NodeView → ℕ → World → ℕ
cell_of nodes v w = row_of nodes v w * states_of nodes v + w v

-- the weights of the decision's rule
abbrev pub weights_of : List RuleView → ℕ → List ℕ
weights_of [] v = []
weights_of (r ∷ rs) v = if r.decision == v then r.weights else weights_of rs v

-- what each row of the decision's rule adds up to
abbrev pub rule_total : List RuleView → ℕ → ℕ
rule_total [] v = 0
rule_total (r ∷ rs) v = if r.decision == v then r.total else rule_total rs v

-- the factor of a node of that kind: its own cell, its weight in the rule, or 1
abbrev pub table_by : Kind → List ℤ → List ℕ → ℕ → ℤ
table_by Chance cells weights c = slice_index_or cells c (pos 0)
table_by Decision cells weights c = pos (slice_index weights c)
table_by Utility cells weights c = pos 1

-- the chance cell or rule weight that the world picks at v; a utility's factor is 1
abbrev pub table : List NodeView → List RuleView → ℕ → World → ℤ
table nodes p v w =
    table_by (node_at nodes v).kind (node_at nodes v).cells (weights_of p v) (cell_of nodes v w)

-- W(v): what each row of a chance table adds up to, read off its first row
abbrev pub chance_total : List NodeView → ℕ → ℕ
chance_total nodes v =
    nat_abs (sum_below (states_of nodes v) (λ s. slice_index_or (node_at nodes v).cells s (pos 0)))

-- the total of a node of that kind: its own table's, its rule's, or 1
abbrev pub total_by : Kind → ℕ → ℕ → ℕ
total_by Chance chance rule = chance
total_by Decision chance rule = rule
total_by Utility chance rule = 1

-- what each row of v's table or rule adds up to; a utility's factor has the total 1
abbrev pub weight_total : List NodeView → List RuleView → ℕ → ℕ
weight_total nodes p v = total_by (node_at nodes v).kind (chance_total nodes v) (rule_total p v)

-- a table's cells: one for each row and state, none below nought, and in each row of the same total
pub record IsTable (cells : List ℤ) (rows states total : ℕ) : Type 0 where
  pub len : length cells ≡ rows * states
  pub not_negative : (i : ℕ) → pos 0 ≤ℤ slice_index_or cells i (pos 0)
  pub row : (r : ℕ) → r < rows
      → sum_below states (λ s. slice_index_or cells (r * states + s) (pos 0)) ≡ pos total

-- each chance node's cells are a table of one positive total
pub record HasChanceTables (nodes : List NodeView) : Type 0 where
  pub positive : (v : ℕ) → (node_at nodes v).kind ≡ Chance → 0 < chance_total nodes v
  pub table : (v : ℕ) → (node_at nodes v).kind ≡ Chance
      → IsTable (node_at nodes v).cells (rows_of nodes v) (states_of nodes v) (chance_total nodes v)
