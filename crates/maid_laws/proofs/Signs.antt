-- No weight is below nought, and what each table adds up to.
use Rattle.std.proofs.Common.{◌≡◌, ◌∙◌, ℕ, ◌+◌, ◌*◌, ◌<◌, ◌≤◌, List, [], ◌∷◌, map, length, slice_index, slice_index_or, refl, sym, ap, arith, ℤ, pos, ◌*ℤ◌, ◌≤ℤ◌}
use Rattle.std.proofs.lemmas.Int.{ints}
use Rattle.std.proofs.Math.Decide.{dec_lt}
use Rattle.maid_model.specs.declared.diagrams.Kind.{Kind}
use Rattle.maid_model.specs.declared.diagrams.Kind.TheVariants.{Chance, Decision, Utility}
use Rattle.maid_model.specs.Nodes.{node_at, states_of, rows_under}
use Rattle.finite_sums.specs.Sums.{World, product_over, nat_product_over}
use Rattle.maid_model.specs.Tables.{cell_of, table, table_by, weights_of, weight_total}
use Rattle.maid_model.specs.Views.{NodeView, RuleView}
use Rattle.maid_model.proofs.Setting.{TableFits, HasTables}
use Rattle.finite_sums.proofs.Sums.{sum_below_cong}
use Rattle.maid_model.proofs.Tables.{TableSums}
use Rattle.maid_model.proofs.Adding.{cell_not_negative}
use Rattle.maid_model.proofs.Weighing.{pos_at}
use Rattle.maid_laws.proofs.Ranks.{past_end}

-- no table is below nought
pub table_not_negative : (nodes : List NodeView) (p : List RuleView) → HasTables nodes p → (v : ℕ) (w : World) → pos 0 ≤ℤ table nodes p v w
table_not_negative nodes p h v w = go (dec_lt v (length nodes))
  where
    past : ¬ (v < length nodes) → length nodes ≤ v
    past n = omega arith

    utility_one : (k : Kind) (cells : List ℤ) (ws : List ℕ) (c : ℕ) → k ≡ Utility → pos 0 ≤ℤ table_by k cells ws c
    utility_one Chance cells ws c e = cc
    utility_one Decision cells ws c e = cc
    utility_one Utility cells ws c e = omega (arith, ints)

    go : Dec (v < length nodes) → pos 0 ≤ℤ table nodes p v w
    go (yes l) = cell_not_negative (node_at nodes v).kind (node_at nodes v).cells (weights_of p v) (rows_under (states_of nodes) (node_at nodes v).parents) (states_of nodes v) (weight_total nodes p v) (cell_of nodes v w) (h.at v l)
    go (no n) = utility_one (node_at nodes v).kind (node_at nodes v).cells (weights_of p v) (cell_of nodes v w) (ap (λ x. x.kind) (past_end nodes v (past n)))

-- a product of naturals
pub pos_product : (f : ℕ → ℕ) (vs : List ℕ) → product_over (λ v. pos (f v)) vs ≡ pos (nat_product_over f vs)
pos_product f [] = refl
pos_product f (v ∷ vs) = ap (λ x. pos (f v) *ℤ x) (pos_product f vs)

-- by the kind of node
pub table_sums : (k : Kind) (cells : List ℤ) (weights : List ℕ) (rows states total : ℕ) → TableFits k cells weights rows states total → (k ≡ Utility → total ≡ 1) → TableSums k cells weights rows states (pos total)
table_sums Chance cells weights rows states total t u = record { row = t.row }
table_sums Decision cells weights rows states total t u = record { row = λ r l. sum_below_cong states (λ s. pos (slice_index weights (r * states + s))) (λ s. slice_index_or (map pos weights) (r * states + s) (pos 0)) (λ s k. sym (pos_at weights (r * states + s))) ∙ t.row r l }
table_sums Utility cells weights rows states total t u = (t, ap pos (u refl))
