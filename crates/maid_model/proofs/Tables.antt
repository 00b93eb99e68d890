-- Tables of a diagram: at which nodes they look, and what they sum to.
use Rattle.std.proofs.Common.{◌≡◌, ◌≢◌, ℕ, ◌+◌, ◌*◌, ◌<◌, ◌≤◌, List, [], ◌∷◌, slice_index, slice_index_or, ℤ, pos, refl, sym, ap, subst, ◌∙◌, arith}
use Rattle.std.proofs.Math.Nat.{mul-le-mul_right, mul_assoc}
use Rattle.maid_model.specs.declared.diagrams.Kind.{Kind}
use Rattle.maid_model.specs.declared.diagrams.Kind.TheVariants.{Chance, Decision, Utility}
use Rattle.finite_sums.specs.Members.{Avoids}
use Rattle.finite_sums.specs.Looks.{Ignores, HasTotal}
use Rattle.maid_model.specs.Nodes.{node_at, states_of, rows_under}
use Rattle.finite_sums.specs.Sums.{World, with_state, sum_below, InRange}
use Rattle.maid_model.specs.Tables.{row_from, row_of, table, table_by, weights_of}
use Rattle.maid_model.specs.Views.{NodeView, RuleView}
use Rattle.finite_sums.proofs.Sums.{sum_below_cong, with_same, with_other, with_own}

-- ---- rows
pub row_from_other : (count : ℕ → ℕ) (w : World) (v s : ℕ) (us : List ℕ) → Avoids v us → (row : ℕ) → row_from count (with_state w v s) row us ≡ row_from count w row us
row_from_other count w v s [] h row = refl
row_from_other count w v s (u ∷ us) h row =
    ap (λ x. row_from count (with_state w v s) (row * count u + x) us) (with_other w v s u h.0)
    ∙ row_from_other count w v s us h.1 (row * count u + w u)

pub step_below : (row r c x : ℕ) → row < r → x < c → row * c + x < r * c
step_below row r c x h k = omega (arith, mul-le-mul_right c h)

pub row_from_below : (count : ℕ → ℕ) (w : World) → InRange count w → (us : List ℕ) (row r : ℕ) → row < r → row_from count w row us < r * rows_under count us
row_from_below count w i [] row r h = omega arith
row_from_below count w i (u ∷ us) row r h =
    subst (λ x. row_from count w (row * count u + w u) us < x) (mul_assoc r (count u) (rows_under count us))
    (row_from_below count w i us (row * count u + w u) (r * count u) (step_below row r (count u) (w u) h (i.state u)))

pub row_of-below : (nodes : List NodeView) (v : ℕ) (w : World) → InRange (states_of nodes) w → row_of nodes v w < rows_under (states_of nodes) (node_at nodes v).parents
row_of-below nodes v w i = omega (arith, row_from_below (states_of nodes) w i (node_at nodes v).parents 0 1 (omega arith))

-- ---- at which nodes a table looks
pub table_ignores : (nodes : List NodeView) (p : List RuleView) (v u : ℕ) → v ≢ u → Avoids u (node_at nodes v).parents → Ignores (states_of nodes) (table nodes p v) u
table_ignores nodes p v u n h = record {
  same = λ w i s l.
      ap (table_by (node_at nodes v).kind (node_at nodes v).cells (weights_of p v))
      (λ j. row_from_other (states_of nodes) w u s (node_at nodes v).parents h 0 j * states_of nodes v + with_other w u s v n j);
}

-- a node of one state is looked at by no table
pub one_state_ignored : (count : ℕ → ℕ) (f : World → ℤ) (u : ℕ) → count u ≤ 1 → Ignores count f u
one_state_ignored count f u h = record { same = λ w i s l. ap f (with_own w u s (let a : w u < count u = i.state u in omega arith)) }

-- ---- totals
-- in every row the cells sum to the total
pub record RowsSum (cells : List ℤ) (rows states : ℕ) (total : ℤ) : Type 0 where
  pub row : (r : ℕ) → r < rows → sum_below states (λ s. slice_index_or cells (r * states + s) (pos 0)) ≡ total

-- the same for a rule
pub record RuleSums (weights : List ℕ) (rows states : ℕ) (total : ℤ) : Type 0 where
  pub row : (r : ℕ) → r < rows → sum_below states (λ s. pos (slice_index weights (r * states + s))) ≡ total

-- v's table has a total in every row
abbrev pub TableSums : Kind → List ℤ → List ℕ → ℕ → ℕ → ℤ → Type 0
TableSums Chance cells weights rows states total = RowsSum cells rows states total
TableSums Decision cells weights rows states total = RuleSums weights rows states total
TableSums Utility cells weights rows states total = (states ≡ 1) × (total ≡ pos 1)

sums_at : (k : Kind) (cells : List ℤ) (weights : List ℕ) (rows states : ℕ) (total : ℤ) → TableSums k cells weights rows states total
    → (r : ℕ) → r < rows → sum_below states (λ s. table_by k cells weights (r * states + s)) ≡ total
sums_at Chance cells weights rows states total h r l = h.row r l
sums_at Decision cells weights rows states total h r l = h.row r l
sums_at Utility cells weights rows states total h r l = ap (λ n. sum_below n (λ s. pos 1)) h.0 ∙ sym h.1

pub table-total : (nodes : List NodeView) (p : List RuleView) (total : ℕ → ℤ) (v : ℕ) → Avoids v (node_at nodes v).parents
    → TableSums (node_at nodes v).kind (node_at nodes v).cells (weights_of p v) (rows_under (states_of nodes) (node_at nodes v).parents) (states_of nodes v) (total v)
    → HasTotal (states_of nodes) (table nodes p) total v
table-total nodes p total v h t = record {
  sums = λ w i.
      sum_below_cong (states_of nodes v) (λ s. table nodes p v (with_state w v s)) (λ s. table_by (node_at nodes v).kind (node_at nodes v).cells (weights_of p v) (row_of nodes v w * states_of nodes v + s))
      (λ s l. ap (table_by (node_at nodes v).kind (node_at nodes v).cells (weights_of p v))
      (λ j. row_from_other (states_of nodes) w v s (node_at nodes v).parents h 0 j * states_of nodes v + with_same w v s j))
      ∙ sums_at (node_at nodes v).kind (node_at nodes v).cells (weights_of p v) (rows_under (states_of nodes) (node_at nodes v).parents) (states_of nodes v) (total v) t (row_of nodes v w) (row_of-below nodes v w i);
}
