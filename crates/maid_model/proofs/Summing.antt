-- The utilities of a world, node by node.
use Rattle.std.proofs.Common.{◌≡◌, ◌∙◌, ℕ, zero, suc, ◌+◌, ◌*◌, ◌^◌, ◌<◌, ◌≤◌, true, false, cond, List, [], ◌∷◌, length, sym, ap, subst, arith, ℤ, pos, negsuc, ◌+ℤ◌, nat_abs, slice_index_or}
use Rattle.std.proofs.lemmas.Int.{ints, to_z-of_z, fits_signed_from_abs}
use Rattle.std.proofs.Math.IntN.{+ℤ_assoc, +ℤ_idl, +ℤ_idr}
use Rattle.std.proofs.Math.Nat.{mul-le-mul_left}
use Rattle.std.specs.Int.{w128}
use Rattle.std.specs.Int.RustNames.{FitsSigned}
use mir.Val.{to_z, of_z}
use Rattle.maid_model.specs.Diagrams.{IsDiagram, greatest_number}
use Rattle.maid_model.specs.Gains.{greatest_abs, greatest_utility}
use Rattle.maid_model.specs.Nodes.{node_at, states_of, rows_of, numbers_of, counts_of, is_utility}
use Rattle.node_sets.specs.declared.sets.NodeSet.{NodeSet}
use Rattle.node_sets.specs.Sets.{holds}
use Rattle.maid_model.specs.Private.{marked_value, MarksUtilities}
use Rattle.finite_sums.specs.Sums.{World, sum_each, nat_sum_over}
use Rattle.maid_model.specs.Tables.{row_of}
use Rattle.maid_model.specs.Views.{NodeView, DiagramView}
use Rattle.maid_model.specs.Worlds.{IsWorld, world_of}
use Rattle.maid_model.proofs.Picked.{world_in_range}
use Rattle.maid_model.proofs.Tables.{row_of-below}
use Rattle.maid_model.proofs.Weighing.{rest_from, rest_first, rest_next, rest_none}

pub abs_add : (a b : ℤ) → nat_abs (a +ℤ b) ≤ nat_abs a + nat_abs b
abs_add (pos a) (pos b) = omega (arith, ints)
abs_add (pos a) (negsuc b) = omega (arith, ints)
abs_add (negsuc a) (pos b) = omega (arith, ints)
abs_add (negsuc a) (negsuc b) = omega (arith, ints)

-- the greatest absolute value of a utility, and 0 elsewhere
abbrev pub greatest_at : List NodeView → ℕ → ℕ
greatest_at nodes v = cond (is_utility (node_at nodes v).kind) (greatest_abs (node_at nodes v).cells) 0

pub cell_abs : (cells : List ℤ) (i : ℕ) → nat_abs (slice_index_or cells i (pos 0)) ≤ greatest_abs cells
cell_abs [] i = omega arith
cell_abs (x ∷ xs) zero = omega arith
cell_abs (x ∷ xs) (suc i) = omega (arith, cell_abs xs i)

-- the marked cells that a world picks
abbrev pub values : List NodeView → NodeSet → World → ℕ → ℤ
values nodes marks w v = marked_value nodes marks v w

pub value_le : (nodes : List NodeView) (marks : NodeSet) (w : World) (v : ℕ) → MarksUtilities nodes marks → v < length nodes → holds marks v ≡ true → nat_abs (values nodes marks w v) ≤ greatest_at nodes v
value_le nodes marks w v m l e =
    subst (λ b. nat_abs (cond b (slice_index_or (node_at nodes v).cells (row_of nodes v w) (pos 0)) (pos 0)) ≤ greatest_at nodes v) (sym e)
    (subst (λ k. nat_abs (slice_index_or (node_at nodes v).cells (row_of nodes v w) (pos 0)) ≤ cond (is_utility k) (greatest_abs (node_at nodes v).cells) 0) (sym (m v l e)) (cell_abs (node_at nodes v).cells (row_of nodes v w)))

-- the sum so far, with the values still to come
pub record SumSoFar (nodes : List NodeView) (f : ℕ → ℤ) (t : ℕ → ℕ) (total : ℤ) (i : ℕ) : Type 0 where
  pub value : total +ℤ sum_each f (rest_from nodes i) ≡ sum_each f (numbers_of nodes)
  pub bound : nat_abs total + nat_sum_over t (rest_from nodes i) ≤ nat_sum_over t (numbers_of nodes)

pub sum_start : (nodes : List NodeView) (f : ℕ → ℤ) (t : ℕ → ℕ) → SumSoFar nodes f t (pos 0) 0
sum_start nodes f t = record {
  value = +ℤ_idl (sum_each f (rest_from nodes 0)) ∙ ap (sum_each f) (rest_first nodes);
  bound = subst (λ l. 0 + nat_sum_over t l ≤ nat_sum_over t (numbers_of nodes)) (sym (rest_first nodes)) (omega arith);
}

module _ (nodes : List NodeView) (f : ℕ → ℤ) (t : ℕ → ℕ) (total : ℤ) (i : ℕ) (s : SumSoFar nodes f t total i) (i_in : i < length nodes) where
  pub sum_skip : f i ≡ pos 0 → SumSoFar nodes f t total (i + 1)
  sum_skip e = record {
    value = ap (λ y. total +ℤ y) (sym (+ℤ_idl (sum_each f (rest_from nodes (i + 1)))) ∙ ap (λ z. z +ℤ sum_each f (rest_from nodes (i + 1))) (sym e))
        ∙ sym (ap (λ l. total +ℤ sum_each f l) (rest_next nodes i i_in)) ∙ s.value;
    bound = go (nat_abs total) (t i) (nat_sum_over t (rest_from nodes (i + 1))) (nat_sum_over t (numbers_of nodes)) (subst (λ l. nat_abs total + nat_sum_over t l ≤ nat_sum_over t (numbers_of nodes)) (rest_next nodes i i_in) s.bound);
  }
    where
      go : (a g r u : ℕ) → a + (g + r) ≤ u → a + r ≤ u
      go a g r u h = omega arith

  module _ (x : ℤ) (x_is : x ≡ f i) (x_le : nat_abs x ≤ t i) where
    next_abs : nat_abs (total +ℤ x) + nat_sum_over t (rest_from nodes (i + 1)) ≤ nat_sum_over t (numbers_of nodes)
    next_abs =
        go (nat_abs (total +ℤ x)) (nat_abs total) (nat_abs x) (t i) (nat_sum_over t (rest_from nodes (i + 1))) (nat_sum_over t (numbers_of nodes)) (abs_add total x) x_le
        (subst (λ l. nat_abs total + nat_sum_over t l ≤ nat_sum_over t (numbers_of nodes)) (rest_next nodes i i_in) s.bound)
      where
        go : (y a x g r u : ℕ) → y ≤ a + x → x ≤ g → a + (g + r) ≤ u → y + r ≤ u
        go y a x g r u h j k = omega arith

    pub sum_step : SumSoFar nodes f t (total +ℤ x) (i + 1)
    sum_step = record {
      value = +ℤ_assoc total x (sum_each f (rest_from nodes (i + 1))) ∙ ap (λ y. total +ℤ (y +ℤ sum_each f (rest_from nodes (i + 1)))) x_is ∙ sym (ap (λ l. total +ℤ sum_each f l) (rest_next nodes i i_in)) ∙ s.value;
      bound = next_abs;
    }

    pub sum_fits : nat_abs (total +ℤ x) ≤ nat_sum_over t (numbers_of nodes)
    sum_fits = go (nat_abs (total +ℤ x)) (nat_sum_over t (rest_from nodes (i + 1))) (nat_sum_over t (numbers_of nodes)) next_abs
      where
        go : (a b c : ℕ) → a + b ≤ c → a ≤ c
        go a b c h = omega arith

pub sum_end : (nodes : List NodeView) (f : ℕ → ℤ) (t : ℕ → ℕ) (total : ℤ) (i : ℕ) → SumSoFar nodes f t total i → length nodes ≤ i → (total ≡ sum_each f (numbers_of nodes)) × (nat_abs total ≤ nat_sum_over t (numbers_of nodes))
sum_end nodes f t total i s h = (
  sym (+ℤ_idr total) ∙ sym (ap (λ l. total +ℤ sum_each f l) (rest_none nodes i h)) ∙ s.value,
  let b : nat_abs total + 0 ≤ nat_sum_over t (numbers_of nodes) = subst (λ l. nat_abs total + nat_sum_over t l ≤ nat_sum_over t (numbers_of nodes)) (rest_none nodes i h) s.bound in omega arith,
)

-- ---- in the words of the code
module _ (d : DiagramView) (is : IsDiagram d) (marks : NodeSet) (m : MarksUtilities d.nodes marks) (xs : List ℕ) (world : IsWorld (counts_of d.nodes) xs) (v : ℕ) (v_in : v < length d.nodes) where
  -- a node without a mark adds nothing
  pub unmarked : holds marks v ≡ false → values d.nodes marks (world_of xs) v ≡ pos 0
  unmarked e = ap (λ b. cond b (slice_index_or (node_at d.nodes v).cells (row_of d.nodes v (world_of xs)) (pos 0)) (pos 0)) e

  module _ (marked : holds marks v ≡ true) (row : ℕ) (cells : List ℤ) (row_is : row ≡ row_of d.nodes v (world_of xs)) (cells_are : cells ≡ (node_at d.nodes v).cells) where
    row_below : row_of d.nodes v (world_of xs) < rows_of d.nodes v
    row_below = row_of-below d.nodes v (world_of xs) (world_in_range d.nodes xs is.graph.has_state world)

    pub row_small : row < 65536
    row_small = go row (row_of d.nodes v (world_of xs)) (rows_of d.nodes v) (states_of d.nodes v) row_is row_below (is.graph.has_state v) (is.limits.cells v v_in)
      where
        go : (x y n k : ℕ) → x ≡ y → y < n → 0 < k → n * k ≤ 65536 → x < 65536
        go x y n k e l h m = omega (arith, mul-le-mul_left n h)

    pub row_inside : row < length cells
    row_inside = subst (λ n. row < n) (sym (ap length cells_are ∙ is.values.utility v v_in (m v v_in marked))) (subst (λ r. r < rows_of d.nodes v) (sym row_is) row_below)

    read_is : slice_index_or cells row (pos 0) ≡ values d.nodes marks (world_of xs) v
    read_is = (λ i. slice_index_or (cells_are i) (row_is i) (pos 0)) ∙ sym (ap (λ b. cond b (slice_index_or (node_at d.nodes v).cells (row_of d.nodes v (world_of xs)) (pos 0)) (pos 0)) marked)

    read_le : nat_abs (slice_index_or cells row (pos 0)) ≤ greatest_at d.nodes v
    read_le = subst (λ z. nat_abs z ≤ greatest_at d.nodes v) (sym read_is) (value_le d.nodes marks (world_of xs) v m v_in marked)

    module _ (total : ℤ) (s : SumSoFar d.nodes (values d.nodes marks (world_of xs)) (greatest_at d.nodes) total v) (fits : greatest_utility d.nodes ≤ greatest_number) where
      own_le : greatest_at d.nodes v ≤ greatest_utility d.nodes
      own_le = go (nat_abs total) (greatest_at d.nodes v) (nat_sum_over (greatest_at d.nodes) (rest_from d.nodes (v + 1))) (greatest_utility d.nodes) (subst (λ l. nat_abs total + nat_sum_over (greatest_at d.nodes) l ≤ greatest_utility d.nodes) (rest_next d.nodes v v_in) s.bound)
        where
          go : (a g r u : ℕ) → a + (g + r) ≤ u → g ≤ u
          go a g r u h = omega arith

      small : (z : ℤ) → nat_abs z ≤ greatest_utility d.nodes → FitsSigned w128 z
      small z h = fits_signed_from_abs w128 z (less (nat_abs z) (greatest_utility d.nodes) h fits)
        where
          less : (a n : ℕ) → a ≤ n → n ≤ greatest_number → a < 2 ^ 127
          less a n h k = omega arith

      read_back : to_z w128 (of_z w128 (slice_index_or cells row (pos 0))) ≡ slice_index_or cells row (pos 0)
      read_back = to_z-of_z w128 (slice_index_or cells row (pos 0)) (small (slice_index_or cells row (pos 0)) (trans (nat_abs (slice_index_or cells row (pos 0))) (greatest_at d.nodes v) (greatest_utility d.nodes) read_le own_le))
        where
          trans : (a b c : ℕ) → a ≤ b → b ≤ c → a ≤ c
          trans a b c h k = omega arith

      total_fits : FitsSigned w128 (total +ℤ slice_index_or cells row (pos 0))
      total_fits = small (total +ℤ slice_index_or cells row (pos 0)) (sum_fits d.nodes (values d.nodes marks (world_of xs)) (greatest_at d.nodes) total v s v_in (slice_index_or cells row (pos 0)) read_is read_le)

      pub code_fits : FitsSigned w128 (total +ℤ to_z w128 (of_z w128 (slice_index_or cells row (pos 0))))
      code_fits = subst (λ z. FitsSigned w128 (total +ℤ z)) (sym read_back) total_fits

      pub code_step : SumSoFar d.nodes (values d.nodes marks (world_of xs)) (greatest_at d.nodes) (to_z w128 (of_z w128 (total +ℤ to_z w128 (of_z w128 (slice_index_or cells row (pos 0)))))) (v + 1)
      code_step =
          subst (λ z. SumSoFar d.nodes (values d.nodes marks (world_of xs)) (greatest_at d.nodes) z (v + 1))
          (sym (ap (λ z. to_z w128 (of_z w128 (total +ℤ z))) read_back ∙ to_z-of_z w128 (total +ℤ slice_index_or cells row (pos 0)) total_fits))
          (sum_step d.nodes (values d.nodes marks (world_of xs)) (greatest_at d.nodes) total v s v_in (slice_index_or cells row (pos 0)) read_is read_le)
