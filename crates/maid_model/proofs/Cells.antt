-- Rows and columns of tables, parent by parent and state by state.
use Rattle.std.proofs.Common.{◌≡◌, ◌∙◌, ℕ, zero, suc, ◌+◌, ◌-◌, ◌*◌, ◌^◌, ◌<◌, ◌≤◌, List, [], ◌∷◌, length, get_or, drop, sym, ap, subst, arith, Contains, ℤ, pos, ◌+ℤ◌, ◌≤ℤ◌, nat_abs, slice_index_or}
use Rattle.std.proofs.lemmas.Int.{ints, fits_signed_from_abs, to_z-of_z}
use Rattle.std.proofs.lemmas.List.Elements.{Contains-get_or}
use Rattle.std.proofs.Math.Seq.{drop-cons}
use Rattle.std.proofs.Math.Numerals.{add-one}
use Rattle.std.proofs.Math.Nat.{mul-le-mul_left, mul-le-mul_right, mul_assoc}
use Rattle.std.specs.Int.{w128}
use mir.Val.{to_z, of_z}
use Rattle.maid_model.specs.declared.diagrams.Kind.TheVariants.{Chance}
use Rattle.maid_model.specs.Nodes.{node_at, states_of, parents_of, rows_of, rows_under}
use Rattle.maid_model.specs.Views.{NodeView, DiagramView}
use Rattle.maid_model.specs.Graph.{IsGraph}
use Rattle.maid_model.specs.Diagrams.{IsDiagram}
use Rattle.finite_sums.specs.Sums.{sum_below}

pub drop_at : (us : List ℕ) (i : ℕ) → i < length us → drop i us ≡ get_or us i 0 ∷ drop (i + 1) us
drop_at us i h = drop-cons us i 0 h ∙ ap (λ n. get_or us i 0 ∷ drop n us) (sym (add-one i))

-- there is a row
pub rows_positive : (count : ℕ → ℕ) (us : List ℕ) → ((v : ℕ) → 0 < count v) → 0 < rows_under count us
rows_positive count [] h = omega arith
rows_positive count (u ∷ us) h = let a : 0 < count u = h u in let b : 0 < rows_under count us = rows_positive count us h in omega (arith, mul-le-mul_left (count u) b)

-- a parent that the code reads is a node
pub parent_known : (nodes : List NodeView) (v i : ℕ) (us : List ℕ) → IsGraph nodes → us ≡ parents_of nodes v → i < length us → get_or us i 0 < length nodes
parent_known nodes v i us g e l = g.parents_known (get_or us i 0) v (subst (λ (xs : List ℕ). Contains xs (get_or us i 0)) e (Contains-get_or us i 0 l))

-- the rows of the parents before place i, with those of the others still to come
pub record RowsSoFar (nodes : List NodeView) (v rows : ℕ) (us : List ℕ) (i : ℕ) : Type 0 where
  pub parents : us ≡ parents_of nodes v
  pub rest : rows * rows_under (states_of nodes) (drop i us) ≡ rows_of nodes v

module _ (d : DiagramView) (is : IsDiagram d) (v rows i u c : ℕ) (us : List ℕ) (v_in : v < length d.nodes) (s : RowsSoFar d.nodes v rows us i) (i_in : i < length us) (u_is : u ≡ get_or us i 0) (c_is : c ≡ states_of d.nodes u) where
  pub rows_next : rows * c * rows_under (states_of d.nodes) (drop (i + 1) us) ≡ rows_of d.nodes v
  rows_next =
      ap (λ n. rows * n * rows_under (states_of d.nodes) (drop (i + 1) us)) (c_is ∙ ap (states_of d.nodes) u_is)
      ∙ mul_assoc rows (states_of d.nodes (get_or us i 0)) (rows_under (states_of d.nodes) (drop (i + 1) us))
      ∙ ap (λ l. rows * rows_under (states_of d.nodes) l) (sym (drop_at us i i_in)) ∙ s.rest

  pub rows_fit : rows * c ≤ 65536
  rows_fit = go (rows * c) (rows_under (states_of d.nodes) (drop (i + 1) us)) (rows_of d.nodes v) (states_of d.nodes v) rows_next (rows_positive (states_of d.nodes) (drop (i + 1) us) is.graph.has_state) (is.graph.has_state v) (is.limits.cells v v_in)
    where
      go : (a r n k : ℕ) → a * r ≡ n → 0 < r → 0 < k → n * k ≤ 65536 → a ≤ 65536
      go a r n k e h j l = omega (arith, mul-le-mul_left a h, mul-le-mul_left n j)

-- ---- the total of the first row
sum_grows : (f : ℕ → ℤ) → ((i : ℕ) → pos 0 ≤ℤ f i) → (i n : ℕ) → sum_below i f ≤ℤ sum_below (i + n) f
sum_grows f h i zero = grind (arith, ints)
sum_grows f h i (suc n) = let a : sum_below i f ≤ℤ sum_below (i + n) f = sum_grows f h i n in let b : pos 0 ≤ℤ f (i + n) = h (i + n) in subst (λ k. sum_below i f ≤ℤ sum_below k f) (shift i n) (omega (arith, ints))
  where
    shift : (i n : ℕ) → suc (i + n) ≡ i + suc n
    shift i n = omega arith

pub sum_grows_to : (f : ℕ → ℤ) → ((i : ℕ) → pos 0 ≤ℤ f i) → (i n : ℕ) → i ≤ n → sum_below i f ≤ℤ sum_below n f
sum_grows_to f h i n l = subst (λ k. sum_below i f ≤ℤ sum_below k f) (back i n l) (sum_grows f h i (n - i))
  where
    back : (i n : ℕ) → i ≤ n → i + (n - i) ≡ n
    back i n l = omega arith

module _ (cells : List ℤ) (states s total : ℕ) (nn : (i : ℕ) → pos 0 ≤ℤ slice_index_or cells i (pos 0)) (small : nat_abs (sum_below states (λ i. slice_index_or cells i (pos 0))) < 2 ^ 127)
    (so_far : pos total ≡ sum_below s (λ i. slice_index_or cells i (pos 0))) (l : s < states) where
  abbrev f : ℕ → ℤ
  f i = slice_index_or cells i (pos 0)

  next_le : sum_below (suc s) f ≤ℤ sum_below states f
  next_le = sum_grows_to f nn (suc s) states (omega arith)

  cell_back : to_z w128 (of_z w128 (f s)) ≡ f s
  cell_back = to_z-of_z w128 (f s) (fits_signed_from_abs w128 (f s) (go total (f s) (sum_below states f) (nn s) (subst (λ z. (z +ℤ f s) ≤ℤ sum_below states f) (sym so_far) next_le) small))
    where
      go : (t : ℕ) (x y : ℤ) → pos 0 ≤ℤ x → (pos t +ℤ x) ≤ℤ y → nat_abs y < 2 ^ 127 → nat_abs x < 2 ^ 127
      go t x y a b c = omega (arith, ints)

  pub total_fits : total + nat_abs (to_z w128 (of_z w128 (f s))) < 2 ^ 127
  total_fits = subst (λ z. total + nat_abs z < 2 ^ 127) (sym cell_back) (go total (f s) (sum_below states f) (nn s) (subst (λ z. (z +ℤ f s) ≤ℤ sum_below states f) (sym so_far) next_le) small)
    where
      go : (t : ℕ) (x y : ℤ) → pos 0 ≤ℤ x → (pos t +ℤ x) ≤ℤ y → nat_abs y < 2 ^ 127 → t + nat_abs x < 2 ^ 127
      go t x y a b c = omega (arith, ints)

-- ---- chance nodes
pub is_node : (nodes : List NodeView) (v : ℕ) → (node_at nodes v).kind ≡ Chance → v < length nodes
is_node [] v h = absurd (cc)
is_node (n ∷ ns) zero h = omega arith
is_node (n ∷ ns) (suc v) h = omega (arith, is_node ns v h)

-- a table has a cell for each state of a row
pub row_within : (d : DiagramView) (v : ℕ) (cells : List ℤ) → IsDiagram d → (node_at d.nodes v).kind ≡ Chance → cells ≡ (node_at d.nodes v).cells → states_of d.nodes v ≤ length cells
row_within d v cells is k e =
    go (length cells) (rows_of d.nodes v) (states_of d.nodes v) (ap length e ∙ (is.tables.table v k).len) (rows_positive (states_of d.nodes) (parents_of d.nodes v) is.graph.has_state)
  where
    go : (l r s : ℕ) → l ≡ r * s → 0 < r → s ≤ l
    go l r s e h = omega (arith, mul-le-mul_right s h)
