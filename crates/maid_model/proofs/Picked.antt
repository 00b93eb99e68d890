-- The rows and cells that a world picks.
use Rattle.std.proofs.Common.{◌≡◌, ◌∙◌, ℕ, ◌+◌, ◌*◌, ◌<◌, ◌≤◌, List, [], ◌∷◌, length, get_or, drop, sym, ap, subst, arith, slice_index}
use Rattle.std.proofs.Math.Nat.{mul-le-mul_left, mul-le-mul_right}
use Rattle.std.proofs.Math.Decide.{dec_lt}
use Rattle.std.proofs.lemmas.List.{length-map, get_or_past, get_or_default}
use Rattle.maid_model.specs.Diagrams.{IsDiagram}
use Rattle.maid_model.specs.Nodes.{states_of, parents_of, counts_of, rows_of}
use Rattle.finite_sums.specs.Sums.{World, InRange}
use Rattle.maid_model.specs.Tables.{row_from, row_of, cell_of}
use Rattle.maid_model.specs.Views.{NodeView, DiagramView}
use Rattle.maid_model.specs.Worlds.{IsWorld, world_of}
use Rattle.maid_model.proofs.Cells.{drop_at}
use Rattle.maid_model.proofs.Tables.{row_of-below, step_below}
use Rattle.maid_model.proofs.Views.{counts_at}

-- a world has a state for each node
pub world_length : (nodes : List NodeView) (xs : List ℕ) → IsWorld (counts_of nodes) xs → length xs ≡ length nodes
world_length nodes xs w = w.len ∙ length-map nodes (λ n. n.states)

-- it is in range at all numbers
pub world_in_range : (nodes : List NodeView) (xs : List ℕ) → ((v : ℕ) → 0 < states_of nodes v) → IsWorld (counts_of nodes) xs → InRange (states_of nodes) (world_of xs)
world_in_range nodes xs h w = record { state = λ v. go v (dec_lt v (length xs)) }
  where
    past : (v : ℕ) → ¬ (v < length xs) → length xs ≤ v
    past v n = omega arith

    inside : (v : ℕ) → v < length xs → v < length nodes
    inside v l = omega (arith, world_length nodes xs w)

    go : (v : ℕ) → Dec (v < length xs) → world_of xs v < states_of nodes v
    go v (yes l) = subst (λ c. slice_index xs v < c) (sym (counts_at nodes v (inside v l))) (w.each v l)
    go v (no n) = subst (λ x. x < states_of nodes v) (sym (get_or_past xs v 0 (past v n))) (h v)

-- the row so far, of the parents before place i
pub record RowSoFar (nodes : List NodeView) (v : ℕ) (w : World) (row : ℕ) (us : List ℕ) (i : ℕ) : Type 0 where
  pub parents : us ≡ parents_of nodes v
  pub rest : row_from (states_of nodes) w row (drop i us) ≡ row_of nodes v w

pub row_from-ge : (count : ℕ → ℕ) (w : World) → ((v : ℕ) → 0 < count v) → (us : List ℕ) (row : ℕ) → row ≤ row_from count w row us
row_from-ge count w h [] row = omega arith
row_from-ge count w h (u ∷ us) row = le row (count u) (w u) (row_from count w (row * count u + w u) us) (h u) (row_from-ge count w h us (row * count u + w u))
  where
    le : (r c x y : ℕ) → 0 < c → r * c + x ≤ y → r ≤ y
    le r c x y h k = omega (arith, mul-le-mul_left r h)

module _ (d : DiagramView) (is : IsDiagram d) (xs : List ℕ) (world : IsWorld (counts_of d.nodes) xs) (v : ℕ) (v_in : v < length d.nodes) where
  range : InRange (states_of d.nodes) (world_of xs)
  range = world_in_range d.nodes xs is.graph.has_state world

  row_small : row_of d.nodes v (world_of xs) < 65536
  row_small = go (row_of d.nodes v (world_of xs)) (rows_of d.nodes v) (states_of d.nodes v) (is.graph.has_state v) (row_of-below d.nodes v (world_of xs) range) (is.limits.cells v v_in)
    where
      go : (r n k : ℕ) → 0 < k → r < n → n * k ≤ 65536 → r < 65536
      go r n k h a b = omega (arith, mul-le-mul_left n h)

  -- ---- parent by parent
  module _ (row i c x : ℕ) (us : List ℕ) (s : RowSoFar d.nodes v (world_of xs) row us i) (i_in : i < length us) (c_is : c ≡ states_of d.nodes (get_or us i 0)) (x_at : x ≡ get_or xs (get_or us i 0) x) (u_in : get_or us i 0 < length xs) where
    x_is : x ≡ world_of xs (get_or us i 0)
    x_is = x_at ∙ get_or_default xs (get_or us i 0) x 0 u_in

    row_next : row_from (states_of d.nodes) (world_of xs) (row * c + x) (drop (i + 1) us) ≡ row_of d.nodes v (world_of xs)
    row_next =
        (λ j. row_from (states_of d.nodes) (world_of xs) (row * c_is j + x_is j) (drop (i + 1) us))
        ∙ sym (ap (row_from (states_of d.nodes) (world_of xs) row) (drop_at us i i_in)) ∙ s.rest

    pub row_step : RowSoFar d.nodes v (world_of xs) (row * c + x) us (i + 1)
    row_step = record { parents = s.parents; rest = row_next }

    pub row_fits : row * c + x < 65536
    row_fits = go (row * c + x) (row_from (states_of d.nodes) (world_of xs) (row * c + x) (drop (i + 1) us)) (row_of d.nodes v (world_of xs)) (row_from-ge (states_of d.nodes) (world_of xs) is.graph.has_state (drop (i + 1) us) (row * c + x)) row_next row_small
      where
        go : (x y z : ℕ) → x ≤ y → y ≡ z → z < 65536 → x < 65536
        go x y z a b e = omega arith

  -- the product alone fits too
  pub row_times_fits : (row i c : ℕ) (us : List ℕ) → RowSoFar d.nodes v (world_of xs) row us i → i < length us → c ≡ states_of d.nodes (get_or us i 0) → get_or us i 0 < length xs → row * c < 65536
  row_times_fits row i c us s i_in c_is u_in = less (row * c) (get_or xs (get_or us i 0) 0) (row_fits row i c (get_or xs (get_or us i 0) 0) us s i_in c_is (get_or_default xs (get_or us i 0) 0 (get_or xs (get_or us i 0) 0) u_in) u_in)
    where
      less : (a b : ℕ) → a + b < 65536 → a < 65536
      less a b h = omega arith

  -- ---- the cell
  module _ (row c : ℕ) (row_is : row ≡ row_of d.nodes v (world_of xs)) (c_is : c ≡ states_of d.nodes v) where
    pub cell_times_fits : row * c ≤ 65536
    cell_times_fits = go row (row_of d.nodes v (world_of xs)) (rows_of d.nodes v) c (states_of d.nodes v) row_is c_is (row_of-below d.nodes v (world_of xs) range) (is.limits.cells v v_in)
      where
        go : (r q n c k : ℕ) → r ≡ q → c ≡ k → q < n → n * k ≤ 65536 → r * c ≤ 65536
        go r q n c k e f l h = rw (e, f) (omega (arith, mul-le-mul_right k l))

    module _ (x : ℕ) (x_at : x ≡ get_or xs v x) where
      state_is : x ≡ world_of xs v
      state_is = x_at ∙ get_or_default xs v x 0 (let e : length xs ≡ length d.nodes = world_length d.nodes xs world in omega arith)

      pub cell_is : row * c + x ≡ cell_of d.nodes v (world_of xs)
      cell_is = λ j. row_is j * c_is j + state_is j

      pub cell_below : row * c + x < rows_of d.nodes v * states_of d.nodes v
      cell_below = subst (λ y. y < rows_of d.nodes v * states_of d.nodes v) (sym cell_is) (step_below (row_of d.nodes v (world_of xs)) (rows_of d.nodes v) (states_of d.nodes v) (world_of xs v) (row_of-below d.nodes v (world_of xs) range) (range.state v))

      pub cell_fits : row * c + x < 65536
      cell_fits = less (row * c + x) (rows_of d.nodes v * states_of d.nodes v) cell_below (is.limits.cells v v_in)
        where
          less : (a b : ℕ) → a < b → b ≤ 65536 → a < 65536
          less a b l h = omega arith
