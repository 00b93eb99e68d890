-- What the last steps of a walk look at: where it is in a world, and from state to state.
use Rattle.std.proofs.Common.{◌≡◌, ◌≢◌, ◌∙◌, ℕ, ◌+◌, ◌-◌, ◌*◌, ◌<◌, ◌≤◌, List, length, get_or, sym, ap, subst, arith}
use Rattle.std.proofs.lemmas.List.{get_or_default}
use Rattle.std.proofs.Math.Decide.{dec_lt}
use Rattle.std.proofs.Math.Nat.{mul-le-mul_left}
use Rattle.finite_sums.specs.Sums.{World, with_state, InRange}
use Rattle.finite_sums.proofs.Lists.{avoids}
use Rattle.finite_sums.proofs.Sums.{with_in, with_own, with_same, with_swap}
use Rattle.maid_model.specs.Diagrams.{IsDiagram}
use Rattle.maid_model.specs.Nodes.{counts_of, parents_of, rows_of, states_of}
use Rattle.maid_model.specs.Tables.{cell_of, row_of}
use Rattle.maid_model.specs.Views.{DiagramView}
use Rattle.maid_model.specs.Worlds.{IsWorld, world_of}
use Rattle.maid_model.proofs.Ordering.{not_own_parent}
use Rattle.maid_model.proofs.Picked.{world_in_range, world_length}
use Rattle.maid_model.proofs.Tables.{row_from_other, row_of-below, step_below}
use Rattle.tree_checker.specs.declared.settings.Before.{Before}
use Rattle.tree_checker.specs.declared.settings.Places.{Places}
use Rattle.tree_checker.specs.Walks.{ArePlaces, IsWeighedBefore, cell_step, row_step}
use Rattle.tree_checker.proofs.StepLaws.{cell_apart, row_apart}
use Rattle.tree_checker.proofs.WalkCells.{some_cell}

module _ (d : DiagramView) (is : IsDiagram d) where
  -- ---- no row and no cell is past 65536
  rows_few : (u : ℕ) → u < length d.nodes → rows_of d.nodes u ≤ 65536
  rows_few u l = go (rows_of d.nodes u) (states_of d.nodes u) (is.graph.has_state u) (is.limits.cells u l)
    where
      go : (n k : ℕ) → 0 < k → n * k ≤ 65536 → n ≤ 65536
      go n k h l = omega (arith, mul-le-mul_left n h)

  cells_few : (out : ℕ) → out ≤ length d.nodes → rows_of d.nodes out * states_of d.nodes out ≤ 65536
  cells_few out there = go (dec_lt out (length d.nodes))
    where
      one : (n : ℕ) → n ≡ 1 → n ≤ 65536
      one n e = omega arith

      last : ¬ (out < length d.nodes) → length d.nodes ≡ out
      last n = omega arith

      go : Dec (out < length d.nodes) → rows_of d.nodes out * states_of d.nodes out ≤ 65536
      go (yes l) = is.limits.cells out l
      go (no n) = subst (λ k. rows_of d.nodes k * states_of d.nodes k ≤ 65536) (last n) (one (rows_of d.nodes (length d.nodes) * states_of d.nodes (length d.nodes)) (some_cell d is))

  few : (r n : ℕ) → r < n → n ≤ 65536 → r ≤ 65536
  few r n l h = omega arith

  row_in : (u : ℕ) (w : World) → InRange (states_of d.nodes) w → row_of d.nodes u w < rows_of d.nodes u
  row_in u w i = row_of-below d.nodes u w i

  cell_in : (out : ℕ) (w : World) → InRange (states_of d.nodes) w → cell_of d.nodes out w < rows_of d.nodes out * states_of d.nodes out
  cell_in out w i = step_below (row_of d.nodes out w) (rows_of d.nodes out) (states_of d.nodes out) (w out) (row_of-below d.nodes out w i) (i.state out)

  row_most : (u : ℕ) → u < length d.nodes → (w : World) → InRange (states_of d.nodes) w → (r : ℕ) → r ≡ row_of d.nodes u w → r ≤ 65536
  row_most u l w i r e = subst (λ k. k ≤ 65536) (sym e) (few (row_of d.nodes u w) (rows_of d.nodes u) (row_in u w i) (rows_few u l))

  cell_most : (out : ℕ) → out ≤ length d.nodes → (w : World) → InRange (states_of d.nodes) w → (r : ℕ) → r ≡ cell_of d.nodes out w → r ≤ 65536
  cell_most out l w i r e = subst (λ k. k ≤ 65536) (sym e) (few (cell_of d.nodes out w) (rows_of d.nodes out * states_of d.nodes out) (cell_in out w i) (cells_few out l))

  -- a node's cell in its first state begins its row
  pub factor_is : (v : ℕ) (w : World) → cell_of d.nodes v (with_state w v 0) ≡ row_of d.nodes v w * states_of d.nodes v
  factor_is v w =
      (λ i. row_from_other (states_of d.nodes) w v 0 (parents_of d.nodes v) (avoids v (parents_of d.nodes v) (not_own_parent d.nodes is.graph v)) 0 i * states_of d.nodes v + with_same w v 0 i)
      ∙ none (row_of d.nodes v w * states_of d.nodes v)
    where
      none : (n : ℕ) → n + 0 ≡ n
      none n = omega arith

  -- ---- the places in a world, from those at its own state
  module _ (xs : List ℕ) (world : IsWorld (counts_of d.nodes) xs) (v : ℕ) (v_in : v < length d.nodes) where
    abbrev w0 : World
    w0 = world_of xs

    range0 : InRange (states_of d.nodes) w0
    range0 = world_in_range d.nodes xs is.graph.has_state world

    inside : v < length xs
    inside = subst (λ n. v < n) (sym (world_length d.nodes xs world)) v_in

    module _ (state : ℕ) (state_at : state ≡ get_or xs v state) where
      module _ (f : World → ℕ) (step : ℕ) (apart : (s : ℕ) → f (with_state w0 v s) ≡ f (with_state w0 v 0) + s * step) (r : ℕ) (r_is : r ≡ f w0) where
        whole : r ≡ f (with_state w0 v 0) + state * step
        whole = r_is ∙ sym (ap f (with_own w0 v state (sym (state_at ∙ get_or_default xs v state 0 inside)))) ∙ apart state

        start_le : state * step ≤ r
        start_le = go r (f (with_state w0 v 0)) (state * step) whole
          where
            go : (r z b : ℕ) → r ≡ z + b → b ≤ r
            go r z b e = omega arith

        at_first : r - state * step ≡ f (with_state w0 v 0)
        at_first = go r (f (with_state w0 v 0)) (state * step) whole
          where
            go : (r z b : ℕ) → r ≡ z + b → r - b ≡ z
            go r z b e = omega arith

      module _ (u : ℕ) (u_in : u < length d.nodes) (t : ℕ) (t_is : t ≡ row_step d.nodes u v) (r : ℕ) (r_is : r ≡ row_of d.nodes u w0) where
        rows_by : (s : ℕ) → row_of d.nodes u (with_state w0 v s) ≡ row_of d.nodes u (with_state w0 v 0) + s * t
        rows_by s = row_apart d.nodes u v s w0 ∙ ap (λ k. row_of d.nodes u (with_state w0 v 0) + s * k) (sym t_is)

        pub row_start : state * t ≤ r
        row_start = start_le (λ w. row_of d.nodes u w) t rows_by r r_is

        pub row_small : r ≤ 65536
        row_small = row_most u u_in w0 range0 r r_is

        pub row_first : r - state * t ≡ row_of d.nodes u (with_state w0 v 0)
        row_first = at_first (λ w. row_of d.nodes u w) t rows_by r r_is

      module _ (out : ℕ) (there : out ≤ length d.nodes) (t : ℕ) (t_is : t ≡ cell_step d.nodes out v) (r : ℕ) (r_is : r ≡ cell_of d.nodes out w0) where
        cells_by : (s : ℕ) → cell_of d.nodes out (with_state w0 v s) ≡ cell_of d.nodes out (with_state w0 v 0) + s * t
        cells_by s = cell_apart d.nodes out v s w0 ∙ ap (λ k. cell_of d.nodes out (with_state w0 v 0) + s * k) (sym t_is)

        pub cell_start : state * t ≤ r
        cell_start = start_le (λ w. cell_of d.nodes out w) t cells_by r r_is

        pub cell_small : r ≤ 65536
        cell_small = cell_most out there w0 range0 r r_is

        pub cell_first : r - state * t ≡ cell_of d.nodes out (with_state w0 v 0)
        cell_first = at_first (λ w. cell_of d.nodes out w) t cells_by r r_is

    -- ---- from state to state of the node itself
    module _ (out u : ℕ) (there : out ≤ length d.nodes) (u_in : u < length d.nodes) (places : Places) (are : ArePlaces d.nodes out v u w0 places) where
      range_at : (s : ℕ) → s < states_of d.nodes v → InRange (states_of d.nodes) (with_state w0 v s)
      range_at s l = with_in (states_of d.nodes) w0 v s range0 l

      pub cell_of_factor : (s : ℕ) → places.factor + s ≡ row_of d.nodes v w0 * states_of d.nodes v + s
      cell_of_factor s = ap (λ k. k + s) (are.factor ∙ factor_is v w0)

      module _ (t : ℕ) (t_is : t ≡ row_step d.nodes u v) (s : ℕ) where
        pub row_at : places.row + s * t ≡ row_of d.nodes u (with_state w0 v s)
        row_at = (λ i. are.row i + s * t_is i) ∙ sym (row_apart d.nodes u v s w0)

        pub row_below : s < states_of d.nodes v → places.row + s * t < rows_of d.nodes u
        row_below l = subst (λ k. k < rows_of d.nodes u) (sym row_at) (row_in u (with_state w0 v s) (range_at s l))

        pub row_fits : s < states_of d.nodes v → places.row + s * t ≤ 65536
        row_fits l = row_most u u_in (with_state w0 v s) (range_at s l) (places.row + s * t) row_at

      module _ (t : ℕ) (t_is : t ≡ cell_step d.nodes out v) (s : ℕ) where
        pub cell_at : places.cell + s * t ≡ cell_of d.nodes out (with_state w0 v s)
        cell_at = (λ i. are.cell i + s * t_is i) ∙ sym (cell_apart d.nodes out v s w0)

        pub cell_below : s < states_of d.nodes v → places.cell + s * t < rows_of d.nodes out * states_of d.nodes out
        cell_below l = subst (λ k. k < rows_of d.nodes out * states_of d.nodes out) (sym cell_at) (cell_in out (with_state w0 v s) (range_at s l))

        pub cell_fits : s < states_of d.nodes v → places.cell + s * t ≤ 65536
        cell_fits l = cell_most out there (with_state w0 v s) (range_at s l) (places.cell + s * t) cell_at

  -- ---- from state to state of the node before it
  module _ (out v u : ℕ) (there : out ≤ length d.nodes) (v_in : v < length d.nodes) (u_in : u < length d.nodes) (before : Before) (steps : IsWeighedBefore d.nodes out v u before) (other : before.node ≢ v)
      (w : World) (range : InRange (states_of d.nodes) w) (places : Places) (are : ArePlaces d.nodes out v u (with_state w before.node 0) places) (s : ℕ) where
    swapped : (n : ℕ) → with_state (with_state w v 0) before.node n ≡ with_state (with_state w before.node n) v 0
    swapped n = sym (with_swap w before.node n v 0 other)

    row_there : (x : ℕ) (t : ℕ) → t ≡ row_step d.nodes x before.node → (r : ℕ) → r ≡ row_of d.nodes x (with_state (with_state w before.node 0) v 0) → r + s * t ≡ row_of d.nodes x (with_state (with_state w before.node s) v 0)
    row_there x t e r f =
        (λ i. (f ∙ ap (row_of d.nodes x) (sym (swapped 0))) i + s * e i)
        ∙ sym (row_apart d.nodes x before.node s (with_state w v 0)) ∙ ap (row_of d.nodes x) (swapped s)

    cell_there : (x : ℕ) (t : ℕ) → t ≡ cell_step d.nodes x before.node → (r : ℕ) → r ≡ cell_of d.nodes x (with_state (with_state w before.node 0) v 0) → r + s * t ≡ cell_of d.nodes x (with_state (with_state w before.node s) v 0)
    cell_there x t e r f =
        (λ i. (f ∙ ap (cell_of d.nodes x) (sym (swapped 0))) i + s * e i)
        ∙ sym (cell_apart d.nodes x before.node s (with_state w v 0)) ∙ ap (cell_of d.nodes x) (swapped s)

    pub places_there : ArePlaces d.nodes out v u (with_state w before.node s) (record { factor = places.factor + s * before.steps.factor; row = places.row + s * before.steps.row; cell = places.cell + s * before.steps.cell })
    places_there = record {
      factor = cell_there v before.steps.factor steps.factor places.factor are.factor;
      row = row_there u before.steps.row steps.row places.row are.row;
      cell = cell_there out before.steps.cell steps.cell places.cell are.cell;
    }

    module _ (l : s < states_of d.nodes before.node) where
      range_there : InRange (states_of d.nodes) (with_state (with_state w before.node s) v 0)
      range_there = with_in (states_of d.nodes) (with_state w before.node s) v 0 (with_in (states_of d.nodes) w before.node s range l) (is.graph.has_state v)

      less : v ≤ length d.nodes
      less = omega (arith, v_in)

      pub factor_there : places.factor + s * before.steps.factor ≤ 65536
      factor_there = cell_most v less (with_state (with_state w before.node s) v 0) range_there (places.factor + s * before.steps.factor) places_there.factor

      pub row_there_fits : places.row + s * before.steps.row ≤ 65536
      row_there_fits = row_most u u_in (with_state (with_state w before.node s) v 0) range_there (places.row + s * before.steps.row) places_there.row

      pub cell_there_fits : places.cell + s * before.steps.cell ≤ 65536
      cell_there_fits = cell_most out there (with_state (with_state w before.node s) v 0) range_there (places.cell + s * before.steps.cell) places_there.cell
