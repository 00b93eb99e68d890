-- What one world adds: the marked cells that it picks, one node after another, and its cell's new
-- sums.
use Rattle.std.proofs.Common.{◌≡◌, ◌∙◌, ℕ, ◌+◌, ◌-◌, ◌*◌, ◌<◌, ◌≤◌, cond, eqb, List, [], ◌∷◌, length, set, take, drop, sym, ap, subst, arith, ℤ, pos, ◌+ℤ◌, nat_abs, slice_index, slice_index_or, get_or-set_same, get_or-set_other}
use Rattle.std.proofs.Math.Decide.{ℕ_discrete}
use Rattle.std.proofs.Math.IntN.{+ℤ_assoc, +ℤ_idr}
use Rattle.std.proofs.Math.Nat.{mul-le-mul_left}
use Rattle.finite_sums.specs.Sums.{World, nat_sum_over, sum_each}
use Rattle.maid_model.specs.Diagrams.{IsDiagram, greatest_number}
use Rattle.maid_model.specs.Gains.{greatest_utility}
use Rattle.maid_model.specs.Nodes.{counts_of, rows_of}
use Rattle.maid_model.specs.Private.{MarksUtilities, marked_value}
use Rattle.maid_model.specs.Tables.{row_of}
use Rattle.maid_model.specs.Views.{DiagramView, NodeView}
use Rattle.maid_model.specs.Worlds.{IsWorld, world_of}
use Rattle.maid_model.proofs.Found.{eqb_yes, eqb_no}
use Rattle.maid_model.proofs.Picked.{world_in_range}
use Rattle.maid_model.proofs.Summing.{abs_add}
use Rattle.maid_model.proofs.Tables.{row_of-below}
use Rattle.node_sets.specs.declared.sets.NodeSet.{NodeSet}
use Rattle.tree_checker.specs.Walks.{CanAddWorld, greatest_at, utility_with, value_at}
use Rattle.tree_checker.proofs.WalkOpened.{order_opened}
use Rattle.tree_checker.proofs.WalkTables.{cells_small, values_small}

-- the row that a world picks is one of the node's
pub row_in : (d : DiagramView) → IsDiagram d → (xs : List ℕ) → IsWorld (counts_of d.nodes) xs → (v row : ℕ) → row ≡ row_of d.nodes v (world_of xs) → row < rows_of d.nodes v
row_in d is xs world v row e = subst (λ k. k < rows_of d.nodes v) (sym e) (row_of-below d.nodes v (world_of xs) (world_in_range d.nodes xs is.graph.has_state world))

module _ (nodes : List NodeView) (marks : NodeSet) (utilities : MarksUtilities nodes marks) (w : World) where
  abbrev value : ℕ → ℤ
  value v = marked_value nodes marks v w

  each_le : (vs : List ℕ) → nat_abs (sum_each value vs) ≤ nat_sum_over (greatest_at nodes) vs
  each_le [] = omega arith
  each_le (v ∷ vs) = go (nat_abs (value v +ℤ sum_each value vs)) (nat_abs (value v)) (nat_abs (sum_each value vs)) (greatest_at nodes v) (nat_sum_over (greatest_at nodes) vs) (abs_add (value v) (sum_each value vs)) (values_small nodes marks utilities v w) (each_le vs)
    where
      go : (y a b g r : ℕ) → y ≤ a + b → a ≤ g → b ≤ r → y ≤ g + r
      go y a b g r h i j = omega arith

  -- all values together stay in the room
  pub utility_le : (vs : List ℕ) (q : ℤ) (t : ℕ) → nat_abs q + nat_sum_over (greatest_at nodes) vs ≤ t → (z : ℤ) → z ≡ utility_with nodes marks vs q w → nat_abs z ≤ t
  utility_le vs q t h z e = subst (λ x. nat_abs x ≤ t) (sym e) (go (nat_abs (q +ℤ sum_each value vs)) (nat_abs q) (nat_abs (sum_each value vs)) (nat_sum_over (greatest_at nodes) vs) (abs_add q (sum_each value vs)) (each_le vs) h)
    where
      go : (y a b r : ℕ) → y ≤ a + b → b ≤ r → a + r ≤ t → y ≤ t
      go y a b r h i j = omega arith

  -- the first node's value is carried
  module _ (list : List ℕ) (some : 0 < length list) (q u : ℤ) (u_is : u ≡ value (slice_index_or list 0 0)) where
    pub room_in : (t : ℕ) → nat_abs q + nat_sum_over (greatest_at nodes) list ≤ t → nat_abs (q +ℤ u) + nat_sum_over (greatest_at nodes) (take (length list - 1) (drop 1 list)) ≤ t
    room_in t h =
        go (nat_abs (q +ℤ u)) (nat_abs q) (nat_abs u) (greatest_at nodes (slice_index_or list 0 0)) (nat_sum_over (greatest_at nodes) (take (length list - 1) (drop 1 list))) (abs_add q u)
        (subst (λ z. nat_abs z ≤ greatest_at nodes (slice_index_or list 0 0)) (sym u_is) (values_small nodes marks utilities (slice_index_or list 0 0) w))
        (subst (λ l. nat_abs q + nat_sum_over (greatest_at nodes) l ≤ t) (order_opened list some) h)
      where
        go : (y a b g r : ℕ) → y ≤ a + b → b ≤ g → a + (g + r) ≤ t → y + r ≤ t
        go y a b g r h i j = omega arith

    pub utility_is : (z : ℤ) → z ≡ utility_with nodes marks (take (length list - 1) (drop 1 list)) (q +ℤ u) w → z ≡ utility_with nodes marks list q w
    utility_is z e =
        e ∙ +ℤ_assoc q u (sum_each value (take (length list - 1) (drop 1 list)))
        ∙ ap (λ x. q +ℤ (x +ℤ sum_each value (take (length list - 1) (drop 1 list)))) u_is
        ∙ ap (λ l. q +ℤ sum_each value l) (sym (order_opened list some))

  -- the product with the utilities fits beside what the cell has
  pub gain_fits : (vs : List ℕ) (q z : ℤ) (g m : ℕ) → nat_abs q + nat_sum_over (greatest_at nodes) vs ≤ greatest_utility nodes → z ≡ utility_with nodes marks vs q w → g + m * greatest_utility nodes ≤ greatest_number → g + m * nat_abs z ≤ greatest_number
  gain_fits vs q z g m h e room = go (m * nat_abs z) (m * greatest_utility nodes) (mul-le-mul_left m (utility_le vs q (greatest_utility nodes) h z e)) room
    where
      go : (a b : ℕ) → a ≤ b → g + b ≤ greatest_number → g + a ≤ greatest_number
      go a b h k = omega arith

-- a sum that is written over, at each cell
pub cell_added : (gains : List ℤ) (cell picked : ℕ) (z y : ℤ) → cell < length gains → cell ≡ picked → z ≡ y → (c : ℕ)
    → slice_index_or (set gains cell (slice_index_or gains cell (pos 0) +ℤ z)) c (pos 0) ≡ slice_index_or gains c (pos 0) +ℤ cond (eqb picked c) y (pos 0)
cell_added gains cell picked z y l e f c = go (ℕ_discrete c cell)
  where
    go : Dec (c ≡ cell) → slice_index_or (set gains cell (slice_index_or gains cell (pos 0) +ℤ z)) c (pos 0) ≡ slice_index_or gains c (pos 0) +ℤ cond (eqb picked c) y (pos 0)
    go (yes h) =
        ap (λ k. slice_index_or (set gains cell (slice_index_or gains cell (pos 0) +ℤ z)) k (pos 0)) h
        ∙ get_or-set_same gains cell (slice_index_or gains cell (pos 0) +ℤ z) (pos 0) l
        ∙ (λ i. slice_index_or gains (sym h i) (pos 0) +ℤ f i)
        ∙ ap (λ b. slice_index_or gains c (pos 0) +ℤ cond b y (pos 0)) (sym (eqb_yes picked c (sym e ∙ sym h)))
    go (no n) =
        get_or-set_other gains cell c (slice_index_or gains cell (pos 0) +ℤ z) (pos 0) n
        ∙ sym (+ℤ_idr (slice_index_or gains c (pos 0)))
        ∙ ap (λ b. slice_index_or gains c (pos 0) +ℤ cond b y (pos 0)) (sym (eqb_no picked c (λ h. n (sym h ∙ sym e))))

-- the same of masses
pub mass_added : (masses : List ℕ) (cell t : ℕ) → cell < length masses → (c : ℕ)
    → pos (slice_index (set masses cell (slice_index masses cell + t)) c) ≡ pos (slice_index masses c) +ℤ cond (eqb cell c) (pos t) (pos 0)
mass_added masses cell t l c = go (ℕ_discrete c cell)
  where
    go : Dec (c ≡ cell) → pos (slice_index (set masses cell (slice_index masses cell + t)) c) ≡ pos (slice_index masses c) +ℤ cond (eqb cell c) (pos t) (pos 0)
    go (yes h) =
        ap (λ k. pos (slice_index (set masses cell (slice_index masses cell + t)) k)) h ∙ ap pos (get_or-set_same masses cell (slice_index masses cell + t) 0 l)
        ∙ ap (λ k. pos (slice_index masses k) +ℤ pos t) (sym h)
        ∙ ap (λ b. pos (slice_index masses c) +ℤ cond b (pos t) (pos 0)) (sym (eqb_yes cell c (sym h)))
    go (no n) =
        ap pos (get_or-set_other masses cell c (slice_index masses cell + t) 0 n)
        ∙ sym (+ℤ_idr (pos (slice_index masses c)))
        ∙ ap (λ b. pos (slice_index masses c) +ℤ cond b (pos t) (pos 0)) (sym (eqb_no cell c (λ e. n (sym e))))

-- the one utility after a node: its value fits, and its product with the weight beside what the
-- cell has
module _ (nodes : List NodeView) (marks : NodeSet) (utilities : MarksUtilities nodes marks) (u : ℕ) (inside : u < length nodes) (row m : ℕ) (q : ℤ) (gains : List ℤ) (masses : List ℕ) (room : CanAddWorld nodes (u ∷ []) m q gains masses) where
  pub more_le : nat_abs (q +ℤ value_at nodes marks u row) ≤ greatest_utility nodes
  more_le = go (nat_abs (q +ℤ value_at nodes marks u row)) (nat_abs q) (nat_abs (value_at nodes marks u row)) (greatest_at nodes u) (abs_add q (value_at nodes marks u row)) (cells_small nodes marks utilities u inside row) room.utility
    where
      go : (y a b g : ℕ) → y ≤ a + b → b ≤ g → a + (g + 0) ≤ greatest_utility nodes → y ≤ greatest_utility nodes
      go y a b g h i j = omega arith

  pub more_fits : nat_abs (q +ℤ value_at nodes marks u row) ≤ greatest_number
  more_fits = omega (arith, more_le, room.most)

  pub picked_fits : (c : ℕ) (z : ℤ) → z ≡ q +ℤ value_at nodes marks u row → nat_abs (slice_index_or gains c (pos 0)) + m * nat_abs z ≤ greatest_number
  picked_fits c z e = go (m * nat_abs z) (m * greatest_utility nodes) (nat_abs (slice_index_or gains c (pos 0))) (mul-le-mul_left m (subst (λ x. nat_abs x ≤ greatest_utility nodes) (sym e) more_le)) (room.gain c)
    where
      go : (a b g : ℕ) → a ≤ b → g + b ≤ greatest_number → g + a ≤ greatest_number
      go a b g h k = omega arith
