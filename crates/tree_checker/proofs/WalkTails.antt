-- The utilities at the end of a walk: what one world adds with them.
use Rattle.std.proofs.Common.{◌≡◌, ◌∙◌, ℕ, zero, suc, ◌+◌, ◌*◌, ◌<◌, ◌≤◌, cond, eqb, List, [], ◌∷◌, ◌++◌, length, drop, refl, sym, ap, subst, arith, ℤ, pos, ◌+ℤ◌, ◌*ℤ◌, nat_abs, slice_index, slice_index_or}
use Rattle.std.specs.Prelude.{Vec}
use Rattle.std.specs.declared.alloc.Global.{Global}
use Rattle.diagram_graph.specs.Cycles.{lists_in}
use Rattle.std.proofs.lemmas.List.{length-map}
use Rattle.std.proofs.Math.IntN.{+ℤ_assoc}
use Rattle.std.proofs.Math.Nat.{mul-le-mul_left, mul-le-mul_right}
use Rattle.finite_sums.proofs.Ints.{mul_one}
use Rattle.finite_sums.specs.Sums.{nat_product_over, sum_each}
use Rattle.maid_model.specs.Diagrams.{IsDiagram, greatest_number}
use Rattle.maid_model.specs.Gains.{base_total, greatest_utility}
use Rattle.maid_model.specs.Nodes.{counts_of, rows_of, states_of}
use Rattle.maid_model.specs.Private.{MarksUtilities, marked_value}
use Rattle.maid_model.specs.Profiles.{IsProfile}
use Rattle.maid_model.specs.Tables.{cell_of}
use Rattle.maid_model.specs.Views.{DiagramView, NodeView, RuleView}
use Rattle.maid_model.specs.Worlds.{IsWorld, world_of}
use Rattle.maid_model.proofs.Weighing.{base_positive, product_positive}
use Rattle.node_sets.specs.declared.sets.NodeSet.{NodeSet}
use Rattle.tree_checker.specs.Walks.{AreUtilities, HasRoomToWalk, CanAddWorld, HoldsFactors, IsDownward, factor_at, gain_with, mass_with, world_gain, world_mass}
use Rattle.tree_checker.proofs.WalkSteps.{utility_gain, utility_mass, utility_room}

-- ---- where the tail begins
pub tail_whole : (nodes : List NodeView) (order : List ℕ) (n : ℕ) → length order ≤ n → AreUtilities nodes (drop n order)
tail_whole nodes [] zero h k l = absurd (omega arith)
tail_whole nodes [] (suc n) h k l = absurd (omega arith)
tail_whole nodes (v ∷ vs) zero h k l = absurd (omega arith)
tail_whole nodes (v ∷ vs) (suc n) h k l = tail_whole nodes vs n (omega arith) k l

pub down_within : (nodes : List NodeView) (vs : List ℕ) → IsDownward nodes vs → (k : ℕ) → k < length vs → slice_index vs k < length nodes
down_within nodes [] h k l = absurd (omega arith)
down_within nodes (v ∷ vs) h zero l = h.0
down_within nodes (v ∷ vs) h (suc k) l = down_within nodes vs h.2 k (omega arith)

-- what stands before the tail does not matter to it
pub down_after : (nodes : List NodeView) (order tail : List ℕ) → IsDownward nodes (order ++ tail) → IsDownward nodes tail
down_after nodes [] tail h = h
down_after nodes (v ∷ vs) tail h = down_after nodes vs tail h.2

-- ---- the listed factors
module _ (nodes : List NodeView) (p : List RuleView) (out : ℕ) (factors : List (Vec ℕ Global)) (h : HoldsFactors nodes p out (lists_in factors)) (v : ℕ) (inside : v < length nodes) where
  pub factors_node : v < length factors
  factors_node = subst (λ n. v < n) (sym h.count ∙ length-map factors (λ (row : Vec ℕ Global). row.items)) inside

  pub factors_cell : (cell : ℕ) → cell < rows_of nodes v * states_of nodes v → cell < length (slice_index_or (lists_in factors) v [])
  factors_cell cell l = subst (λ n. cell < n) (sym (h.lists_each v inside).count) l

  pub factor_held : (cell : ℕ) → cell < rows_of nodes v * states_of nodes v → (t : ℕ) → t ≡ slice_index (slice_index_or (lists_in factors) v []) cell → pos t ≡ factor_at nodes p out v cell
  factor_held cell l t e = ap pos e ∙ (h.lists_each v inside).factor cell l

-- ---- what one world adds
module _ (d : DiagramView) (is : IsDiagram d) (p : List RuleView) (prof : IsProfile d.nodes p) (out : ℕ) (marks : NodeSet) (utilities : MarksUtilities d.nodes marks) where
  rest_utilities : (v : ℕ) (vs : List ℕ) → AreUtilities d.nodes (v ∷ vs) → AreUtilities d.nodes vs
  rest_utilities v vs h k l = h (suc k) (omega arith)

  pub tail_gain : (vs : List ℕ) → AreUtilities d.nodes vs → IsDownward d.nodes vs → (m : ℕ) (q : ℤ) (xs : List ℕ) → IsWorld (counts_of d.nodes) xs → (gains : List ℤ) (masses : List ℕ) → HasRoomToWalk d.nodes p out vs m q gains masses
      → (c : ℕ) → gain_with d.nodes p out marks vs m q c (world_of xs) ≡ world_gain d.nodes out marks vs m q c (world_of xs)
  tail_gain [] h down m q xs world gains masses room c = ap (λ z. cond (eqb (cell_of d.nodes out (world_of xs)) c) (z *ℤ (q +ℤ pos 0)) (pos 0)) (mul_one (pos m))
  tail_gain (v ∷ vs) h down m q xs world gains masses room c =
      utility_gain d is p prof out marks utilities v vs down m q 0 xs world gains masses room (h 0 (omega arith)) (marked_value d.nodes marks v (world_of xs)) refl c
      ∙ tail_gain vs (rest_utilities v vs h) down.2 m (q +ℤ marked_value d.nodes marks v (world_of xs)) xs world gains masses
      (utility_room d is p prof out marks utilities v vs down m q 0 xs world gains masses room (h 0 (omega arith)) (marked_value d.nodes marks v (world_of xs)) refl) c
      ∙ ap (λ z. cond (eqb (cell_of d.nodes out (world_of xs)) c) (pos m *ℤ z) (pos 0)) (+ℤ_assoc q (marked_value d.nodes marks v (world_of xs)) (sum_each (λ u. marked_value d.nodes marks u (world_of xs)) vs))

  pub tail_mass : (vs : List ℕ) → AreUtilities d.nodes vs → IsDownward d.nodes vs → (m : ℕ) (q : ℤ) (xs : List ℕ) → IsWorld (counts_of d.nodes) xs → (gains : List ℤ) (masses : List ℕ) → HasRoomToWalk d.nodes p out vs m q gains masses
      → (c : ℕ) → mass_with d.nodes p out vs m c (world_of xs) ≡ world_mass d.nodes out m c (world_of xs)
  tail_mass [] h down m q xs world gains masses room c = ap (λ z. cond (eqb (cell_of d.nodes out (world_of xs)) c) z (pos 0)) (mul_one (pos m))
  tail_mass (v ∷ vs) h down m q xs world gains masses room c =
      utility_mass d is p prof out marks utilities v vs down m q 0 xs world gains masses room (h 0 (omega arith)) (marked_value d.nodes marks v (world_of xs)) refl c
      ∙ tail_mass vs (rest_utilities v vs h) down.2 m (q +ℤ marked_value d.nodes marks v (world_of xs)) xs world gains masses
      (utility_room d is p prof out marks utilities v vs down m q 0 xs world gains masses room (h 0 (omega arith)) (marked_value d.nodes marks v (world_of xs)) refl) c

  -- what has room with all utilities of the tail has room at each world
  pub tail_room : (vs : List ℕ) (m : ℕ) (q : ℤ) (gains : List ℤ) (masses : List ℕ) → HasRoomToWalk d.nodes p out vs m q gains masses → CanAddWorld d.nodes vs m q gains masses
  tail_room vs m q gains masses room = record {
    gain = λ c. first (nat_abs (slice_index_or gains c (pos 0))) (nat_product_over (base_total d.nodes p out) vs) some (room.gain c);
    mass = λ c. second (slice_index masses c) (nat_product_over (base_total d.nodes p out) vs) some (room.mass c);
    utility = room.utility;
    most = room.most;
  }
    where
      some : 0 < nat_product_over (base_total d.nodes p out) vs
      some = product_positive (base_total d.nodes p out) vs (base_positive d is p prof out)

      less : (r : ℕ) → 0 < r → m ≤ m * r
      less r h = omega (arith, mul-le-mul_left m h)

      second : (g r : ℕ) → 0 < r → g + m * r ≤ greatest_number → g + m ≤ greatest_number
      second g r h k = omega (arith, less r h)

      first : (g r : ℕ) → 0 < r → g + m * r * greatest_utility d.nodes ≤ greatest_number → g + m * greatest_utility d.nodes ≤ greatest_number
      first g r h k = omega (arith, mul-le-mul_right (greatest_utility d.nodes) (less r h))

  -- the same with nothing left before the tail, by the number that the code adds
  pub ended_gain : (rest tail : List ℕ) → rest ++ tail ≡ tail → AreUtilities d.nodes tail → IsDownward d.nodes (rest ++ tail) → (m : ℕ) (q r : ℤ) → r ≡ q → (xs : List ℕ) → IsWorld (counts_of d.nodes) xs → (gains : List ℤ) (masses : List ℕ)
      → HasRoomToWalk d.nodes p out (rest ++ tail) m q gains masses → (c : ℕ) → world_gain d.nodes out marks tail m r c (world_of xs) ≡ gain_with d.nodes p out marks (rest ++ tail) m q c (world_of xs)
  ended_gain rest tail none h down m q r e xs world gains masses room c =
      ap (λ z. world_gain d.nodes out marks tail m z c (world_of xs)) e
      ∙ sym (tail_gain tail h (down_after d.nodes rest tail down) m q xs world gains masses (subst (λ vs. HasRoomToWalk d.nodes p out vs m q gains masses) none room) c)
      ∙ ap (λ vs. gain_with d.nodes p out marks vs m q c (world_of xs)) (sym none)

  pub ended_mass : (rest tail : List ℕ) → rest ++ tail ≡ tail → AreUtilities d.nodes tail → IsDownward d.nodes (rest ++ tail) → (m : ℕ) (q : ℤ) (xs : List ℕ) → IsWorld (counts_of d.nodes) xs → (gains : List ℤ) (masses : List ℕ)
      → HasRoomToWalk d.nodes p out (rest ++ tail) m q gains masses → (c : ℕ) → world_mass d.nodes out m c (world_of xs) ≡ mass_with d.nodes p out (rest ++ tail) m c (world_of xs)
  ended_mass rest tail none h down m q xs world gains masses room c =
      sym (tail_mass tail h (down_after d.nodes rest tail down) m q xs world gains masses (subst (λ vs. HasRoomToWalk d.nodes p out vs m q gains masses) none room) c)
      ∙ ap (λ vs. mass_with d.nodes p out vs m c (world_of xs)) (sym none)
