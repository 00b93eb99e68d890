-- A walk down all nodes: it has room, and adds up what all worlds have.
use Rattle.std.proofs.Common.{◌≡◌, ◌∙◌, ℕ, zero, suc, ◌+◌, ◌*◌, ◌^◌, ◌<◌, ◌≤◌, cond, eqb, List, length, max, replicate, refl, sym, ap, subst, arith, ℤ, pos, ◌+ℤ◌, ◌*ℤ◌, nat_abs, slice_index, slice_index_or}
use Rattle.std.proofs.lemmas.Int.{unsigned_abs-mul}
use Rattle.std.proofs.Math.IntN.{+ℤ_idl}
use Rattle.std.proofs.Math.Nat.{mul-le-mul_left, mul-le-mul_right}
use Rattle.std.proofs.Math.Path.{fun_ext}
use Rattle.finite_sums.specs.Members.{Shuffled}
use Rattle.finite_sums.specs.Sums.{World, sum_over, InRange, nat_product_over, nat_sum_over, product_over, sum_each}
use Rattle.finite_sums.proofs.Ints.{one_mul}
use Rattle.finite_sums.proofs.Lists.{product_over-shuffled, sum_over-shuffled}
use Rattle.maid_model.specs.Diagrams.{IsDiagram, greatest_number}
use Rattle.maid_model.specs.Gains.{base_mass, base_total, greatest_utility, table_without, weight_without}
use Rattle.maid_model.specs.Graph.{Arc}
use Rattle.maid_model.specs.Nodes.{numbers_of, rows_of, states_of}
use Rattle.maid_model.specs.Placing.{IsOrder}
use Rattle.maid_model.specs.Private.{MarksUtilities, marked_utility, marked_value}
use Rattle.maid_model.specs.Profiles.{IsProfile}
use Rattle.maid_model.specs.Tables.{cell_of}
use Rattle.maid_model.specs.Views.{DiagramView, RuleView}
use Rattle.maid_model.specs.Worlds.{first_world, world_of}
use Rattle.maid_model.proofs.Adding.{room_of, base_some}
use Rattle.node_sets.specs.declared.sets.NodeSet.{NodeSet}
use Rattle.tree_checker.specs.Walks.{HasRoomToWalk, IsDownward, ListsCells, cell_gain, cell_mass, gain_with, greatest_at, mass_with, mass_left}
use Rattle.tree_checker.proofs.Walking.{below_le}
use Rattle.tree_checker.proofs.WalkOrders.{each_shuffled, nat_product_shuffled, nat_sum_shuffled, order_down, order_shuffled}
use Rattle.tree_checker.proofs.WalkTables.{factors_later, factors_positive, factors_total, values_later, values_small}

zero_gain : (n c : ℕ) → slice_index_or (replicate n (pos 0)) c (pos 0) ≡ pos 0
zero_gain zero c = refl
zero_gain (suc n) zero = refl
zero_gain (suc n) (suc c) = zero_gain n c

zero_mass : (n c : ℕ) → slice_index (replicate n 0) c ≡ 0
zero_mass zero c = refl
zero_mass (suc n) zero = refl
zero_mass (suc n) (suc c) = zero_mass n c

first_at : (n : ℕ) → world_of (first_world n) ≡ (λ v. 0)
first_at n = fun_ext (λ v. zero_mass n v)

module _ (d : DiagramView) (is : IsDiagram d) (p : List RuleView) (prof : IsProfile d.nodes p) (out : ℕ) (marks : NodeSet) (utilities : MarksUtilities d.nodes marks)
    (fits : base_mass d.nodes p out * max (10 ^ d.decimals) (greatest_utility d.nodes) ≤ greatest_number)
    (order : List ℕ) (placed : IsOrder (λ v. v < length d.nodes) (λ v u. Arc d.nodes u v) order) where
  pub down : IsDownward d.nodes order
  down = order_down d.nodes order placed

  shuffled : Shuffled (numbers_of d.nodes) order
  shuffled = order_shuffled d.nodes order placed

  left_is : mass_left d.nodes p out order 1 ≡ base_mass d.nodes p out
  left_is = one (nat_product_over (base_total d.nodes p out) order) ∙ sym (nat_product_shuffled (base_total d.nodes p out) shuffled)
    where
      one : (n : ℕ) → 1 * n ≡ n
      one n = omega arith

  great_is : nat_sum_over (greatest_at d.nodes) order ≡ greatest_utility d.nodes
  great_is = sym (nat_sum_shuffled (greatest_at d.nodes) shuffled)

  same_le : (n : ℕ) → n ≤ n
  same_le n = omega arith

  -- the start
  pub first_room : (n k : ℕ) → HasRoomToWalk d.nodes p out order 1 (pos 0) (replicate n (pos 0)) (replicate k 0)
  first_room n k =
      let room = room_of d (base_mass d.nodes p out) (base_some d is p prof out) fits in
      record {
        gain = λ c. subst (λ z. nat_abs z + mass_left d.nodes p out order 1 * greatest_utility d.nodes ≤ greatest_number) (sym (zero_gain n c))
            (subst (λ m. 0 + m * greatest_utility d.nodes ≤ greatest_number) (sym left_is) (nothing_more (room.product (base_mass d.nodes p out) (same_le (base_mass d.nodes p out)))));
        mass = λ c. subst (λ z. z + mass_left d.nodes p out order 1 ≤ greatest_number) (sym (zero_mass k c)) (subst (λ m. 0 + m ≤ greatest_number) (sym left_is) (nothing_more room.mass));
        utility = subst (λ m. 0 + m ≤ greatest_utility d.nodes) (sym great_is) (omega arith);
        most = room.utility;
      }
    where
      nothing_more : {a : ℕ} → a ≤ greatest_number → 0 + a ≤ greatest_number
      nothing_more {a} h = omega arith

  -- ---- the sums down the list are those over all worlds
  weight_is : (w : World) → pos 1 *ℤ product_over (λ v. table_without d.nodes p out v w) order ≡ weight_without d.nodes p out w
  weight_is w = one_mul (product_over (λ v. table_without d.nodes p out v w) order) ∙ sym (product_over-shuffled (λ v. table_without d.nodes p out v w) shuffled)

  utility_is : (w : World) → pos 0 +ℤ sum_each (λ v. marked_value d.nodes marks v w) order ≡ marked_utility d.nodes marks w
  utility_is w = +ℤ_idl (sum_each (λ v. marked_value d.nodes marks v w) order) ∙ sym (each_shuffled (λ v. marked_value d.nodes marks v w) shuffled)

  gain_is : (c : ℕ) → gain_with d.nodes p out marks order 1 (pos 0) c (λ v. 0) ≡ cell_gain d.nodes p out marks c
  gain_is c =
      ap (λ f. sum_over (states_of d.nodes) order f (λ v. 0)) (fun_ext (λ w. (λ i. cond (eqb (cell_of d.nodes out w) c) (weight_is w i *ℤ utility_is w i) (pos 0))))
      ∙ sym (sum_over-shuffled (states_of d.nodes) (λ w. cond (eqb (cell_of d.nodes out w) c) (weight_without d.nodes p out w *ℤ marked_utility d.nodes marks w) (pos 0)) shuffled (λ v. 0))

  mass_is : (c : ℕ) → mass_with d.nodes p out order 1 c (λ v. 0) ≡ cell_mass d.nodes p out c
  mass_is c =
      ap (λ f. sum_over (states_of d.nodes) order f (λ v. 0)) (fun_ext (λ w. (λ i. cond (eqb (cell_of d.nodes out w) c) (weight_is w i) (pos 0))))
      ∙ sym (sum_over-shuffled (states_of d.nodes) (λ w. cond (eqb (cell_of d.nodes out w) c) (weight_without d.nodes p out w) (pos 0)) shuffled (λ v. 0))

  -- ---- they have room
  range : InRange (states_of d.nodes) (λ v. 0)
  range = record { state = is.graph.has_state }

  all_great : 0 + nat_sum_over (greatest_at d.nodes) order ≤ greatest_utility d.nodes
  all_great = subst (λ m. 0 + m ≤ greatest_utility d.nodes) (sym great_is) (omega arith)

  gain_le : (c : ℕ) → nat_abs (gain_with d.nodes p out marks order 1 (pos 0) c (λ v. 0)) ≤ mass_left d.nodes p out order 1 * greatest_utility d.nodes
  gain_le c =
      below_le (states_of d.nodes) (λ v w. table_without d.nodes p out v w) (λ v w. marked_value d.nodes marks v w) (λ w. cell_of d.nodes out w) (λ a b. a *ℤ b) (base_total d.nodes p out) (greatest_at d.nodes) (greatest_utility d.nodes) (greatest_utility d.nodes)
      (factors_positive d is p prof out) (values_small d.nodes marks utilities)
      (λ k z h. subst (λ n. n ≤ k * greatest_utility d.nodes) (sym (unsigned_abs-mul (pos k) z)) (mul-le-mul_left k h))
      order (factors_later d.nodes p out order down) (values_later d.nodes marks order down) (factors_total d is p prof out order) 1 (pos 0) all_great c (λ v. 0) range

  mass_le : (c : ℕ) → nat_abs (mass_with d.nodes p out order 1 c (λ v. 0)) ≤ mass_left d.nodes p out order 1 * 1
  mass_le c =
      below_le (states_of d.nodes) (λ v w. table_without d.nodes p out v w) (λ v w. marked_value d.nodes marks v w) (λ w. cell_of d.nodes out w) (λ a b. a) (base_total d.nodes p out) (greatest_at d.nodes) (greatest_utility d.nodes) 1
      (factors_positive d is p prof out) (values_small d.nodes marks utilities) (λ k z h. one k)
      order (factors_later d.nodes p out order down) (values_later d.nodes marks order down) (factors_total d is p prof out order) 1 (pos 0) all_great c (λ v. 0) range
    where
      one : (k : ℕ) → k ≤ k * 1
      one k = omega arith

  -- the end
  pub cells_listed : (n : ℕ) (gains : List ℤ) (masses : List ℕ)
      → n ≡ rows_of d.nodes out * states_of d.nodes out
      → ((c : ℕ) → slice_index_or gains c (pos 0) ≡ slice_index_or (replicate n (pos 0)) c (pos 0) +ℤ gain_with d.nodes p out marks order 1 (pos 0) c (world_of (first_world (length d.nodes))))
      → ((c : ℕ) → pos (slice_index masses c) ≡ pos (slice_index (replicate n 0) c) +ℤ mass_with d.nodes p out order 1 c (world_of (first_world (length d.nodes))))
      → length gains ≡ n → length masses ≡ n
      → ListsCells d p out marks gains masses
  cells_listed n gains masses e added weighed lg lm = record {
    gain_count = lg ∙ e;
    mass_count = lm ∙ e;
    gain = λ c. gains_at c ∙ gain_is c;
    mass = λ c. masses_at c ∙ mass_is c;
    gain_small = λ c. subst (λ z. nat_abs z ≤ greatest_number) (sym (gains_at c)) (trans (nat_abs (gain_with d.nodes p out marks order 1 (pos 0) c (λ v. 0))) (mass_left d.nodes p out order 1 * greatest_utility d.nodes) (gain_le c)
        (subst (λ m. m * greatest_utility d.nodes ≤ greatest_number) (sym left_is) ((room_of d (base_mass d.nodes p out) (base_some d is p prof out) fits).product (base_mass d.nodes p out) (same_le (base_mass d.nodes p out)))));
    mass_small = λ c. scaled (slice_index masses c) (base_mass d.nodes p out) (10 ^ d.decimals) (greatest_utility d.nodes)
        (less (slice_index masses c) (mass_with d.nodes p out order 1 c (λ v. 0)) (mass_left d.nodes p out order 1) (base_mass d.nodes p out) (masses_at c) (mass_le c) left_is) fits;
  }
    where
      gains_at : (c : ℕ) → slice_index_or gains c (pos 0) ≡ gain_with d.nodes p out marks order 1 (pos 0) c (λ v. 0)
      gains_at c = added c ∙ (λ i. zero_gain n c i +ℤ gain_with d.nodes p out marks order 1 (pos 0) c (first_at (length d.nodes) i)) ∙ +ℤ_idl (gain_with d.nodes p out marks order 1 (pos 0) c (λ v. 0))

      masses_at : (c : ℕ) → pos (slice_index masses c) ≡ mass_with d.nodes p out order 1 c (λ v. 0)
      masses_at c = weighed c ∙ (λ i. pos (zero_mass n c i) +ℤ mass_with d.nodes p out order 1 c (first_at (length d.nodes) i)) ∙ +ℤ_idl (mass_with d.nodes p out order 1 c (λ v. 0))

      trans : (a b : ℕ) → a ≤ b → b ≤ greatest_number → a ≤ greatest_number
      trans a b h k = omega arith

      less : (m : ℕ) (x : ℤ) (a b : ℕ) → pos m ≡ x → nat_abs x ≤ a * 1 → a ≡ b → m ≤ b
      less m x a b e h k = let f : m ≡ nat_abs x = ap nat_abs e in omega arith

      scaled : (m b t s : ℕ) → m ≤ b → b * max t s ≤ greatest_number → m * t ≤ greatest_number
      scaled m b t s h k = go (mul-le-mul_right t h) (mul-le-mul_left b (first t s)) k
        where
          first : (t s : ℕ) → t ≤ max t s
          first t s = omega arith

          go : m * t ≤ b * t → b * t ≤ b * max t s → b * max t s ≤ greatest_number → m * t ≤ greatest_number
          go x y z = omega arith
