-- The sum over all worlds of the weight times an agent's utilities.
use Rattle.std.proofs.Common.{◌≡◌, ◌∙◌, ◌⊎◌, ℕ, ◌+◌, ◌*◌, ◌^◌, ◌<◌, ◌≤◌, true, false, cond, eqb, List, [], ◌∷◌, max, length, refl, sym, ap, subst, inl, inr, arith, ℤ, pos, ◌+ℤ◌, ◌*ℤ◌, nat_abs, slice_index_or}
use Rattle.std.proofs.lemmas.Int.{unsigned_abs-mul, to_z-of_z, fits_signed_from_abs}
use Rattle.std.proofs.Math.IntN.{+ℤ_assoc, +ℤ_idr, +ℤ_idl}
use Rattle.std.proofs.Math.Nat.{mul-le-mul_left}
use Rattle.std.proofs.Math.Path.{fun_ext}
use Rattle.std.specs.Int.{w128}
use Rattle.std.specs.Int.RustNames.{FitsSigned}
use Rattle.std.specs.List.{range_with_len}
use mir.Val.{to_z, of_z}
use Rattle.maid_model.specs.Diagrams.{IsDiagram, greatest_number}
use Rattle.maid_model.specs.Gains.{weight, weight_without, utility, value_for, mass, base_mass, base_total, gain_of, greatest_utility, sum_worlds}
use Rattle.maid_model.specs.Nodes.{node_at, states_of, numbers_of, counts_of, is_utility_of}
use Rattle.node_sets.specs.declared.sets.NodeSet.{NodeSet}
use Rattle.node_sets.specs.Sets.{holds}
use Rattle.maid_model.specs.Private.{marked_value, marked_utility, MarksUtilities}
use Rattle.maid_model.specs.Profiles.{IsProfile}
use Rattle.finite_sums.specs.Sums.{World, sum_each, nat_sum_over, nat_product_over}
use Rattle.maid_model.specs.Tables.{row_of, table, weight_total}
use Rattle.maid_model.specs.Views.{NodeView, RuleView, DiagramView}
use Rattle.maid_model.specs.Worlds.{IsWorld, world_of, worlds_from, first_world, sum_list}
use Rattle.finite_sums.specs.Members.{Among}
use Rattle.maid_model.proofs.Adding.{all_worlds, product_cong, some_rest, weight_in, MassSoFar, mass_start, mass_within, mass_step, HasRoom, room_of, base_some, added_bound}
use Rattle.finite_sums.proofs.Counts.{true_or_false}
use Rattle.maid_model.proofs.Below.{utility_is}
use Rattle.maid_model.proofs.Found.{eqb_no}
use Rattle.finite_sums.proofs.Members.{range_within}
use Rattle.maid_model.proofs.Next.{first_is_world}
use Rattle.maid_model.proofs.Summing.{abs_add, values, value_le, greatest_at}

-- ---- no marked sum exceeds the greatest
pub sum_each_cong : (f g : ℕ → ℤ) (vs : List ℕ) → ((v : ℕ) → Among v vs → f v ≡ g v) → sum_each f vs ≡ sum_each g vs
sum_each_cong f g [] h = refl
sum_each_cong f g (v ∷ vs) h = λ i. h v (inl refl) i +ℤ sum_each_cong f g vs (λ u m. h u (inr m)) i

sum_each_le : (f : ℕ → ℤ) (t : ℕ → ℕ) (vs : List ℕ) → ((v : ℕ) → Among v vs → nat_abs (f v) ≤ t v) → nat_abs (sum_each f vs) ≤ nat_sum_over t vs
sum_each_le f t [] h = omega arith
sum_each_le f t (v ∷ vs) h = go (nat_abs (f v +ℤ sum_each f vs)) (nat_abs (f v)) (nat_abs (sum_each f vs)) (t v) (nat_sum_over t vs) (abs_add (f v) (sum_each f vs)) (h v (inl refl)) (sum_each_le f t vs (λ u m. h u (inr m)))
  where
    go : (y a b c e : ℕ) → y ≤ a + b → a ≤ c → b ≤ e → y ≤ c + e
    go y a b c e h j k = omega arith

pub inside : (n v : ℕ) → Among v (range_with_len 0 n) → v < n
inside n v m = let l : v < 0 + n = (range_within 0 n v m).1 in omega arith

pub marked_le : (nodes : List NodeView) (marks : NodeSet) (w : World) → MarksUtilities nodes marks → nat_abs (marked_utility nodes marks w) ≤ greatest_utility nodes
marked_le nodes marks w m = sum_each_le (values nodes marks w) (greatest_at nodes) (numbers_of nodes) (λ v k. go v (inside (length nodes) v k) (true_or_false (holds marks v)))
  where
    go : (v : ℕ) → v < length nodes → (holds marks v ≡ true) ⊎ (holds marks v ≡ false) → nat_abs (values nodes marks w v) ≤ greatest_at nodes v
    go v l (inl e) = value_le nodes marks w v m l e
    go v l (inr e) = subst (λ b. nat_abs (cond b (slice_index_or (node_at nodes v).cells (row_of nodes v w) (pos 0)) (pos 0)) ≤ greatest_at nodes v) (sym e) (omega arith)

-- ---- nothing is left out where no node has the number
pub nothing_out : (nodes : List NodeView) (p : List RuleView) (w : World) → weight_without nodes p (length nodes) w ≡ weight nodes p w
nothing_out nodes p w =
    product_cong (λ v. cond (eqb v (length nodes)) (pos 1) (table nodes p v w)) (λ v. table nodes p v w) (numbers_of nodes)
    (λ v m. ap (λ b. cond b (pos 1) (table nodes p v w)) (eqb_no v (length nodes) (λ e. let l : v < length nodes = inside (length nodes) v m in absurd (omega arith))))

pub whole_mass : (nodes : List NodeView) (p : List RuleView) → base_mass nodes p (length nodes) ≡ mass nodes p
whole_mass nodes p = go (range_with_len 0 (length nodes)) (λ v m. inside (length nodes) v m)
  where
    go : (vs : List ℕ) → ((v : ℕ) → Among v vs → v < length nodes) → nat_product_over (base_total nodes p (length nodes)) vs ≡ nat_product_over (weight_total nodes p) vs
    go [] h = refl
    go (v ∷ vs) h = λ i. cond (eqb_no v (length nodes) (λ e. let l : v < length nodes = h v (inl refl) in absurd (omega arith)) i) (states_of nodes (length nodes)) (weight_total nodes p v) * go vs (λ u m. h u (inr m)) i

-- marks of the agent's utilities
pub marked_is : (nodes : List NodeView) (marks : NodeSet) (agent : ℕ) (w : World) → ((v : ℕ) → v < length nodes → holds marks v ≡ is_utility_of nodes agent v) → marked_utility nodes marks w ≡ utility nodes agent w
marked_is nodes marks agent w h =
    sum_each_cong (λ v. marked_value nodes marks v w) (λ v. value_for nodes agent v w) (numbers_of nodes)
    (λ v m. ap (λ b. cond b (slice_index_or (node_at nodes v).cells (row_of nodes v w) (pos 0)) (pos 0)) (h v (inside (length nodes) v m)))

-- ---- world by world
-- what a listed world adds
abbrev pub gain_in : List NodeView → List RuleView → NodeSet → List ℕ → ℤ
gain_in nodes p marks ys = weight_in nodes p (length nodes) ys *ℤ marked_utility nodes marks (world_of ys)

pub record LeavesSoFar (nodes : List NodeView) (p : List RuleView) (agent : ℕ) (marks : NodeSet) (sum : ℤ) (xs : List ℕ) : Type 0 where
  pub world : IsWorld (counts_of nodes) xs
  pub value : sum +ℤ sum_list (gain_in nodes p marks) (worlds_from (counts_of nodes) xs) ≡ gain_of nodes p agent
  pub m : ℕ
  pub bound : nat_abs sum ≤ m * greatest_utility nodes
  pub mass : MassSoFar nodes p (length nodes) m xs

module _ (d : DiagramView) (is : IsDiagram d) (p : List RuleView) (prof : IsProfile d.nodes p) (agent : ℕ) (marks : NodeSet)
    (marks_are : (v : ℕ) → v < length d.nodes → holds marks v ≡ is_utility_of d.nodes agent v) where
  utilities : MarksUtilities d.nodes marks
  utilities v l m = ((utility_is d.nodes agent v).0 (sym (marks_are v l) ∙ m)).0

  pub leaves_start : (xs : List ℕ) → xs ≡ first_world (length d.nodes) → LeavesSoFar d.nodes p agent marks (pos 0) xs
  leaves_start xs e = record {
    world = subst (IsWorld (counts_of d.nodes)) (sym e) (first_is_world d.nodes is.graph.has_state);
    value = +ℤ_idl (sum_list (gain_in d.nodes p marks) (worlds_from (counts_of d.nodes) xs))
        ∙ ap (λ l. sum_list (gain_in d.nodes p marks) (worlds_from (counts_of d.nodes) l)) e
        ∙ all_worlds d.nodes (λ w. weight_without d.nodes p (length d.nodes) w *ℤ marked_utility d.nodes marks w) is.graph.has_state
        ∙ ap (sum_worlds d.nodes) (fun_ext (λ w i. nothing_out d.nodes p w i *ℤ marked_is d.nodes marks agent w marks_are i));
    m = 0;
    bound = omega arith;
    mass = mass_start d is p prof (length d.nodes) xs e;
  }

  module _ (fits : mass d.nodes p * max (10 ^ d.decimals) (greatest_utility d.nodes) ≤ greatest_number) where
    pub leaves_room : HasRoom d.nodes (base_mass d.nodes p (length d.nodes))
    leaves_room = room_of d (base_mass d.nodes p (length d.nodes)) (base_some d is p prof (length d.nodes)) (subst (λ n. n * max (10 ^ d.decimals) (greatest_utility d.nodes) ≤ greatest_number) (sym (whole_mass d.nodes p)) fits)

    module _ (sum : ℤ) (xs : List ℕ) (s : LeavesSoFar d.nodes p agent marks sum xs) (k : ℕ) (k_is : pos k ≡ weight_in d.nodes p (length d.nodes) xs) (x : ℤ) (x_is : x ≡ pos k *ℤ marked_utility d.nodes marks (world_of xs)) where
      x_le : nat_abs x ≤ k * greatest_utility d.nodes
      x_le = subst (λ n. n ≤ k * greatest_utility d.nodes) (sym (ap nat_abs x_is ∙ unsigned_abs-mul (pos k) (marked_utility d.nodes marks (world_of xs)))) (mul-le-mul_left k (marked_le d.nodes marks (world_of xs) utilities))

      x_gain : x ≡ gain_in d.nodes p marks xs
      x_gain = x_is ∙ ap (λ z. z *ℤ marked_utility d.nodes marks (world_of xs)) k_is

      next_bound : nat_abs (sum +ℤ x) ≤ (s.m + k) * greatest_utility d.nodes
      next_bound = added_bound sum x s.m k (greatest_utility d.nodes) s.bound x_le

      pub next_fits : nat_abs (sum +ℤ x) ≤ greatest_number
      next_fits =
          let r = some_rest (counts_of d.nodes) xs s.world in
          trans (nat_abs (sum +ℤ x)) ((s.m + k) * greatest_utility d.nodes) next_bound
          (leaves_room.product (s.m + k) (mass_within d is p prof (length d.nodes) s.m k xs s.mass k_is r.0 r.1))
        where
          trans : (a b : ℕ) → a ≤ b → b ≤ greatest_number → a ≤ greatest_number
          trans a b h j = omega arith

      after : (rest : List (List ℕ)) → worlds_from (counts_of d.nodes) xs ≡ xs ∷ rest → (sum +ℤ x) +ℤ sum_list (gain_in d.nodes p marks) rest ≡ gain_of d.nodes p agent
      after rest split = +ℤ_assoc sum x (sum_list (gain_in d.nodes p marks) rest) ∙ ap (λ z. sum +ℤ (z +ℤ sum_list (gain_in d.nodes p marks) rest)) x_gain ∙ sym (ap (λ l. sum +ℤ sum_list (gain_in d.nodes p marks) l) split) ∙ s.value

      step : (ys : List ℕ) → IsWorld (counts_of d.nodes) ys → worlds_from (counts_of d.nodes) xs ≡ xs ∷ worlds_from (counts_of d.nodes) ys → LeavesSoFar d.nodes p agent marks (sum +ℤ x) ys
      step ys world split = record {
        world = world;
        value = after (worlds_from (counts_of d.nodes) ys) split;
        m = s.m + k;
        bound = next_bound;
        mass = mass_step d is p prof (length d.nodes) s.m k xs ys s.mass k_is split;
      }

      -- ---- the same of the code's bits
      module _ (x_fits : FitsSigned w128 x) where
        pub bits_fit : FitsSigned w128 (sum +ℤ to_z w128 (of_z w128 x))
        bits_fit = subst (λ z. FitsSigned w128 (sum +ℤ z)) (sym (to_z-of_z w128 x x_fits)) (fits_signed_from_abs w128 (sum +ℤ x) (less (nat_abs (sum +ℤ x)) next_fits))
          where
            less : (a : ℕ) → a ≤ greatest_number → a < 2 ^ 127
            less a h = omega arith

        bits_are : to_z w128 (of_z w128 (sum +ℤ to_z w128 (of_z w128 x))) ≡ sum +ℤ x
        bits_are = to_z-of_z w128 (sum +ℤ to_z w128 (of_z w128 x)) bits_fit ∙ ap (λ z. sum +ℤ z) (to_z-of_z w128 x x_fits)

        pub leaves_step : (ys : List ℕ) → IsWorld (counts_of d.nodes) ys → worlds_from (counts_of d.nodes) xs ≡ xs ∷ worlds_from (counts_of d.nodes) ys → LeavesSoFar d.nodes p agent marks (to_z w128 (of_z w128 (sum +ℤ to_z w128 (of_z w128 x)))) ys
        leaves_step ys world split = subst (λ z. LeavesSoFar d.nodes p agent marks z ys) (sym bits_are) (step ys world split)

        pub leaves_end : worlds_from (counts_of d.nodes) xs ≡ xs ∷ [] → to_z w128 (of_z w128 (sum +ℤ to_z w128 (of_z w128 x))) ≡ gain_of d.nodes p agent
        leaves_end split = bits_are ∙ sym (+ℤ_idr (sum +ℤ x)) ∙ after [] split

        -- the sum keeps the room that the bound leaves
        pub leaves_small : nat_abs (to_z w128 (of_z w128 (sum +ℤ to_z w128 (of_z w128 x)))) ≤ greatest_number
        leaves_small = subst (λ z. nat_abs z ≤ greatest_number) (sym bits_are) next_fits
