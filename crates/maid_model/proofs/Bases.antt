-- G and R of a decision, world by world.
use Rattle.std.proofs.Common.{◌≡◌, ◌∙◌, ℕ, zero, suc, ◌+◌, ◌*◌, ◌^◌, ◌<◌, ◌≤◌, Bool, true, false, cond, ◌&&◌, eqb, List, [], ◌∷◌, max, length, set, replicate, slice_index, slice_index_or, refl, sym, ap, subst, arith, ℤ, pos, ◌+ℤ◌, ◌*ℤ◌, nat_abs, ◌/◌, ◌%◌, get_or-set_same, get_or-set_other}
use Rattle.std.proofs.lemmas.Int.{ints, unsigned_abs-mul}
use Rattle.std.proofs.lemmas.List.{get_or_default}
use Rattle.std.proofs.lemmas.Nat.{div-mul-add, mod-mul-add}
use Rattle.std.proofs.Math.ListN.{length-set, length-replicate}
use Rattle.std.proofs.Math.IntN.{+ℤ_assoc, +ℤ_idr, +ℤ_idl}
use Rattle.std.proofs.Math.Nat.{mul-le-mul_left, mul-le-mul_right}
use Rattle.std.proofs.Math.Path.{fun_ext}
use Rattle.std.proofs.Math.Decide.{ℕ_discrete}
use Rattle.maid_model.specs.Diagrams.{IsDiagram, greatest_number}
use Rattle.maid_model.specs.Gains.{weight_without, utility_below, value_below, is_at, gain_at, mass_at, base_mass, greatest_utility, sum_worlds}
use Rattle.maid_model.specs.Graph.{descends}
use Rattle.maid_model.specs.Nodes.{node_at, states_of, rows_of, counts_of, numbers_of, is_utility_of}
use Rattle.node_sets.specs.declared.sets.NodeSet.{NodeSet}
use Rattle.node_sets.specs.Sets.{holds}
use Rattle.maid_model.specs.Private.{marked_value, marked_utility, MarksUtilities}
use Rattle.maid_model.specs.Profiles.{IsProfile}
use Rattle.finite_sums.specs.Sums.{World, InRange}
use Rattle.maid_model.specs.Tables.{row_of}
use Rattle.maid_model.specs.Views.{NodeView, RuleView, DiagramView}
use Rattle.maid_model.specs.Worlds.{IsWorld, world_of, worlds_from, first_world, sum_list}
use Rattle.maid_model.proofs.Adding.{HasRoom, room_of, base_some, all_worlds, some_rest, weight_in, MassSoFar, mass_start, mass_within, mass_step, added_bound}
use Rattle.maid_model.proofs.Found.{eqb_yes, eqb_no}
use Rattle.maid_model.proofs.Leaves.{marked_le, sum_each_cong, inside}
use Rattle.maid_model.proofs.Next.{first_is_world}
use Rattle.maid_model.proofs.Picked.{world_in_range, world_length}
use Rattle.maid_model.proofs.Tables.{row_of-below, step_below}

-- marks of the utilities below the decision
pub below_is : (nodes : List NodeView) (marks : NodeSet) (d : ℕ) (w : World) → ((v : ℕ) → v < length nodes → holds marks v ≡ (descends nodes d v && is_utility_of nodes (node_at nodes d).owner v)) → marked_utility nodes marks w ≡ utility_below nodes d w
below_is nodes marks d w h =
    sum_each_cong (λ v. marked_value nodes marks v w) (λ v. value_below nodes d v w) (numbers_of nodes)
    (λ v m. ap (λ b. cond b (slice_index_or (node_at nodes v).cells (row_of nodes v w) (pos 0)) (pos 0)) (h v (inside (length nodes) v m))
    ∙ both (descends nodes d v) (is_utility_of nodes (node_at nodes d).owner v) (slice_index_or (node_at nodes v).cells (row_of nodes v w) (pos 0)))
  where
    both : (a b : Bool) (x : ℤ) → cond (a && b) x (pos 0) ≡ cond a (cond b x (pos 0)) (pos 0)
    both true b x = refl
    both false b x = refl

-- what a listed world adds to a cell of the gains, and to a row of the masses
abbrev pub gain_term : List NodeView → List RuleView → ℕ → NodeSet → ℕ → ℕ → List ℕ → ℤ
gain_term nodes p d marks row s ys = cond (is_at nodes d s row (world_of ys)) (weight_in nodes p d ys *ℤ marked_utility nodes marks (world_of ys)) (pos 0)

abbrev pub mass_term : List NodeView → List RuleView → ℕ → ℕ → List ℕ → ℤ
mass_term nodes p d row ys = cond (is_at nodes d 0 row (world_of ys)) (weight_in nodes p d ys) (pos 0)

pub record BaseSoFar (nodes : List NodeView) (p : List RuleView) (d : ℕ) (marks : NodeSet) (gains : List ℤ) (masses : List ℕ) (xs : List ℕ) : Type 0 where
  pub world : IsWorld (counts_of nodes) xs
  pub gains_len : length gains ≡ rows_of nodes d * states_of nodes d
  pub masses_len : length masses ≡ rows_of nodes d
  pub m : ℕ
  pub so_far : MassSoFar nodes p d m xs
  pub gain : (row s : ℕ) → row < rows_of nodes d → s < states_of nodes d → slice_index_or gains (row * states_of nodes d + s) (pos 0) +ℤ sum_list (gain_term nodes p d marks row s) (worlds_from (counts_of nodes) xs) ≡ gain_at nodes p d s row
  pub gain_bound : (i : ℕ) → nat_abs (slice_index_or gains i (pos 0)) ≤ m * greatest_utility nodes
  pub mass : (row : ℕ) → row < rows_of nodes d → pos (slice_index masses row) +ℤ sum_list (mass_term nodes p d row) (worlds_from (counts_of nodes) xs) ≡ mass_at nodes p d row
  pub mass_bound : (row : ℕ) → slice_index masses row ≤ m

pub digits : (r s x y c : ℕ) → x < c → y < c → r * c + x ≡ s * c + y → (r ≡ s) × (x ≡ y)
digits r s x y c h k e = (sym (div-mul-add r c x h) ∙ ap (λ n. n / c) e ∙ div-mul-add s c y k, sym (mod-mul-add r c x h) ∙ ap (λ n. n % c) e ∙ mod-mul-add s c y k)

-- a state that the code read off a world
pub state_read : (nodes : List NodeView) (items xs : List ℕ) (v st : ℕ) → IsWorld (counts_of nodes) xs → v < length nodes → items ≡ xs → st ≡ slice_index_or items v st → st ≡ world_of xs v
state_read nodes items xs v st w l e r = r ∙ ap (λ ys. slice_index_or ys v st) e ∙ get_or_default xs v st 0 (let n : length xs ≡ length nodes = world_length nodes xs w in omega arith)

module _ (d : DiagramView) (is : IsDiagram d) (p : List RuleView) (prof : IsProfile d.nodes p) (v : ℕ) (marks : NodeSet) (utilities : MarksUtilities d.nodes marks)
    (marks_are : (u : ℕ) → u < length d.nodes → holds marks u ≡ (descends d.nodes v u && is_utility_of d.nodes (node_at d.nodes v).owner u)) where
  -- ---- the start
  zeros_at : (n i : ℕ) → slice_index_or (replicate n (pos 0)) i (pos 0) ≡ pos 0
  zeros_at zero i = refl
  zeros_at (suc n) zero = refl
  zeros_at (suc n) (suc i) = zeros_at n i

  zero_at : (n i : ℕ) → slice_index (replicate n 0) i ≡ 0
  zero_at zero i = refl
  zero_at (suc n) zero = refl
  zero_at (suc n) (suc i) = zero_at n i

  pub base_start : (xs : List ℕ) → xs ≡ first_world (length d.nodes) → BaseSoFar d.nodes p v marks (replicate (rows_of d.nodes v * states_of d.nodes v) (pos 0)) (replicate (rows_of d.nodes v) 0) xs
  base_start xs e = record {
    world = subst (IsWorld (counts_of d.nodes)) (sym e) (first_is_world d.nodes is.graph.has_state);
    gains_len = length-replicate (rows_of d.nodes v * states_of d.nodes v) (pos 0);
    masses_len = length-replicate (rows_of d.nodes v) 0;
    m = 0;
    so_far = mass_start d is p prof v xs e;
    gain = λ row s lr ls.
        (λ i. zeros_at (rows_of d.nodes v * states_of d.nodes v) (row * states_of d.nodes v + s) i +ℤ gains_all row s i) ∙ +ℤ_idl (gain_at d.nodes p v s row);
    gain_bound = λ i. subst (λ z. nat_abs z ≤ 0 * greatest_utility d.nodes) (sym (zeros_at (rows_of d.nodes v * states_of d.nodes v) i)) (omega arith);
    mass = λ row lr. (λ i. pos (zero_at (rows_of d.nodes v) row i) +ℤ masses_all row i) ∙ +ℤ_idl (mass_at d.nodes p v row);
    mass_bound = λ row. subst (λ n. n ≤ 0) (sym (zero_at (rows_of d.nodes v) row)) (omega arith);
  }
    where
      gains_all : (row s : ℕ) → sum_list (gain_term d.nodes p v marks row s) (worlds_from (counts_of d.nodes) xs) ≡ gain_at d.nodes p v s row
      gains_all row s =
          ap (λ l. sum_list (gain_term d.nodes p v marks row s) (worlds_from (counts_of d.nodes) l)) e
          ∙ all_worlds d.nodes (λ w. cond (is_at d.nodes v s row w) (weight_without d.nodes p v w *ℤ marked_utility d.nodes marks w) (pos 0)) is.graph.has_state
          ∙ ap (sum_worlds d.nodes) (fun_ext (λ w. ap (λ z. cond (is_at d.nodes v s row w) (weight_without d.nodes p v w *ℤ z) (pos 0)) (below_is d.nodes marks v w marks_are)))

      masses_all : (row : ℕ) → sum_list (mass_term d.nodes p v row) (worlds_from (counts_of d.nodes) xs) ≡ mass_at d.nodes p v row
      masses_all row =
          ap (λ l. sum_list (mass_term d.nodes p v row) (worlds_from (counts_of d.nodes) l)) e
          ∙ all_worlds d.nodes (λ w. cond (is_at d.nodes v 0 row w) (weight_without d.nodes p v w) (pos 0)) is.graph.has_state

  module _ (fits : base_mass d.nodes p v * max (10 ^ d.decimals) (greatest_utility d.nodes) ≤ greatest_number) where
    pub base_room : HasRoom d.nodes (base_mass d.nodes p v)
    base_room = room_of d (base_mass d.nodes p v) (base_some d is p prof v) fits

    -- ---- one world more
    module _ (gains : List ℤ) (masses xs : List ℕ) (s : BaseSoFar d.nodes p v marks gains masses xs) (k : ℕ) (k_is : pos k ≡ weight_in d.nodes p v xs) (x : ℤ) (x_is : x ≡ pos k *ℤ marked_utility d.nodes marks (world_of xs)) where
      range : InRange (states_of d.nodes) (world_of xs)
      range = world_in_range d.nodes xs is.graph.has_state s.world

      abbrev row0 : ℕ
      row0 = row_of d.nodes v (world_of xs)

      abbrev st0 : ℕ
      st0 = world_of xs v

      abbrev place0 : ℕ
      place0 = row0 * states_of d.nodes v + st0

      row_in : row0 < rows_of d.nodes v
      row_in = row_of-below d.nodes v (world_of xs) range

      st_in : st0 < states_of d.nodes v
      st_in = range.state v

      pub place_in : place0 < length gains
      place_in = subst (λ n. place0 < n) (sym s.gains_len) (step_below row0 (rows_of d.nodes v) (states_of d.nodes v) st0 row_in st_in)

      pub row_within : row0 < length masses
      row_within = subst (λ n. row0 < n) (sym s.masses_len) row_in

      x_le : nat_abs x ≤ k * greatest_utility d.nodes
      x_le = subst (λ n. n ≤ k * greatest_utility d.nodes) (sym (ap nat_abs x_is ∙ unsigned_abs-mul (pos k) (marked_utility d.nodes marks (world_of xs)))) (mul-le-mul_left k (marked_le d.nodes marks (world_of xs) utilities))

      x_gain : x ≡ weight_in d.nodes p v xs *ℤ marked_utility d.nodes marks (world_of xs)
      x_gain = x_is ∙ ap (λ z. z *ℤ marked_utility d.nodes marks (world_of xs)) k_is

      within : s.m + k ≤ base_mass d.nodes p v
      within = let r = some_rest (counts_of d.nodes) xs s.world in mass_within d is p prof v s.m k xs s.so_far k_is r.0 r.1

      abbrev g0 : ℤ
      g0 = slice_index_or gains place0 (pos 0)

      sum_le : nat_abs (g0 +ℤ x) ≤ (s.m + k) * greatest_utility d.nodes
      sum_le = added_bound g0 x s.m k (greatest_utility d.nodes) (s.gain_bound place0) x_le

      -- the sums have room
      pub gain_fits : nat_abs (g0 +ℤ x) ≤ greatest_number
      gain_fits = trans (nat_abs (g0 +ℤ x)) ((s.m + k) * greatest_utility d.nodes) sum_le (base_room.product (s.m + k) within)
        where
          trans : (a b : ℕ) → a ≤ b → b ≤ greatest_number → a ≤ greatest_number
          trans a b h j = omega arith

      pub mass_fits : slice_index masses row0 + k ≤ greatest_number
      mass_fits = go (slice_index masses row0) s.m (base_mass d.nodes p v) (s.mass_bound row0) within base_room.mass
        where
          go : (a m b : ℕ) → a ≤ m → m + k ≤ b → b ≤ greatest_number → a + k ≤ greatest_number
          go a m b h j l = omega arith

      abbrev gains_next : List ℤ
      gains_next = set gains place0 (g0 +ℤ x)

      abbrev mass_next : ℕ
      mass_next = cond (eqb st0 0) (slice_index masses row0 + k) (slice_index masses row0)

      abbrev masses_next : List ℕ
      masses_next = set masses row0 mass_next

      here : (row st : ℕ) → row ≡ row0 → st ≡ st0 → is_at d.nodes v st row (world_of xs) ≡ true
      here row st e f = (λ i. eqb_yes st0 st (sym f) i && eqb_yes row0 row (sym e) i)

      away : (row st : ℕ) → ((row ≡ row0) → (st ≡ st0) → ⊥) → is_at d.nodes v st row (world_of xs) ≡ false
      away row st n = go (ℕ_discrete st0 st)
        where
          go : Dec (st0 ≡ st) → is_at d.nodes v st row (world_of xs) ≡ false
          go (yes e) = ap (λ b. b && eqb row0 row) (eqb_yes st0 st e) ∙ eqb_no row0 row (λ f. n (sym f) (sym e))
          go (no m) = ap (λ b. b && eqb row0 row) (eqb_no st0 st m)

      same_place : slice_index_or gains_next place0 (pos 0) ≡ g0 +ℤ x
      same_place = get_or-set_same gains place0 (g0 +ℤ x) (pos 0) place_in

      other_place : (row st : ℕ) → st < states_of d.nodes v → (row ≡ row0 → st ≡ st0 → ⊥) → slice_index_or gains_next (row * states_of d.nodes v + st) (pos 0) ≡ slice_index_or gains (row * states_of d.nodes v + st) (pos 0)
      other_place row st l n = get_or-set_other gains place0 (row * states_of d.nodes v + st) (g0 +ℤ x) (pos 0) (λ e. let f = digits row row0 st st0 (states_of d.nodes v) l st_in e in n f.0 f.1)

      more : s.m * greatest_utility d.nodes ≤ (s.m + k) * greatest_utility d.nodes
      more = mul-le-mul_right (greatest_utility d.nodes) (add s.m k)
        where
          add : (m k : ℕ) → m ≤ m + k
          add m k = omega arith

      bound_next : (i : ℕ) → nat_abs (slice_index_or gains_next i (pos 0)) ≤ (s.m + k) * greatest_utility d.nodes
      bound_next i = go (ℕ_discrete i place0)
        where
          trans : (a b c : ℕ) → a ≤ b → b ≤ c → a ≤ c
          trans a b c h j = omega arith

          go : Dec (i ≡ place0) → nat_abs (slice_index_or gains_next i (pos 0)) ≤ (s.m + k) * greatest_utility d.nodes
          go (yes e) = subst (λ z. nat_abs z ≤ (s.m + k) * greatest_utility d.nodes) (sym (ap (λ j. slice_index_or gains_next j (pos 0)) e ∙ same_place)) sum_le
          go (no n) = subst (λ z. nat_abs z ≤ (s.m + k) * greatest_utility d.nodes) (sym (get_or-set_other gains place0 i (g0 +ℤ x) (pos 0) n)) (trans (nat_abs (slice_index_or gains i (pos 0))) (s.m * greatest_utility d.nodes) ((s.m + k) * greatest_utility d.nodes) (s.gain_bound i) more)

      mass_bound_next : (row : ℕ) → slice_index masses_next row ≤ s.m + k
      mass_bound_next row = go (ℕ_discrete row row0)
        where
          either : (b : Bool) (a m : ℕ) → a ≤ m → cond b (a + k) a ≤ m + k
          either true a m h = omega arith
          either false a m h = omega arith

          keep : (a m : ℕ) → a ≤ m → a ≤ m + k
          keep a m h = omega arith

          go : Dec (row ≡ row0) → slice_index masses_next row ≤ s.m + k
          go (yes e) = subst (λ n. n ≤ s.m + k) (sym (ap (slice_index masses_next) e ∙ get_or-set_same masses row0 mass_next 0 row_within)) (either (eqb st0 0) (slice_index masses row0) s.m (s.mass_bound row0))
          go (no n) = subst (λ a. a ≤ s.m + k) (sym (get_or-set_other masses row0 row mass_next 0 n)) (keep (slice_index masses row) s.m (s.mass_bound row))

      module _ (rest : List (List ℕ)) (split : worlds_from (counts_of d.nodes) xs ≡ xs ∷ rest) where
        -- each cell with what is left to add
        cell_next : (row st : ℕ) → row < rows_of d.nodes v → st < states_of d.nodes v → slice_index_or gains_next (row * states_of d.nodes v + st) (pos 0) +ℤ sum_list (gain_term d.nodes p v marks row st) rest ≡ gain_at d.nodes p v st row
        cell_next row st lr ls = go (ℕ_discrete row row0) (ℕ_discrete st st0)
          where
            before : slice_index_or gains (row * states_of d.nodes v + st) (pos 0) +ℤ (gain_term d.nodes p v marks row st xs +ℤ (sum_list (gain_term d.nodes p v marks row st) rest)) ≡ gain_at d.nodes p v st row
            before = sym (ap (λ l. slice_index_or gains (row * states_of d.nodes v + st) (pos 0) +ℤ sum_list (gain_term d.nodes p v marks row st) l) split) ∙ s.gain row st lr ls

            off : (row ≡ row0 → st ≡ st0 → ⊥) → slice_index_or gains_next (row * states_of d.nodes v + st) (pos 0) +ℤ (sum_list (gain_term d.nodes p v marks row st) rest) ≡ gain_at d.nodes p v st row
            off n =
                ap (λ z. z +ℤ (sum_list (gain_term d.nodes p v marks row st) rest)) (other_place row st ls n)
                ∙ ap (λ z. slice_index_or gains (row * states_of d.nodes v + st) (pos 0) +ℤ z) (sym (+ℤ_idl (sum_list (gain_term d.nodes p v marks row st) rest)))
                ∙ ap (λ b. slice_index_or gains (row * states_of d.nodes v + st) (pos 0) +ℤ (cond b (weight_in d.nodes p v xs *ℤ marked_utility d.nodes marks (world_of xs)) (pos 0) +ℤ (sum_list (gain_term d.nodes p v marks row st) rest))) (sym (away row st n))
                ∙ before

            on : row ≡ row0 → st ≡ st0 → slice_index_or gains_next (row * states_of d.nodes v + st) (pos 0) +ℤ (sum_list (gain_term d.nodes p v marks row st) rest) ≡ gain_at d.nodes p v st row
            on e f =
                ap (λ z. z +ℤ (sum_list (gain_term d.nodes p v marks row st) rest)) ((λ i. slice_index_or gains_next (e i * states_of d.nodes v + f i) (pos 0)) ∙ same_place)
                ∙ +ℤ_assoc g0 x (sum_list (gain_term d.nodes p v marks row st) rest)
                ∙ (λ i. slice_index_or gains (sym e i * states_of d.nodes v + sym f i) (pos 0) +ℤ (x_gain i +ℤ (sum_list (gain_term d.nodes p v marks row st) rest)))
                ∙ ap (λ b. slice_index_or gains (row * states_of d.nodes v + st) (pos 0) +ℤ (cond b (weight_in d.nodes p v xs *ℤ marked_utility d.nodes marks (world_of xs)) (pos 0) +ℤ (sum_list (gain_term d.nodes p v marks row st) rest))) (sym (here row st e f))
                ∙ before

            go : Dec (row ≡ row0) → Dec (st ≡ st0) → slice_index_or gains_next (row * states_of d.nodes v + st) (pos 0) +ℤ (sum_list (gain_term d.nodes p v marks row st) rest) ≡ gain_at d.nodes p v st row
            go (yes e) (yes f) = on e f
            go (yes e) (no n) = off (λ h j. n j)
            go (no n) f = off (λ h j. n h)

        mass_cell : (row : ℕ) → row < rows_of d.nodes v → pos (slice_index masses_next row) +ℤ sum_list (mass_term d.nodes p v row) rest ≡ mass_at d.nodes p v row
        mass_cell row lr = go (ℕ_discrete row row0) (ℕ_discrete st0 0)
          where
            before : pos (slice_index masses row) +ℤ (mass_term d.nodes p v row xs +ℤ (sum_list (mass_term d.nodes p v row) rest)) ≡ mass_at d.nodes p v row
            before = sym (ap (λ l. pos (slice_index masses row) +ℤ sum_list (mass_term d.nodes p v row) l) split) ∙ s.mass row lr

            at_row : slice_index masses_next row0 ≡ mass_next
            at_row = get_or-set_same masses row0 mass_next 0 row_within

            kept : (row ≡ row0 → 0 ≡ st0 → ⊥) → slice_index masses_next row ≡ slice_index masses row → pos (slice_index masses_next row) +ℤ (sum_list (mass_term d.nodes p v row) rest) ≡ mass_at d.nodes p v row
            kept n e =
                (λ i. pos (e i) +ℤ sym (+ℤ_idl (sum_list (mass_term d.nodes p v row) rest)) i)
                ∙ ap (λ b. pos (slice_index masses row) +ℤ (cond b (weight_in d.nodes p v xs) (pos 0) +ℤ (sum_list (mass_term d.nodes p v row) rest))) (sym (away row 0 n))
                ∙ before

            three : (m k : ℕ) (r : ℤ) → pos (m + k) +ℤ r ≡ pos m +ℤ (pos k +ℤ r)
            three m k r = omega (arith, ints)

            go : Dec (row ≡ row0) → Dec (st0 ≡ 0) → pos (slice_index masses_next row) +ℤ (sum_list (mass_term d.nodes p v row) rest) ≡ mass_at d.nodes p v row
            go (yes e) (yes f) =
                ap (λ n. pos n +ℤ (sum_list (mass_term d.nodes p v row) rest)) (ap (slice_index masses_next) e ∙ at_row ∙ ap (λ b. cond b (slice_index masses row0 + k) (slice_index masses row0)) (eqb_yes st0 0 f) ∙ ap (λ r. slice_index masses r + k) (sym e))
                ∙ three (slice_index masses row) k (sum_list (mass_term d.nodes p v row) rest)
                ∙ ap (λ z. pos (slice_index masses row) +ℤ (z +ℤ (sum_list (mass_term d.nodes p v row) rest))) (k_is ∙ sym (ap (λ b. cond b (weight_in d.nodes p v xs) (pos 0)) (here row 0 e (sym f))))
                ∙ before
            go (yes e) (no n) = kept (λ h j. n (sym j)) (ap (slice_index masses_next) e ∙ at_row ∙ ap (λ b. cond b (slice_index masses row0 + k) (slice_index masses row0)) (eqb_no st0 0 n) ∙ ap (slice_index masses) (sym e))
            go (no n) f = kept (λ h j. n h) (get_or-set_other masses row0 row mass_next 0 n)

      step : (ys : List ℕ) → IsWorld (counts_of d.nodes) ys → worlds_from (counts_of d.nodes) xs ≡ xs ∷ worlds_from (counts_of d.nodes) ys → BaseSoFar d.nodes p v marks gains_next masses_next ys
      step ys world split = record {
        world = world;
        gains_len = length-set gains place0 (g0 +ℤ x) ∙ s.gains_len;
        masses_len = length-set masses row0 mass_next ∙ s.masses_len;
        m = s.m + k;
        so_far = mass_step d is p prof v s.m k xs ys s.so_far k_is split;
        gain = cell_next (worlds_from (counts_of d.nodes) ys) split;
        gain_bound = bound_next;
        mass = mass_cell (worlds_from (counts_of d.nodes) ys) split;
        mass_bound = mass_bound_next;
      }

      -- ---- in the words of the code
      module _ (row st place : ℕ) (row_is : row ≡ row0) (st_is : st ≡ st0) (place_is : place ≡ place0) where
        pub code_place : place < length gains
        code_place = subst (λ n. n < length gains) (sym place_is) place_in

        pub code_row : row < length masses
        code_row = subst (λ n. n < length masses) (sym row_is) row_within

        pub code_gain : nat_abs (slice_index_or gains place (pos 0) +ℤ x) ≤ greatest_number
        code_gain = subst (λ n. nat_abs (slice_index_or gains n (pos 0) +ℤ x) ≤ greatest_number) (sym place_is) gain_fits

        pub code_mass : slice_index masses row + k ≤ greatest_number
        code_mass = subst (λ n. slice_index masses n + k ≤ greatest_number) (sym row_is) mass_fits

        module _ (gains' : List ℤ) (masses' : List ℕ) (gains_is : gains' ≡ set gains place (slice_index_or gains place (pos 0) +ℤ x)) (masses_is : masses' ≡ set masses row (cond (eqb st 0) (slice_index masses row + k) (slice_index masses row))) where
          gains_are : gains' ≡ gains_next
          gains_are = gains_is ∙ (λ i. set gains (place_is i) (slice_index_or gains (place_is i) (pos 0) +ℤ x))

          masses_are : masses' ≡ masses_next
          masses_are = masses_is ∙ (λ i. set masses (row_is i) (cond (eqb (st_is i) 0) (slice_index masses (row_is i) + k) (slice_index masses (row_is i))))

          pub base_step : (ys : List ℕ) → IsWorld (counts_of d.nodes) ys → worlds_from (counts_of d.nodes) xs ≡ xs ∷ worlds_from (counts_of d.nodes) ys → BaseSoFar d.nodes p v marks gains' masses' ys
          base_step ys world split = subst (λ l. BaseSoFar d.nodes p v marks l masses' ys) (sym gains_are) (subst (λ l. BaseSoFar d.nodes p v marks gains_next l ys) (sym masses_are) (step ys world split))

          pub base_gains : worlds_from (counts_of d.nodes) xs ≡ xs ∷ [] → (t r : ℕ) → t < states_of d.nodes v → r < rows_of d.nodes v → slice_index_or gains' (r * states_of d.nodes v + t) (pos 0) ≡ gain_at d.nodes p v t r
          base_gains split t r lt lr = ap (λ l. slice_index_or l (r * states_of d.nodes v + t) (pos 0)) gains_are ∙ sym (+ℤ_idr (slice_index_or gains_next (r * states_of d.nodes v + t) (pos 0))) ∙ cell_next [] split r t lr lt

          pub base_masses : worlds_from (counts_of d.nodes) xs ≡ xs ∷ [] → (r : ℕ) → r < rows_of d.nodes v → pos (slice_index masses' r) ≡ mass_at d.nodes p v r
          base_masses split r lr = ap (λ l. pos (slice_index l r)) masses_are ∙ sym (+ℤ_idr (pos (slice_index masses_next r))) ∙ mass_cell [] split r lr

          -- the sums keep the room that their bounds leave
          pub base_gains_small : (i : ℕ) → nat_abs (slice_index_or gains' i (pos 0)) ≤ greatest_number
          base_gains_small i = subst (λ l. nat_abs (slice_index_or l i (pos 0)) ≤ greatest_number) (sym gains_are) (trans (nat_abs (slice_index_or gains_next i (pos 0))) ((s.m + k) * greatest_utility d.nodes) (bound_next i) (base_room.product (s.m + k) within))
            where
              trans : (a b : ℕ) → a ≤ b → b ≤ greatest_number → a ≤ greatest_number
              trans a b h j = omega arith

          pub base_masses_small : (r : ℕ) → slice_index masses' r * max (10 ^ d.decimals) (greatest_utility d.nodes) ≤ greatest_number
          base_masses_small r = subst (λ l. slice_index l r * max (10 ^ d.decimals) (greatest_utility d.nodes) ≤ greatest_number) (sym masses_are)
              (trans (slice_index masses_next r * max (10 ^ d.decimals) (greatest_utility d.nodes)) (base_mass d.nodes p v * max (10 ^ d.decimals) (greatest_utility d.nodes))
              (mul-le-mul_right (max (10 ^ d.decimals) (greatest_utility d.nodes)) (both (slice_index masses_next r) (s.m + k) (base_mass d.nodes p v) (mass_bound_next r) within)) fits)
            where
              both : (a b n : ℕ) → a ≤ b → b ≤ n → a ≤ n
              both a b n h j = omega arith

              trans : (a b : ℕ) → a ≤ b → b ≤ greatest_number → a ≤ greatest_number
              trans a b h j = omega arith
