-- A walk state by state: what the states so far added, and the room that they left.
use Rattle.std.proofs.Common.{◌≡◌, ◌∙◌, ℕ, suc, ◌+◌, ◌-◌, ◌*◌, ◌<◌, ◌≤◌, Bool, true, false, cond, eqb, List, ◌∷◌, length, set, get_or, refl, sym, ap, subst, arith, ℤ, pos, negsuc, ◌+ℤ◌, ◌*ℤ◌, nat_abs, slice_index, slice_index_or, get_or-set_same, get_or-set_other}
use Rattle.std.proofs.lemmas.Int.{ints, unsigned_abs-mul}
use Rattle.std.proofs.lemmas.List.{set-set, set-get_or}
use Rattle.std.proofs.Math.ListN.{length-set}
use Rattle.std.proofs.Math.IntN.{+ℤ_assoc, +ℤ_idl, +ℤ_idr}
use Rattle.std.proofs.Math.Nat.{mul-le-mul_left, mul-le-mul_right}
use Rattle.std.proofs.Math.Numerals.{add-one}
use Rattle.std.proofs.Math.Decide.{ℕ_discrete}
use Rattle.std.proofs.Math.Path.{fun_ext}
use Rattle.finite_sums.specs.Sums.{World, with_state, sum_below, sum_over, InRange, product_over, nat_product_over, nat_sum_over}
use Rattle.finite_sums.proofs.Ints.{mul_one}
use Rattle.finite_sums.proofs.Lists.{avoids}
use Rattle.finite_sums.proofs.Sums.{with_in, with_own, with_same}
use Rattle.maid_model.specs.declared.diagrams.Kind.TheVariants.{Utility}
use Rattle.maid_model.specs.Diagrams.{IsDiagram, greatest_number}
use Rattle.maid_model.specs.Gains.{base_total, greatest_utility, table_without}
use Rattle.maid_model.specs.Nodes.{counts_of, node_at, parents_of, rows_of, states_of}
use Rattle.maid_model.specs.Private.{MarksUtilities, marked_value}
use Rattle.maid_model.specs.Profiles.{IsProfile}
use Rattle.maid_model.specs.Tables.{cell_of, row_of, table_by, weights_of}
use Rattle.maid_model.specs.Views.{DiagramView, NodeView, RuleView}
use Rattle.maid_model.specs.Worlds.{IsWorld, world_of}
use Rattle.maid_model.proofs.Found.{eqb_yes, eqb_no}
use Rattle.maid_model.proofs.Ordering.{not_own_parent}
use Rattle.maid_model.proofs.Picked.{world_in_range, world_length}
use Rattle.maid_model.proofs.Summing.{abs_add}
use Rattle.maid_model.proofs.Tables.{row_from_other, row_of-below, step_below}
use Rattle.maid_model.proofs.Views.{counts_at}
use Rattle.maid_model.proofs.Weighing.{base_positive, product_positive}
use Rattle.node_sets.specs.declared.sets.NodeSet.{NodeSet}
use Rattle.tree_checker.specs.Walks.{HasRoomToWalk, IsDownward, factor_at, gain_with, greatest_at, mass_left, mass_with, utility_with, value_at, weight_with}
use Rattle.tree_checker.proofs.Walking.{carried, nothing, below_le, states_le, firsts, firsts_all, firsts_grow}
use Rattle.tree_checker.proofs.WalkTables.{factors_later, factors_positive, factors_total, factor_total, values_later, values_small}

-- ---- one state of a world
pub set_world : (xs : List ℕ) (v s : ℕ) → v < length xs → world_of (set xs v s) ≡ with_state (world_of xs) v s
set_world xs v s l = fun_ext (λ u. go u (ℕ_discrete u v))
  where
    go : (u : ℕ) → Dec (u ≡ v) → slice_index (set xs v s) u ≡ cond (eqb u v) s (slice_index xs u)
    go u (yes e) = ap (slice_index (set xs v s)) e ∙ get_or-set_same xs v s 0 l ∙ sym (ap (λ b. cond b s (slice_index xs u)) (eqb_yes u v e))
    go u (no n) = get_or-set_other xs v u s 0 n ∙ sym (ap (λ b. cond b s (slice_index xs u)) (eqb_no u v n))

pub set_is_world : (nodes : List NodeView) (xs : List ℕ) (v s : ℕ) → IsWorld (counts_of nodes) xs → v < length nodes → s < states_of nodes v → IsWorld (counts_of nodes) (set xs v s)
set_is_world nodes xs v s w l h = record { len = length-set xs v s ∙ w.len; each = λ u k. go u (subst (λ n. u < n) (length-set xs v s) k) (ℕ_discrete u v) }
  where
    go : (u : ℕ) → u < length xs → Dec (u ≡ v) → slice_index (set xs v s) u < slice_index (counts_of nodes) u
    go u k (yes e) = subst (λ x. slice_index (set xs v s) x < slice_index (counts_of nodes) x) (sym e)
        (subst (λ n. n < slice_index (counts_of nodes) v) (sym (get_or-set_same xs v s 0 (subst (λ n. v < n) (sym (world_length nodes xs w)) l))) (subst (λ n. s < n) (counts_at nodes v l) h))
    go u k (no n) = subst (λ x. x < slice_index (counts_of nodes) u) (sym (get_or-set_other xs v u s 0 n)) (w.each u k)

-- what a world adds to a cell
abbrev pub gain_term : List NodeView → List RuleView → ℕ → NodeSet → List ℕ → ℕ → ℤ → ℕ → World → ℤ
gain_term nodes p out marks vs m q c w = cond (eqb (cell_of nodes out w) c) (weight_with nodes p out vs m w *ℤ utility_with nodes marks vs q w) (pos 0)

abbrev pub mass_term : List NodeView → List RuleView → ℕ → List ℕ → ℕ → ℕ → World → ℤ
mass_term nodes p out vs m c w = cond (eqb (cell_of nodes out w) c) (weight_with nodes p out vs m w) (pos 0)

-- what the first n states of v add
abbrev pub gain_states : List NodeView → List RuleView → ℕ → NodeSet → ℕ → List ℕ → ℕ → ℤ → ℕ → World → ℕ → ℤ
gain_states nodes p out marks v rest m q c w n = sum_below n (λ s. sum_over (states_of nodes) rest (gain_term nodes p out marks (v ∷ rest) m q c) (with_state w v s))

abbrev pub mass_states : List NodeView → List RuleView → ℕ → ℕ → List ℕ → ℕ → ℕ → World → ℕ → ℤ
mass_states nodes p out v rest m c w n = sum_below n (λ s. sum_over (states_of nodes) rest (mass_term nodes p out (v ∷ rest) m c) (with_state w v s))

-- the first n states are added, and v can have its state back
pub record WalkSoFar (nodes : List NodeView) (p : List RuleView) (out : ℕ) (marks : NodeSet) (v : ℕ) (rest : List ℕ) (m : ℕ) (q : ℤ) (before : ℕ) (xs0 : List ℕ) (gains0 : List ℤ) (masses0 xs : List ℕ) (gains : List ℤ) (masses : List ℕ) (n : ℕ) : Type 0 where
  pub back : set xs v before ≡ xs0
  pub gain : (c : ℕ) → slice_index_or gains c (pos 0) ≡ slice_index_or gains0 c (pos 0) +ℤ gain_states nodes p out marks v rest m q c (world_of xs0) n
  pub mass : (c : ℕ) → pos (slice_index masses c) ≡ pos (slice_index masses0 c) +ℤ mass_states nodes p out v rest m c (world_of xs0) n
  pub gain_count : length gains ≡ length gains0
  pub mass_count : length masses ≡ length masses0

module _ (d : DiagramView) (is : IsDiagram d) (p : List RuleView) (prof : IsProfile d.nodes p) (out : ℕ) (marks : NodeSet) (utilities : MarksUtilities d.nodes marks)
    (v : ℕ) (rest : List ℕ) (down : IsDownward d.nodes (v ∷ rest)) (m : ℕ) (q : ℤ) (before : ℕ) (xs0 : List ℕ) (world0 : IsWorld (counts_of d.nodes) xs0) (gains0 : List ℤ) (masses0 : List ℕ)
    (room : HasRoomToWalk d.nodes p out (v ∷ rest) m q gains0 masses0) where
  abbrev count : ℕ → ℕ
  count = states_of d.nodes

  abbrev table : ℕ → World → ℤ
  table u w = table_without d.nodes p out u w

  abbrev value : ℕ → World → ℤ
  value u w = marked_value d.nodes marks u w

  abbrev cell : World → ℕ
  cell w = cell_of d.nodes out w

  abbrev gain_ends : ℤ → ℤ → ℤ
  gain_ends a b = a *ℤ b

  abbrev mass_ends : ℤ → ℤ → ℤ
  mass_ends a b = a

  abbrev w0 : World
  w0 = world_of xs0

  range0 : InRange count w0
  range0 = world_in_range d.nodes xs0 is.graph.has_state world0

  inside : v < length xs0
  inside = subst (λ n. v < n) (sym (world_length d.nodes xs0 world0)) down.0

  abbrev left : ℕ
  left = nat_product_over (base_total d.nodes p out) rest

  gain_ends_le : (k : ℕ) (z : ℤ) → nat_abs z ≤ greatest_utility d.nodes → nat_abs (pos k *ℤ z) ≤ k * greatest_utility d.nodes
  gain_ends_le k z h = subst (λ n. n ≤ k * greatest_utility d.nodes) (sym (unsigned_abs-mul (pos k) z)) (mul-le-mul_left k h)

  mass_ends_le : (k : ℕ) (z : ℤ) → nat_abs z ≤ greatest_utility d.nodes → nat_abs (pos k) ≤ k * 1
  mass_ends_le k z h = omega arith

  abbrev done : ℕ → ℕ
  done n = firsts count table value cell gain_ends (base_total d.nodes p out) (greatest_at d.nodes) (greatest_utility d.nodes) (greatest_utility d.nodes) (factors_positive d is p prof out) (values_small d.nodes marks utilities) gain_ends_le v w0 n

  gain_le : (c n : ℕ) → n ≤ count v → nat_abs (gain_states d.nodes p out marks v rest m q c w0 n) ≤ m * done n * left * greatest_utility d.nodes
  gain_le c n h =
      let lt = factors_later d.nodes p out (v ∷ rest) down in
      let lv = values_later d.nodes marks (v ∷ rest) down in
      states_le count table value cell gain_ends (base_total d.nodes p out) (greatest_at d.nodes) (greatest_utility d.nodes) (greatest_utility d.nodes) (factors_positive d is p prof out) (values_small d.nodes marks utilities) gain_ends_le v rest
      (below_le count table value cell gain_ends (base_total d.nodes p out) (greatest_at d.nodes) (greatest_utility d.nodes) (greatest_utility d.nodes) (factors_positive d is p prof out) (values_small d.nodes marks utilities) gain_ends_le rest lt.1 lv.1 (factors_total d is p prof out rest))
      lt.0 lv.0 m q room.utility c w0 range0 n h

  mass_le : (c n : ℕ) → n ≤ count v → nat_abs (mass_states d.nodes p out v rest m c w0 n) ≤ m * done n * left * 1
  mass_le c n h =
      let lt = factors_later d.nodes p out (v ∷ rest) down in
      let lv = values_later d.nodes marks (v ∷ rest) down in
      states_le count table value cell mass_ends (base_total d.nodes p out) (greatest_at d.nodes) (greatest_utility d.nodes) 1 (factors_positive d is p prof out) (values_small d.nodes marks utilities) mass_ends_le v rest
      (below_le count table value cell mass_ends (base_total d.nodes p out) (greatest_at d.nodes) (greatest_utility d.nodes) 1 (factors_positive d is p prof out) (values_small d.nodes marks utilities) mass_ends_le rest lt.1 lv.1 (factors_total d is p prof out rest))
      lt.0 lv.0 m q room.utility c w0 range0 n h

  -- the sum with the node's value
  sum_room : (u : ℤ) → u ≡ marked_value d.nodes marks v w0 → nat_abs (q +ℤ u) + nat_sum_over (greatest_at d.nodes) rest ≤ greatest_utility d.nodes
  sum_room u e = go (nat_abs (q +ℤ u)) (nat_abs q) (nat_abs u) (greatest_at d.nodes v) (nat_sum_over (greatest_at d.nodes) rest) (greatest_utility d.nodes) (abs_add q u)
      (subst (λ z. nat_abs z ≤ greatest_at d.nodes v) (sym e) (values_small d.nodes marks utilities v w0)) room.utility
    where
      go : (y a b g r t : ℕ) → y ≤ a + b → b ≤ g → a + (g + r) ≤ t → y + r ≤ t
      go y a b g r t h j k = omega arith

  pub sum_fits : (u : ℤ) → u ≡ marked_value d.nodes marks v w0 → nat_abs (q +ℤ u) ≤ greatest_number
  sum_fits u e = go (nat_abs (q +ℤ u)) (nat_sum_over (greatest_at d.nodes) rest) (greatest_utility d.nodes) (sum_room u e) room.most
    where
      go : (a r t : ℕ) → a + r ≤ t → t ≤ greatest_number → a ≤ greatest_number
      go a r t h k = omega arith

  -- the node's row, whatever its own state
  row_same : (n : ℕ) → row_of d.nodes v (with_state w0 v n) ≡ row_of d.nodes v w0
  row_same n = row_from_other count w0 v n (parents_of d.nodes v) (avoids v (parents_of d.nodes v) (not_own_parent d.nodes is.graph v)) 0

  pub row_within : row_of d.nodes v w0 < rows_of d.nodes v
  row_within = row_of-below d.nodes v w0 range0

  pub cell_within : (n : ℕ) → n < count v → row_of d.nodes v w0 * count v + n < rows_of d.nodes v * count v
  cell_within n l = step_below (row_of d.nodes v w0) (rows_of d.nodes v) (count v) n row_within l

  pub cell_small : (n : ℕ) → n < count v → row_of d.nodes v w0 * count v + n < 65536
  cell_small n l = less (row_of d.nodes v w0 * count v + n) (rows_of d.nodes v * count v) (cell_within n l) (is.limits.cells v down.0)
    where
      less : (a b : ℕ) → a < b → b ≤ 65536 → a < 65536
      less a b l h = omega arith

  -- ---- a utility has one state and the factor 1, so only its value is carried
  module _ (utility_here : (node_at d.nodes v).kind ≡ Utility) (u : ℤ) (u_is : u ≡ marked_value d.nodes marks v w0) where
    one_state : count v ≡ 1
    one_state = is.graph.utility_states v utility_here

    own_state : with_state w0 v 0 ≡ w0
    own_state = with_own w0 v 0 (go (w0 v) (count v) (range0.state v) one_state)
      where
        go : (a b : ℕ) → a < b → b ≡ 1 → a ≡ 0
        go a b l e = omega arith

    no_factor : pos m *ℤ table v w0 ≡ pos m
    no_factor = ap (λ z. pos m *ℤ z) (ap (λ k. cond (eqb v out) (pos 1) (table_by k (node_at d.nodes v).cells (weights_of p v) (cell_of d.nodes v w0))) utility_here ∙ either (eqb v out)) ∙ mul_one (pos m)
      where
        either : (b : Bool) → cond b (pos 1) (pos 1) ≡ pos 1
        either true = refl
        either false = refl

    pub utility_gain : (c : ℕ) → gain_with d.nodes p out marks (v ∷ rest) m q c w0 ≡ gain_with d.nodes p out marks rest m (q +ℤ u) c w0
    utility_gain c =
        ap (gain_states d.nodes p out marks v rest m q c w0) one_state
        ∙ +ℤ_idl (sum_over count rest (gain_term d.nodes p out marks (v ∷ rest) m q c) (with_state w0 v 0))
        ∙ ap (sum_over count rest (gain_term d.nodes p out marks (v ∷ rest) m q c)) own_state
        ∙ carried count table value cell gain_ends v rest (pos m) q c (factors_later d.nodes p out (v ∷ rest) down).0 (values_later d.nodes marks (v ∷ rest) down).0 w0 range0
        ∙ (λ i. sum_over count rest (λ x. cond (eqb (cell x) c) (no_factor i *ℤ product_over (λ y. table y x) rest *ℤ utility_with d.nodes marks rest (q +ℤ sym u_is i) x) (pos 0)) w0)

    pub utility_mass : (c : ℕ) → mass_with d.nodes p out (v ∷ rest) m c w0 ≡ mass_with d.nodes p out rest m c w0
    utility_mass c =
        ap (mass_states d.nodes p out v rest m c w0) one_state
        ∙ +ℤ_idl (sum_over count rest (mass_term d.nodes p out (v ∷ rest) m c) (with_state w0 v 0))
        ∙ ap (sum_over count rest (mass_term d.nodes p out (v ∷ rest) m c)) own_state
        ∙ carried count table value cell mass_ends v rest (pos m) q c (factors_later d.nodes p out (v ∷ rest) down).0 (values_later d.nodes marks (v ∷ rest) down).0 w0 range0
        ∙ (λ i. sum_over count rest (λ x. cond (eqb (cell x) c) (no_factor i *ℤ product_over (λ y. table y x) rest) (pos 0)) w0)

    less_left : mass_left d.nodes p out rest m ≤ mass_left d.nodes p out (v ∷ rest) m
    less_left = go (base_total d.nodes p out v) left (base_positive d is p prof out v)
      where
        go : (b r : ℕ) → 0 < b → m * r ≤ m * (b * r)
        go b r h = let one : r ≤ b * r = omega (arith, mul-le-mul_right r h) in mul-le-mul_left m one

    pub utility_room : HasRoomToWalk d.nodes p out rest m (q +ℤ u) gains0 masses0
    utility_room = record {
      gain = λ c. first (nat_abs (slice_index_or gains0 c (pos 0))) (mass_left d.nodes p out rest m) (mass_left d.nodes p out (v ∷ rest) m) (greatest_utility d.nodes) less_left (room.gain c);
      mass = λ c. second (slice_index masses0 c) (mass_left d.nodes p out rest m) (mass_left d.nodes p out (v ∷ rest) m) less_left (room.mass c);
      utility = sum_room u u_is;
      most = room.most;
    }
      where
        first : (g a b t : ℕ) → a ≤ b → g + b * t ≤ greatest_number → g + a * t ≤ greatest_number
        first g a b t h k = omega (arith, mul-le-mul_right t h)

        second : (g a b : ℕ) → a ≤ b → g + b ≤ greatest_number → g + a ≤ greatest_number
        second g a b h k = omega arith

  -- before the first state
  pub walk_start : (xs : List ℕ) → before ≡ get_or xs v before → xs ≡ xs0 → WalkSoFar d.nodes p out marks v rest m q before xs0 gains0 masses0 xs gains0 masses0 0
  walk_start xs e f = record {
    back = ap (set xs v) e ∙ set-get_or xs v before ∙ f;
    gain = λ c. sym (+ℤ_idr (slice_index_or gains0 c (pos 0)));
    mass = λ c. sym (+ℤ_idr (pos (slice_index masses0 c)));
    gain_count = refl;
    mass_count = refl;
  }

  module _ (xs : List ℕ) (gains : List ℤ) (masses : List ℕ) (n : ℕ) (s : WalkSoFar d.nodes p out marks v rest m q before xs0 gains0 masses0 xs gains masses n) where
    pub within : v < length xs
    within = subst (λ k. v < k) (sym (ap length s.back) ∙ length-set xs v before) inside

    -- after the last state
    pub walk_gains : count v ≤ n → n ≤ count v → (c : ℕ) → slice_index_or gains c (pos 0) ≡ slice_index_or gains0 c (pos 0) +ℤ gain_with d.nodes p out marks (v ∷ rest) m q c w0
    walk_gains h k c = s.gain c ∙ ap (λ j. slice_index_or gains0 c (pos 0) +ℤ gain_states d.nodes p out marks v rest m q c w0 j) (same n (count v) h k)
      where
        same : (a b : ℕ) → b ≤ a → a ≤ b → a ≡ b
        same a b h k = omega arith

    pub walk_masses : count v ≤ n → n ≤ count v → (c : ℕ) → pos (slice_index masses c) ≡ pos (slice_index masses0 c) +ℤ mass_with d.nodes p out (v ∷ rest) m c w0
    walk_masses h k c = s.mass c ∙ ap (λ j. pos (slice_index masses0 c) +ℤ mass_states d.nodes p out v rest m c w0 j) (same n (count v) h k)
      where
        same : (a b : ℕ) → b ≤ a → a ≤ b → a ≡ b
        same a b h k = omega arith

    module _ (l : n < count v) where
      abbrev w1 : World
      w1 = with_state w0 v n

      range1 : InRange count w1
      range1 = with_in count w0 v n range0 l

      module _ (t : ℕ) (t_is : pos t ≡ factor_at d.nodes p out v (row_of d.nodes v w0 * count v + n)) where
        t_at : pos t ≡ table v w1
        t_at = t_is ∙ (λ i. factor_at d.nodes p out v (sym (row_same n) i * count v + sym (with_same w0 v n) i))

        done_next : done n + t ≡ done (suc n)
        done_next = ap (λ k. done n + k) (ap nat_abs t_at)

        done_within : done n + t ≤ base_total d.nodes p out v
        done_within = subst (λ k. k ≤ base_total d.nodes p out v) (sym done_next) (subst (λ k. done (suc n) ≤ k) all grown)
          where
            all : done (suc n + (count v - suc n)) ≡ base_total d.nodes p out v
            all = ap done (back (suc n) (count v) l) ∙ firsts_all count table value cell gain_ends (base_total d.nodes p out) (greatest_at d.nodes) (greatest_utility d.nodes) (greatest_utility d.nodes) (factors_positive d is p prof out) (values_small d.nodes marks utilities) gain_ends_le v w0 range0 (factor_total d is p prof out v)
              where
                back : (a b : ℕ) → a ≤ b → a + (b - a) ≡ b
                back a b h = omega arith

            grown : done (suc n) ≤ done (suc n + (count v - suc n))
            grown = firsts_grow count table value cell gain_ends (base_total d.nodes p out) (greatest_at d.nodes) (greatest_utility d.nodes) (greatest_utility d.nodes) (factors_positive d is p prof out) (values_small d.nodes marks utilities) gain_ends_le v w0 (suc n) (count v - suc n)

        -- the room of all states is that of the states so far and of this one
        shared : m * done n * left + m * t * left ≤ mass_left d.nodes p out (v ∷ rest) m
        shared = go (done n) (base_total d.nodes p out v) left done_within
          where
            go : (a b r : ℕ) → a + t ≤ b → m * a * r + m * t * r ≤ m * (b * r)
            go a b r h = omega (arith, mul-le-mul_left m (mul-le-mul_right r h))

        gain_room : (c : ℕ) → nat_abs (slice_index_or gains c (pos 0)) + mass_left d.nodes p out rest (m * t) * greatest_utility d.nodes ≤ greatest_number
        gain_room c =
            go (nat_abs (slice_index_or gains c (pos 0))) (nat_abs (slice_index_or gains0 c (pos 0))) (nat_abs (gain_states d.nodes p out marks v rest m q c w0 n)) (m * done n * left) (m * t * left) (mass_left d.nodes p out (v ∷ rest) m) (greatest_utility d.nodes)
            (subst (λ z. nat_abs z ≤ nat_abs (slice_index_or gains0 c (pos 0)) + nat_abs (gain_states d.nodes p out marks v rest m q c w0 n)) (sym (s.gain c)) (abs_add (slice_index_or gains0 c (pos 0)) (gain_states d.nodes p out marks v rest m q c w0 n)))
            (gain_le c n (less n (count v) l)) shared (room.gain c)
          where
            less : (a b : ℕ) → a < b → a ≤ b
            less a b h = omega arith

            go : (g g0 x a b t u : ℕ) → g ≤ g0 + x → x ≤ a * u → a + b ≤ t → g0 + t * u ≤ greatest_number → g + b * u ≤ greatest_number
            go g g0 x a b t u h i j k = omega (arith, mul-le-mul_right u j)

        mass_room : (c : ℕ) → slice_index masses c + mass_left d.nodes p out rest (m * t) ≤ greatest_number
        mass_room c =
            go (slice_index masses c) (slice_index masses0 c) (mass_states d.nodes p out v rest m c w0 n) (m * done n * left) (m * t * left) (mass_left d.nodes p out (v ∷ rest) m)
            (s.mass c) (mass_le c n (less n (count v) l)) shared (room.mass c)
          where
            less : (a b : ℕ) → a < b → a ≤ b
            less a b h = omega arith

            first : (g g0 : ℕ) (x : ℤ) (a : ℕ) → pos g ≡ pos g0 +ℤ x → nat_abs x ≤ a * 1 → g ≤ g0 + a
            first g g0 (pos x) a e h = omega (arith, ints)
            first g g0 (negsuc x) a e h = omega (arith, ints)

            go : (g g0 : ℕ) (x : ℤ) (a b t : ℕ) → pos g ≡ pos g0 +ℤ x → nat_abs x ≤ a * 1 → a + b ≤ t → g0 + t ≤ greatest_number → g + b ≤ greatest_number
            go g g0 x a b t e h j k = omega (arith, first g g0 x a e h)

        -- the product so far fits
        pub product_fits : m * t ≤ greatest_number
        product_fits = go (m * t) left (slice_index masses 0) (product_positive (base_total d.nodes p out) rest (base_positive d is p prof out)) (mass_room 0)
          where
            go : (a r k : ℕ) → 0 < r → k + a * r ≤ greatest_number → a ≤ greatest_number
            go a r k h j = omega (arith, mul-le-mul_left a h)

        gain_carried : (c : ℕ) → sum_over count rest (gain_term d.nodes p out marks (v ∷ rest) m q c) w1 ≡ gain_with d.nodes p out marks rest (m * t) (q +ℤ value v w1) c w1
        gain_carried c =
            carried count table value cell gain_ends v rest (pos m) q c (factors_later d.nodes p out (v ∷ rest) down).0 (values_later d.nodes marks (v ∷ rest) down).0 w1 range1
            ∙ ap (λ z. sum_over count rest (λ x. cond (eqb (cell x) c) ((pos m *ℤ z) *ℤ product_over (λ u. table u x) rest *ℤ utility_with d.nodes marks rest (q +ℤ value v w1) x) (pos 0)) w1) (sym t_at)

        mass_carried : (c : ℕ) → sum_over count rest (mass_term d.nodes p out (v ∷ rest) m c) w1 ≡ mass_with d.nodes p out rest (m * t) c w1
        mass_carried c =
            carried count table value cell mass_ends v rest (pos m) q c (factors_later d.nodes p out (v ∷ rest) down).0 (values_later d.nodes marks (v ∷ rest) down).0 w1 range1
            ∙ ap (λ z. sum_over count rest (λ x. cond (eqb (cell x) c) ((pos m *ℤ z) *ℤ product_over (λ u. table u x) rest) (pos 0)) w1) (sym t_at)

        add_last : (a b x : ℤ) (k : ℤ) → a ≡ b +ℤ x → a +ℤ k ≡ b +ℤ (x +ℤ k)
        add_last a b x k e = ap (λ z. z +ℤ k) e ∙ +ℤ_assoc b x k

        -- a state without weight adds nothing
        module _ (none : m * t ≡ 0) where
          pub walk_skip : WalkSoFar d.nodes p out marks v rest m q before xs0 gains0 masses0 xs gains masses (n + 1)
          walk_skip = subst (λ k. WalkSoFar d.nodes p out marks v rest m q before xs0 gains0 masses0 xs gains masses k) (sym (add-one n)) (record {
            back = s.back;
            gain = λ c. sym (+ℤ_idr (slice_index_or gains c (pos 0))) ∙ ap (λ z. slice_index_or gains c (pos 0) +ℤ z) (sym (no_gain c)) ∙ add_last (slice_index_or gains c (pos 0)) (slice_index_or gains0 c (pos 0)) (gain_states d.nodes p out marks v rest m q c w0 n) (sum_over count rest (gain_term d.nodes p out marks (v ∷ rest) m q c) w1) (s.gain c);
            mass = λ c. sym (+ℤ_idr (pos (slice_index masses c))) ∙ ap (λ z. pos (slice_index masses c) +ℤ z) (sym (no_mass c)) ∙ add_last (pos (slice_index masses c)) (pos (slice_index masses0 c)) (mass_states d.nodes p out v rest m c w0 n) (sum_over count rest (mass_term d.nodes p out (v ∷ rest) m c) w1) (s.mass c);
            gain_count = s.gain_count;
            mass_count = s.mass_count;
          })
            where
              zero_mul : (b : ℤ) → pos 0 *ℤ b ≡ pos 0
              zero_mul b = omega (arith, ints)

              no_gain : (c : ℕ) → sum_over count rest (gain_term d.nodes p out marks (v ∷ rest) m q c) w1 ≡ pos 0
              no_gain c = gain_carried c ∙ ap (λ k. gain_with d.nodes p out marks rest k (q +ℤ value v w1) c w1) none ∙ nothing count table value cell gain_ends zero_mul rest (q +ℤ value v w1) c w1

              no_mass : (c : ℕ) → sum_over count rest (mass_term d.nodes p out (v ∷ rest) m c) w1 ≡ pos 0
              no_mass c = mass_carried c ∙ ap (λ k. mass_with d.nodes p out rest k c w1) none ∙ nothing count table value cell mass_ends (λ b. refl) rest q c w1

        module _ (u : ℤ) (u_is : u ≡ marked_value d.nodes marks v w0) (xs1 : List ℕ) (xs1_is : xs1 ≡ set xs v n) where
          from0 : xs1 ≡ set xs0 v n
          from0 = xs1_is ∙ sym (set-set xs v before n) ∙ ap (λ ys. set ys v n) s.back

          pub world_is : world_of xs1 ≡ w1
          world_is = ap world_of from0 ∙ set_world xs0 v n inside

          pub next_world : IsWorld (counts_of d.nodes) xs1
          next_world = subst (IsWorld (counts_of d.nodes)) (sym from0) (set_is_world d.nodes xs0 v n world0 down.0 l)

          next_back : (ys : List ℕ) → ys ≡ xs1 → set ys v before ≡ xs0
          next_back ys e = ap (λ zs. set zs v before) (e ∙ xs1_is) ∙ set-set xs v n before ∙ s.back

          u_at : u ≡ value v w1
          u_at = u_is ∙ ap (value_at d.nodes marks v) (sym (row_same n))

          pub next_room : HasRoomToWalk d.nodes p out rest (m * t) (q +ℤ u) gains masses
          next_room = record { gain = gain_room; mass = mass_room; utility = sum_room u u_is; most = room.most }

          -- a state with weight adds what the rest of the walk added
          pub walk_step : (ys : List ℕ) (gains1 : List ℤ) (masses1 : List ℕ) → ys ≡ xs1
              → ((c : ℕ) → slice_index_or gains1 c (pos 0) ≡ slice_index_or gains c (pos 0) +ℤ gain_with d.nodes p out marks rest (m * t) (q +ℤ u) c (world_of xs1))
              → ((c : ℕ) → pos (slice_index masses1 c) ≡ pos (slice_index masses c) +ℤ mass_with d.nodes p out rest (m * t) c (world_of xs1))
              → length gains1 ≡ length gains → length masses1 ≡ length masses
              → WalkSoFar d.nodes p out marks v rest m q before xs0 gains0 masses0 ys gains1 masses1 (n + 1)
          walk_step ys gains1 masses1 e added weighed lg lm = subst (λ k. WalkSoFar d.nodes p out marks v rest m q before xs0 gains0 masses0 ys gains1 masses1 k) (sym (add-one n)) (record {
            back = next_back ys e;
            gain = λ c. added c ∙ ap (λ z. slice_index_or gains c (pos 0) +ℤ z) ((λ i. gain_with d.nodes p out marks rest (m * t) (q +ℤ u_at i) c (world_is i)) ∙ sym (gain_carried c)) ∙ add_last (slice_index_or gains c (pos 0)) (slice_index_or gains0 c (pos 0)) (gain_states d.nodes p out marks v rest m q c w0 n) (sum_over count rest (gain_term d.nodes p out marks (v ∷ rest) m q c) w1) (s.gain c);
            mass = λ c. weighed c ∙ ap (λ z. pos (slice_index masses c) +ℤ z) ((λ i. mass_with d.nodes p out rest (m * t) c (world_is i)) ∙ sym (mass_carried c)) ∙ add_last (pos (slice_index masses c)) (pos (slice_index masses0 c)) (mass_states d.nodes p out v rest m c w0 n) (sum_over count rest (mass_term d.nodes p out (v ∷ rest) m c) w1) (s.mass c);
            gain_count = lg ∙ s.gain_count;
            mass_count = lm ∙ s.mass_count;
          })
