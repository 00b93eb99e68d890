-- The sums of a decision: what its goals' plans give, added up, are the gains of the part of its
-- scope.
use Rattle.std.proofs.Common.{◌≡◌, ◌∙◌, ℕ, suc, ◌+◌, ◌*◌, ◌/◌, ◌%◌, ◌^◌, ◌<◌, ◌≤◌, max, inl, inr, List, [], ◌∷◌, ◌++◌, length, take, drop, get_or, slice_index, refl, sym, ap, subst, ℤ, pos, ◌+ℤ◌, nat_abs, arith, mul_comm}
use Rattle.std.proofs.lemmas.Int.{ints}
use Rattle.std.proofs.lemmas.List.{drop-take, take-append-drop, take-append-le, take-take, take_all}
use Rattle.std.proofs.Math.Nat.{mul-add, mul-le-mul_left, mod-add-div, mod-lt, div-lt_iff_lt-mul}
use Rattle.std.proofs.Math.Seq.{drop-cons}
use Rattle.cell_rings.specs.RingLaws.{abs_add}
use Rattle.finite_sums.specs.Members.{Among}
use Rattle.finite_sums.specs.Sums.{World, InRange, sum_each}
use Rattle.maid_model.specs.Diagrams.{greatest_number}
use Rattle.maid_model.specs.Gains.{greatest_abs}
use Rattle.maid_model.specs.Graph.{IsGraph}
use Rattle.maid_model.specs.Nodes.{node_at, rows_of, states_of}
use Rattle.maid_model.specs.Scopes.{goals_of, greatest_of, scope_bound, scope_product}
use Rattle.maid_model.specs.Tables.{cell_of, row_of}
use Rattle.maid_model.specs.Views.{NodeView, DiagramView, RuleView}
use Rattle.plan_sums.specs.Laws.{HasWorlds}
use Rattle.scope_sums.specs.Laws.{IsSumOfPlans}
use Rattle.rule_solver.specs.Reading.{gain_there}
use Rattle.rule_solver.specs.Sums.{AddsGoals, HasGoals, HasRoomForGoals, IsRowGains, IsRowSums, KeepsRoom, goal_part, scope_gain, scope_mass}

-- ---- lists
-- a slice of a whole list, written back
pub back_written : {X : Type 0} (len : ℕ) (xs ys : List X) → length xs ≡ length ys → len ≡ length ys → take len (xs ++ drop (length xs) ys) ≡ xs
back_written len xs ys same is =
    let whole : len ≡ length xs = omega arith in
    ap (λ n. take n (xs ++ drop (length xs) ys)) whole ∙ take-append-le (length xs) xs (drop (length xs) ys) (omega arith) ∙ take_all (length xs) xs (omega arith)

-- ---- lists of goals
sum_append : (f : ℕ → ℤ) (us vs : List ℕ) → sum_each f (us ++ vs) ≡ sum_each f us +ℤ sum_each f vs
sum_append f [] vs = start (sum_each f vs)
  where
    start : (x : ℤ) → x ≡ pos 0 +ℤ x
    start x = omega (arith, ints)
sum_append f (u ∷ us) vs = ap (λ x. f u +ℤ x) (sum_append f us vs) ∙ later (f u) (sum_each f us) (sum_each f vs)
  where
    later : (a b c : ℤ) → a +ℤ (b +ℤ c) ≡ (a +ℤ b) +ℤ c
    later a b c = omega (arith, ints)

greatest_append : (nodes : List NodeView) (us vs : List ℕ) → greatest_of nodes (us ++ vs) ≡ greatest_of nodes us + greatest_of nodes vs
greatest_append nodes [] vs = omega arith
greatest_append nodes (u ∷ us) vs = let rest = greatest_append nodes us vs in omega arith

-- the first goals' greatest values and the others' are all goals'
greatest_split : (nodes : List NodeView) (k : ℕ) (us : List ℕ) → greatest_of nodes (take k us) + greatest_of nodes (drop k us) ≡ greatest_of nodes us
greatest_split nodes k us = sym (greatest_append nodes (take k us) (drop k us)) ∙ ap (greatest_of nodes) (take-append-drop k us)

-- the first ones and some of the others are the first ones again
pub take_then : (k n : ℕ) (us : List ℕ) → take (k + n) us ≡ take k us ++ take n (drop k us)
take_then k n us = sym (take-append-drop k (take (k + n) us)) ∙ (λ i. first i ++ drop-take k n us i)
  where
    first : take k (take (k + n) us) ≡ take k us
    first = take-take k (k + n) us (omega arith)

-- at first no goal gave anything
pub no_goals : (nodes : List NodeView) (p : List RuleView) (d : ℕ) (gains : List ℤ) → length gains ≡ rows_of nodes d * states_of nodes d → ((i : ℕ) → get_or gains i (pos 0) ≡ pos 0) → HasGoals nodes p d [] gains
no_goals nodes p d gains len none = record {
  count = len;
  each = λ q i. none (cell_of nodes d q);
  small = λ q i. subst (λ z. nat_abs z ≤ scope_product nodes d * 0) (sym (none (cell_of nodes d q))) (omega arith);
}

-- the other goals' parts have room, if the scope keeps the bound
pub room_for : (d : DiagramView) (p : List RuleView) (decision k : ℕ) (gains : List ℤ) → scope_bound d decision ≤ greatest_number → HasGoals d.nodes p decision (take k (goals_of d.nodes decision)) gains
    → HasRoomForGoals d decision (drop k (goals_of d.nodes decision)) gains
room_for d p decision k gains bound so = record { count = so.count; room = room }
  where
    goals : List ℕ
    goals = goals_of d.nodes decision

    right : (a b : ℕ) → b ≤ max a b
    right a b = omega arith

    whole : scope_product d.nodes decision * greatest_of d.nodes (take k goals) + scope_product d.nodes decision * greatest_of d.nodes (drop k goals) ≤ greatest_number
    whole =
        chain _ _ _ (sym (mul-add (scope_product d.nodes decision) (greatest_of d.nodes (take k goals)) (greatest_of d.nodes (drop k goals))) ∙ ap (λ n. scope_product d.nodes decision * n) (greatest_split d.nodes k goals))
        (mul-le-mul_left (scope_product d.nodes decision) (right (10 ^ d.decimals) (greatest_of d.nodes goals))) bound
      where
        chain : (a b c : ℕ) → a ≡ b → b ≤ c → c ≤ greatest_number → a ≤ greatest_number
        chain a b c h k l = omega (arith, h, k, l)

    room : (q : World) → InRange (states_of d.nodes) q → nat_abs (gain_there gains d.nodes decision q) + scope_product d.nodes decision * greatest_of d.nodes (drop k goals) ≤ greatest_number
    room q i = let small = so.small q i in sum _ _ _ small whole
      where
        sum : (a b c : ℕ) → a ≤ b → b + c ≤ greatest_number → a + c ≤ greatest_number
        sum a b c h k = omega (arith, h, k)

-- room for goals is room for the first ones of them
pub room_first : (d : DiagramView) (decision n : ℕ) (goals : List ℕ) (gains : List ℤ) → HasRoomForGoals d decision goals gains → HasRoomForGoals d decision (take n goals) gains
room_first d decision n goals gains room = record { count = room.count; room = λ q i. less _ _ _ (mul-le-mul_left (scope_product d.nodes decision) first) (room.room q i) }
  where
    first : greatest_of d.nodes (take n goals) ≤ greatest_of d.nodes goals
    first = let e = greatest_split d.nodes n goals in omega (arith, e)

    less : (a b c : ℕ) → b ≤ c → a + c ≤ greatest_number → a + b ≤ greatest_number
    less a b c h k = omega (arith, h, k)

-- and for the next one
pub room_next : (d : DiagramView) (decision k : ℕ) (goals : List ℕ) (gains : List ℤ) → k < length goals → HasRoomForGoals d decision (drop k goals) gains → HasRoomForGoals d decision (slice_index goals k ∷ []) gains
room_next d decision k goals gains inside room =
    alone (get_or goals k 0) (drop (suc k) goals) (subst (λ us. HasRoomForGoals d decision us gains) (drop-cons goals k 0 inside) room)
  where
    alone : (u : ℕ) (us : List ℕ) → HasRoomForGoals d decision (u ∷ us) gains → HasRoomForGoals d decision (u ∷ []) gains
    alone u us more = record { count = more.count; room = λ q i. less _ _ _ (mul-le-mul_left (scope_product d.nodes decision) (first (greatest_abs (node_at d.nodes u).cells) (greatest_of d.nodes us))) (more.room q i) }
      where
        first : (a b : ℕ) → a + 0 ≤ a + b
        first a b = omega arith

        less : (a b c : ℕ) → b ≤ c → a + c ≤ greatest_number → a + b ≤ greatest_number
        less a b c h k = omega (arith, h, k)

-- no goal's part leaves the gains as they are
pub adds_none : (nodes : List NodeView) (p : List RuleView) (d : ℕ) (gains : List ℤ) → AddsGoals nodes p d [] gains gains
adds_none nodes p d gains = record { count = refl; each = λ q i. same (gain_there gains nodes d q) }
  where
    same : (x : ℤ) → x ≡ x +ℤ pos 0
    same x = omega (arith, ints)

-- what goals give together is within P and their greatest values
pub parts_small : (nodes : List NodeView) (p : List RuleView) (d : ℕ) (us : List ℕ) (q : World)
    → ((u : ℕ) → Among u us → nat_abs (goal_part nodes p d u q) ≤ scope_product nodes d * greatest_abs (node_at nodes u).cells)
    → nat_abs (sum_each (λ u. goal_part nodes p d u q) us) ≤ scope_product nodes d * greatest_of nodes us
parts_small nodes p d [] q small = omega arith
parts_small nodes p d (u ∷ us) q small =
    both (scope_product nodes d) _ _ _ _ _ (abs_add (goal_part nodes p d u q) (sum_each (λ v. goal_part nodes p d v q) us)) (small u (inl refl)) (parts_small nodes p d us q (λ v m. small v (inr m)))
  where
    both : (m s a b x y : ℕ) → s ≤ a + b → a ≤ m * x → b ≤ m * y → s ≤ m * (x + y)
    both m s a b x y h k l = omega (arith, h, k, l, mul-add m x y)

-- more goals
pub goals_more : (nodes : List NodeView) (p : List RuleView) (d : ℕ) (us vs : List ℕ) (before after : List ℤ)
    → ((u : ℕ) → Among u vs → (q : World) → InRange (states_of nodes) q → nat_abs (goal_part nodes p d u q) ≤ scope_product nodes d * greatest_abs (node_at nodes u).cells)
    → HasGoals nodes p d us before → AddsGoals nodes p d vs before after → HasGoals nodes p d (us ++ vs) after
goals_more nodes p d us vs before after part so adds = record {
  count = adds.count ∙ so.count;
  each = λ q i. adds.each q i ∙ ap (λ x. x +ℤ sum_each (λ u. goal_part nodes p d u q) vs) (so.each q i) ∙ sym (sum_append (λ u. goal_part nodes p d u q) us vs);
  small = small;
}
  where
    small : (q : World) → InRange (states_of nodes) q → nat_abs (gain_there after nodes d q) ≤ scope_product nodes d * greatest_of nodes (us ++ vs)
    small q i =
        subst (λ n. nat_abs (gain_there after nodes d q) ≤ scope_product nodes d * n) (sym (greatest_append nodes us vs))
        (subst (λ z. nat_abs z ≤ scope_product nodes d * (greatest_of nodes us + greatest_of nodes vs)) (sym (adds.each q i))
        (both (scope_product nodes d) _ _ _ _ _ (abs_add (gain_there before nodes d q) (sum_each (λ u. goal_part nodes p d u q) vs)) (so.small q i) (parts_small nodes p d vs q (λ u m. part u m q i))))
      where
        both : (m s a b x y : ℕ) → s ≤ a + b → a ≤ m * x → b ≤ m * y → s ≤ m * (x + y)
        both m s a b x y h k l = omega (arith, h, k, l, mul-add m x y)

-- ---- the whole sums, row by row
module _ (nodes : List NodeView) (p : List RuleView) (d : ℕ) (graph : IsGraph nodes) (worlds : HasWorlds) where
  -- a world at each state and row
  there : (state row : ℕ) → state < states_of nodes d → row < rows_of nodes d → (q : World) × InRange (states_of nodes) q × (q d ≡ state) × (row_of nodes d q ≡ row)
  there state row h k = worlds nodes d state row graph h k

  place : (state row : ℕ) (q : World) → q d ≡ state → row_of nodes d q ≡ row → cell_of nodes d q ≡ row * states_of nodes d + state
  place state row q e f = (λ i. f i * states_of nodes d + e i)

  first_state : 0 < states_of nodes d
  first_state = graph.has_state d

  pub gains_are : (gains : List ℤ) → IsSumOfPlans nodes p d → HasGoals nodes p d (goals_of nodes d) gains → IsRowGains nodes p d gains
  gains_are gains plans so = record {
    gain_count = so.count;
    gain = λ state row h k. let w = there state row h k in
        sym (ap (λ n. get_or gains n (pos 0)) (place state row w.0 w.2 w.3)) ∙ so.each w.0 w.1 ∙ sym (plans.gain w.0 w.1) ∙ (λ i. scope_gain nodes p d (w.2 i) (w.3 i));
  }

  pub sums_are : (gains : List ℤ) (masses : List ℕ) → IsSumOfPlans nodes p d → HasGoals nodes p d (goals_of nodes d) gains → length masses ≡ rows_of nodes d
      → ((q : World) → InRange (states_of nodes) q → pos (slice_index masses (row_of nodes d q)) ≡ scope_mass nodes p d (row_of nodes d q)) → IsRowSums nodes p d gains masses
  sums_are gains masses plans so len each = record {
    gain_count = so.count;
    mass_count = len;
    gain = (gains_are gains plans so).gain;
    mass_there = λ row h. let w = there 0 row first_state h in subst (λ r. pos (slice_index masses r) ≡ scope_mass nodes p d r) w.3 (each w.0 w.1);
  }

  -- each place of a list of gains is that of a row and a state
  pub room_is : (gains : List ℤ) (masses : List ℕ) → HasGoals nodes p d (goals_of nodes d) gains → length masses ≡ rows_of nodes d
      → ((q : World) → InRange (states_of nodes) q → slice_index masses (row_of nodes d q) ≤ scope_product nodes d) → KeepsRoom nodes d gains masses
  room_is gains masses so len small = record {
    gain = λ i h.
        let inside : i < rows_of nodes d * states_of nodes d = subst (λ n. i < n) so.count h in
        let w = there (i % states_of nodes d) (i / states_of nodes d) (mod-lt i first_state) ((div-lt_iff_lt-mul first_state).1 inside) in
        subst (λ n. nat_abs (get_or gains n (pos 0)) ≤ scope_product nodes d * greatest_of nodes (goals_of nodes d)) (place (i % states_of nodes d) (i / states_of nodes d) w.0 w.2 w.3 ∙ whole i) (so.small w.0 w.1);
    mass_there = λ row h. let w = there 0 row first_state (subst (λ n. row < n) len h) in subst (λ r. slice_index masses r ≤ scope_product nodes d) w.3 (small w.0 w.1);
  }
    where
      whole : (i : ℕ) → i / states_of nodes d * states_of nodes d + i % states_of nodes d ≡ i
      whole i = let e = mod-add-div i (states_of nodes d) in let f = swap (i / states_of nodes d) (states_of nodes d) in order _ _ _ _ e f
        where
          swap : (a b : ℕ) → a * b ≡ b * a
          swap a b = simp mul_comm

          order : (m x y i : ℕ) → m + x ≡ i → y ≡ x → y + m ≡ i
          order m x y i e f = omega (arith, e, f)
