-- The last weighing node of a walk, with one utility after it: what each of its states adds.
use Rattle.std.proofs.Common.{◌≡◌, ◌∙◌, ℕ, zero, suc, ◌+◌, ◌*◌, ◌<◌, ◌≤◌, true, cond, eqb, List, [], ◌∷◌, length, set, refl, sym, ap, subst, arith, ℤ, pos, ◌+ℤ◌, ◌*ℤ◌, nat_abs, slice_index, slice_index_or}
use Rattle.std.proofs.lemmas.List.{get_or_default}
use Rattle.std.proofs.Math.IntN.{+ℤ_idr}
use Rattle.finite_sums.specs.Sums.{World, with_state}
use Rattle.maid_model.specs.declared.diagrams.Kind.TheVariants.{Utility}
use Rattle.maid_model.specs.Diagrams.{IsDiagram, greatest_number}
use Rattle.maid_model.specs.Nodes.{counts_of, node_at, states_of}
use Rattle.maid_model.specs.Private.{MarksUtilities, marked_value}
use Rattle.maid_model.specs.Profiles.{IsProfile}
use Rattle.maid_model.specs.Tables.{cell_of, row_of}
use Rattle.maid_model.specs.Views.{DiagramView, RuleView}
use Rattle.maid_model.specs.Worlds.{IsWorld, world_of}
use Rattle.maid_model.proofs.Picked.{world_length}
use Rattle.node_sets.specs.declared.sets.NodeSet.{NodeSet}
use Rattle.node_sets.specs.Sets.{holds}
use Rattle.tree_checker.specs.Walks.{AreUtilities, HasRoomToWalk, CanAddWorld, IsDownward, factor_at, gain_with, mass_with, value_at, world_gain, world_mass}
use Rattle.tree_checker.proofs.WalkEndings.{more_fits, picked_fits}
use Rattle.tree_checker.proofs.WalkOpened.{room_same}
use Rattle.tree_checker.proofs.WalkSteps.{WalkSoFar, next_room, next_world, set_world, walk_start, walk_step}
use Rattle.tree_checker.proofs.WalkTables.{no_value}
use Rattle.tree_checker.proofs.WalkTails.{ended_gain, ended_mass, tail_room}

module _ (d : DiagramView) (is : IsDiagram d) (p : List RuleView) (prof : IsProfile d.nodes p) (out : ℕ) (marks : NodeSet) (utilities : MarksUtilities d.nodes marks)
    (v u : ℕ) (down : IsDownward d.nodes (v ∷ u ∷ [])) (m : ℕ) (q : ℤ) (xs0 : List ℕ) (world0 : IsWorld (counts_of d.nodes) xs0) (gains0 : List ℤ) (masses0 : List ℕ)
    (room : HasRoomToWalk d.nodes p out (v ∷ u ∷ []) m q gains0 masses0) where
  abbrev w0 : World
  w0 = world_of xs0

  abbrev before : ℕ
  before = slice_index xs0 v

  inside : v < length xs0
  inside = subst (λ n. v < n) (sym (world_length d.nodes xs0 world0)) down.0

  -- the world stays as it is
  pub states_start : WalkSoFar d.nodes p out marks v (u ∷ []) m q before xs0 gains0 masses0 xs0 gains0 masses0 0
  states_start = walk_start d is p prof out marks utilities v (u ∷ []) down m q before xs0 world0 gains0 masses0 room xs0 (sym (get_or_default xs0 v before 0 inside)) refl

  -- ---- what one state adds
  module _ (weighs : ¬ ((node_at d.nodes v).kind ≡ Utility)) (utility_here : (node_at d.nodes u).kind ≡ Utility) (gains : List ℤ) (masses : List ℕ) (n : ℕ)
      (s : WalkSoFar d.nodes p out marks v (u ∷ []) m q before xs0 gains0 masses0 xs0 gains masses n) (l : n < states_of d.nodes v) (t : ℕ) (t_is : pos t ≡ factor_at d.nodes p out v (row_of d.nodes v w0 * states_of d.nodes v + n)) where
    zero_is : pos 0 ≡ marked_value d.nodes marks v w0
    zero_is = no_value d.nodes marks utilities v down.0 weighs w0

    are : AreUtilities d.nodes (u ∷ [])
    are zero l = utility_here
    are (suc k) l = absurd (omega arith)

    room_next : HasRoomToWalk d.nodes p out (u ∷ []) (m * t) (q +ℤ pos 0) gains masses
    room_next = next_room d is p prof out marks utilities v (u ∷ []) down m q before xs0 world0 gains0 masses0 room xs0 gains masses n s l t t_is (pos 0) zero_is (set xs0 v n) refl

    room_at : CanAddWorld d.nodes (u ∷ []) (m * t) q gains masses
    room_at = tail_room d is p prof out marks utilities (u ∷ []) (m * t) q gains masses (room_same d.nodes p out (u ∷ []) (m * t) gains masses (sym (+ℤ_idr q)) room_next)

    -- the value in the row, as it is listed
    module _ (marked : holds marks u ≡ true) (values : List ℤ) (values_are : values ≡ (node_at d.nodes u).cells) (row : ℕ) where
      pub value_is : slice_index_or values row (pos 0) ≡ value_at d.nodes marks u row
      value_is = ap (λ l. slice_index_or l row (pos 0)) values_are ∙ ap (λ b. cond b (slice_index_or (node_at d.nodes u).cells row (pos 0)) (pos 0)) (sym marked)

      pub sum_fits : nat_abs (q +ℤ slice_index_or values row (pos 0)) ≤ greatest_number
      sum_fits = subst (λ z. nat_abs (q +ℤ z) ≤ greatest_number) (sym value_is) (more_fits d.nodes marks utilities u down.2.0 row (m * t) q gains masses room_at)

      pub gain_fits : (c : ℕ) → nat_abs (slice_index_or gains c (pos 0)) + (m * t) * nat_abs (q +ℤ slice_index_or values row (pos 0)) ≤ greatest_number
      gain_fits c = picked_fits d.nodes marks utilities u down.2.0 row (m * t) q gains masses room_at c (q +ℤ slice_index_or values row (pos 0)) (ap (λ z. q +ℤ z) value_is)

    pub mass_fits : (c : ℕ) → slice_index masses c + m * t ≤ greatest_number
    mass_fits c = room_at.mass c

    world_next : IsWorld (counts_of d.nodes) (set xs0 v n)
    world_next = next_world d is p prof out marks utilities v (u ∷ []) down m q before xs0 world0 gains0 masses0 room xs0 gains masses n s l t t_is (pos 0) zero_is (set xs0 v n) refl

    state_added : (row cell : ℕ) → row ≡ row_of d.nodes u (with_state w0 v n) → cell ≡ cell_of d.nodes out (with_state w0 v n) → (gains1 : List ℤ) (masses1 : List ℕ)
        → ((c : ℕ) → slice_index_or gains1 c (pos 0) ≡ slice_index_or gains c (pos 0) +ℤ cond (eqb cell c) (pos (m * t) *ℤ (q +ℤ value_at d.nodes marks u row)) (pos 0))
        → ((c : ℕ) → pos (slice_index masses1 c) ≡ pos (slice_index masses c) +ℤ cond (eqb cell c) (pos (m * t)) (pos 0))
        → length gains1 ≡ length gains → length masses1 ≡ length masses
        → WalkSoFar d.nodes p out marks v (u ∷ []) m q before xs0 gains0 masses0 xs0 gains1 masses1 (n + 1)
    state_added row cell row_is cell_is gains1 masses1 added weighed lg lm = record { back = s.back; gain = stepped.gain; mass = stepped.mass; gain_count = stepped.gain_count; mass_count = stepped.mass_count }
      where
        world_is : world_of (set xs0 v n) ≡ with_state w0 v n
        world_is = set_world xs0 v n inside

        gain_is : (c : ℕ) → cond (eqb cell c) (pos (m * t) *ℤ (q +ℤ value_at d.nodes marks u row)) (pos 0) ≡ gain_with d.nodes p out marks (u ∷ []) (m * t) (q +ℤ pos 0) c (world_of (set xs0 v n))
        gain_is c =
            (λ i. cond (eqb (cell_is i) c) (pos (m * t) *ℤ (q +ℤ value_at d.nodes marks u (row_is i))) (pos 0))
            ∙ ap (λ z. cond (eqb (cell_of d.nodes out (with_state w0 v n)) c) (pos (m * t) *ℤ (q +ℤ z)) (pos 0)) (sym (+ℤ_idr (marked_value d.nodes marks u (with_state w0 v n))))
            ∙ ap (λ w. world_gain d.nodes out marks (u ∷ []) (m * t) q c w) (sym world_is)
            ∙ ended_gain d is p prof out marks utilities [] (u ∷ []) refl are down.2 (m * t) (q +ℤ pos 0) q (sym (+ℤ_idr q)) (set xs0 v n) world_next gains masses room_next c

        mass_is : (c : ℕ) → cond (eqb cell c) (pos (m * t)) (pos 0) ≡ mass_with d.nodes p out (u ∷ []) (m * t) c (world_of (set xs0 v n))
        mass_is c =
            (λ i. cond (eqb (cell_is i) c) (pos (m * t)) (pos 0))
            ∙ ap (λ w. world_mass d.nodes out (m * t) c w) (sym world_is)
            ∙ ended_mass d is p prof out marks utilities [] (u ∷ []) refl are down.2 (m * t) (q +ℤ pos 0) (set xs0 v n) world_next gains masses room_next c

        stepped : WalkSoFar d.nodes p out marks v (u ∷ []) m q before xs0 gains0 masses0 (set xs0 v n) gains1 masses1 (n + 1)
        stepped = walk_step d is p prof out marks utilities v (u ∷ []) down m q before xs0 world0 gains0 masses0 room xs0 gains masses n s l t t_is (pos 0) zero_is (set xs0 v n) refl (set xs0 v n) gains1 masses1 refl
            (λ c. added c ∙ ap (λ z. slice_index_or gains c (pos 0) +ℤ z) (gain_is c))
            (λ c. weighed c ∙ ap (λ z. pos (slice_index masses c) +ℤ z) (mass_is c)) lg lm

    -- the same by the listed value
    pub picked_added : holds marks u ≡ true → (values : List ℤ) → values ≡ (node_at d.nodes u).cells → (row cell : ℕ) → row ≡ row_of d.nodes u (with_state w0 v n) → cell ≡ cell_of d.nodes out (with_state w0 v n) → (gains1 : List ℤ) (masses1 : List ℕ)
        → ((c : ℕ) → slice_index_or gains1 c (pos 0) ≡ slice_index_or gains c (pos 0) +ℤ cond (eqb cell c) (pos (m * t) *ℤ (q +ℤ slice_index_or values row (pos 0))) (pos 0))
        → ((c : ℕ) → pos (slice_index masses1 c) ≡ pos (slice_index masses c) +ℤ cond (eqb cell c) (pos (m * t)) (pos 0))
        → length gains1 ≡ length gains → length masses1 ≡ length masses
        → WalkSoFar d.nodes p out marks v (u ∷ []) m q before xs0 gains0 masses0 xs0 gains1 masses1 (n + 1)
    picked_added marked values are row cell row_is cell_is gains1 masses1 added =
        state_added row cell row_is cell_is gains1 masses1
        (λ c. added c ∙ ap (λ z. slice_index_or gains c (pos 0) +ℤ cond (eqb cell c) (pos (m * t) *ℤ (q +ℤ z)) (pos 0)) (value_is marked values are row))
