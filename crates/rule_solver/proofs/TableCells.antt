-- A table's cells, one after another, taken to the places of another table over the same nodes.
use Rattle.std.proofs.Common.{◌≡◌, ◌≢◌, ◌∙◌, ◌↔◌, ◌⊎◌, ℕ, zero, suc, ◌+◌, ◌*◌, ◌%◌, ◌<◌, ◌≤◌, Bool, true, false, filter, List, [], ◌∷◌, length, get_or, set, drop, refl, sym, ap, subst, inl, inr, slice_index, arith}
use Rattle.std.specs.Prelude.{Contains, replicate}
use Rattle.std.specs.List.{range_with_len}
use Rattle.std.proofs.Math.Decide.{ℕ_discrete}
use Rattle.std.proofs.Math.Nat.{mod-eq_of_lt}
use Rattle.std.proofs.lemmas.List.{length-set, length-drop, length-take-le, get_or-set_same, get_or-set_other}
use Rattle.finite_sums.specs.Members.{Among}
use Rattle.finite_sums.specs.Sums.{World, InRange}
use Rattle.finite_sums.proofs.Lists.{among_filter}
use Rattle.finite_sums.proofs.Members.{filter_has}
use Rattle.finite_sums.proofs.Ranges.{filter_no}
use Rattle.node_sets.specs.Sets.{holds, IsIn}
use Rattle.factor_core.specs.declared.slots.Slot.{Slot}
use Rattle.factor_core.specs.Slots.{IsLiveSlot, nodes_in, part, cells_over}
use Rattle.maid_model.specs.Graph.{AllDifferent}
use Rattle.maid_model.specs.Nodes.{states_of, counts_of, parents_of, numbers_of, rows_under}
use Rattle.maid_model.specs.Tables.{row_from, row_of, cell_of}
use Rattle.maid_model.specs.Views.{NodeView}
use Rattle.maid_model.specs.Worlds.{IsWorld, world_of, first_world}
use Rattle.maid_laws.proofs.Collapse.{rows_agree, agree_rows}
use Rattle.maid_laws.proofs.Members.{among_of, contains_of, different_of}
use Rattle.maid_laws.proofs.Rearranged.{range_apart, apart_filter, number, numbered}

-- ---- the nodes of a scope
-- numbers that don't pass leave the list as it is
pub filter_gap : (p : ℕ → Bool) (from to : ℕ) → from ≤ to → ((w : ℕ) → from ≤ w → w < to → p w ≡ true → ⊥) → filter p (range_with_len 0 to) ≡ filter p (range_with_len 0 from)
filter_gap p from to l none = go to l none
  where
    none_passes : (b : Bool) → (b ≡ true → ⊥) → b ≡ false
    none_passes true n = absurd (n refl)
    none_passes false n = refl

    go : (to : ℕ) → from ≤ to → ((w : ℕ) → from ≤ w → w < to → p w ≡ true → ⊥) → filter p (range_with_len 0 to) ≡ filter p (range_with_len 0 from)
    go zero l none = let e : 0 ≡ from = omega (arith, l) in ap (λ n. filter p (range_with_len 0 n)) e
    go (suc k) l none = last (ℕ_discrete (suc k) from) (λ less. go k less (λ w a b. none w a (omega (arith, b))))
      where
        last : Dec (suc k ≡ from) → (from ≤ k → filter p (range_with_len 0 k) ≡ filter p (range_with_len 0 from)) → filter p (range_with_len 0 (suc k)) ≡ filter p (range_with_len 0 from)
        last (yes e) before = ap (λ n. filter p (range_with_len 0 n)) e
        last (no n) before =
            let less : from ≤ k = omega (arith, l, n) in
            let one : suc k ≡ k + 1 = omega arith in
            ap (λ m. filter p (range_with_len 0 m)) one ∙ filter_no p k (none_passes (p k) (none k less (omega arith))) ∙ before less

-- no node of a scope is listed twice
pub scope_once : (nodes : List NodeView) (h : ℕ → Bool) → AllDifferent (nodes_in nodes h)
scope_once nodes h = different_of (nodes_in nodes h) (apart_filter h (numbers_of nodes) (range_apart 0 (length nodes)))

-- each is a node of the diagram
pub scope_known : (nodes : List NodeView) (h : ℕ → Bool) (v : ℕ) → Contains (nodes_in nodes h) v → v < length nodes
scope_known nodes h v c = numbered nodes v (among_filter h v (numbers_of nodes) (among_of v (nodes_in nodes h) c)).0

-- the scope's nodes are those that its slot holds
scope_same : {C : Type 0} (nodes : List NodeView) (cells : List C) (slot : Slot) (vs : List ℕ) → IsLiveSlot nodes cells slot → ((v : ℕ) → IsIn slot.scope v ↔ Contains vs v)
    → (v : ℕ) → Among v (nodes_in nodes (holds slot.scope)) ↔ Among v vs
scope_same nodes cells slot vs live same v = (
  (λ m. among_of v vs ((same v).0 (among_filter (holds slot.scope) v (numbers_of nodes) m).1)),
  (λ m. let inside : IsIn slot.scope v = (same v).1 (contains_of v vs m) in filter_has (holds slot.scope) v (numbers_of nodes) (number nodes v (live.known v inside)) inside),
)

-- a slot has a cell for each choice of its nodes' states
pub length-part : {C : Type 0} (nodes : List NodeView) (cells : List C) (slot : Slot) → IsLiveSlot nodes cells slot → length (part cells slot.start slot.len) ≡ cells_over nodes (holds slot.scope)
length-part nodes cells slot live =
    length-take-le slot.len (drop slot.start cells) (let w : slot.start + slot.len ≤ length cells = live.within in omega (arith, length-drop slot.start cells)) ∙ live.size

-- ---- worlds pick one place of a table exactly where they pick one place of another
pub record PicksAlike (count : ℕ → ℕ) (us : List ℕ) (at : World → ℕ) : Type 0 where
  pub there : (w q : World) → InRange count w → InRange count q → row_from count w 0 us ≡ row_from count q 0 us → at w ≡ at q
  pub back : (w q : World) → InRange count w → InRange count q → at w ≡ at q → row_from count w 0 us ≡ row_from count q 0 us

-- by the states of the parents, which both rows tell
rows_alike : (nodes : List NodeView) (us : List ℕ) (d : ℕ) → ((v : ℕ) → Among v us ↔ Among v (parents_of nodes d)) → PicksAlike (states_of nodes) us (row_of nodes d)
rows_alike nodes us d same = record {
  there = λ w q i j e. let h = rows_agree (states_of nodes) w q i j us 0 0 e in agree_rows (states_of nodes) w q (parents_of nodes d) 0 (λ u m. h.1 u ((same u).1 m));
  back = λ w q i j e. let h = rows_agree (states_of nodes) w q i j (parents_of nodes d) 0 0 e in agree_rows (states_of nodes) w q us 0 (λ u m. h.1 u ((same u).0 m));
}

-- the cell tells the row and the decision's own state
cells_alike : (nodes : List NodeView) (us : List ℕ) (d : ℕ) → ((v : ℕ) → Among v us ↔ Among v (d ∷ parents_of nodes d)) → PicksAlike (states_of nodes) us (cell_of nodes d)
cells_alike nodes us d same = record { there = there; back = back }
  where
    there : (w q : World) → InRange (states_of nodes) w → InRange (states_of nodes) q → row_from (states_of nodes) w 0 us ≡ row_from (states_of nodes) q 0 us → cell_of nodes d w ≡ cell_of nodes d q
    there w q i j e =
        let h = rows_agree (states_of nodes) w q i j us 0 0 e in
        let own : w d ≡ q d = h.1 d ((same d).1 (inl refl)) in
        let row : row_of nodes d w ≡ row_of nodes d q = agree_rows (states_of nodes) w q (parents_of nodes d) 0 (λ u m. h.1 u ((same u).1 (inr m))) in
        λ k. row k * states_of nodes d + own k

    back : (w q : World) → InRange (states_of nodes) w → InRange (states_of nodes) q → cell_of nodes d w ≡ cell_of nodes d q → row_from (states_of nodes) w 0 us ≡ row_from (states_of nodes) q 0 us
    back w q i j e =
        let own = rows_agree (states_of nodes) w q i j (d ∷ []) (row_of nodes d w) (row_of nodes d q) e in
        let h = rows_agree (states_of nodes) w q i j (parents_of nodes d) 0 0 own.0 in
        agree_rows (states_of nodes) w q us 0 (λ u m. go u (h.1 u) ((same u).0 m))
      where
        go : (u : ℕ) → (Among u (parents_of nodes d) → w u ≡ q u) → (u ≡ d) ⊎ Among u (parents_of nodes d) → w u ≡ q u
        go u r (inl f) = (rows_agree (states_of nodes) w q i j (d ∷ []) (row_of nodes d w) (row_of nodes d q) e).1 u (inl f)
        go u r (inr m) = r m

-- of a slot over a decision's parents, and of one over the decision too
pub slot_rows : {C : Type 0} (nodes : List NodeView) (cells : List C) (slot : Slot) (d : ℕ) → IsLiveSlot nodes cells slot → ((v : ℕ) → IsIn slot.scope v ↔ Contains (parents_of nodes d) v)
    → PicksAlike (states_of nodes) (nodes_in nodes (holds slot.scope)) (row_of nodes d)
slot_rows nodes cells slot d live same = rows_alike nodes (nodes_in nodes (holds slot.scope)) d (scope_same nodes cells slot (parents_of nodes d) live same)

pub slot_cells : {C : Type 0} (nodes : List NodeView) (cells : List C) (slot : Slot) (d : ℕ) → IsLiveSlot nodes cells slot → ((v : ℕ) → IsIn slot.scope v ↔ Contains (d ∷ parents_of nodes d) v)
    → PicksAlike (states_of nodes) (nodes_in nodes (holds slot.scope)) (cell_of nodes d)
slot_cells nodes cells slot d live same = cells_alike nodes (nodes_in nodes (holds slot.scope)) d (scope_same nodes cells slot (d ∷ parents_of nodes d) live same)

-- ---- the world walks along the table's places
pub record StandsAt (nodes : List NodeView) (us xs : List ℕ) (place : ℕ) : Type 0 where
  pub world : IsWorld (counts_of nodes) xs
  pub row : place < rows_under (states_of nodes) us → row_from (states_of nodes) (world_of xs) 0 us ≡ place

-- the first world has state 0 everywhere
none_at : (n v : ℕ) → slice_index (replicate n 0) v ≡ 0
none_at zero v = refl
none_at (suc n) zero = refl
none_at (suc n) (suc v) = none_at n v

-- so it picks the first row of any nodes
first_row : (count : ℕ → ℕ) (n : ℕ) (us : List ℕ) → row_from count (world_of (replicate n 0)) 0 us ≡ 0
first_row count n [] = refl
first_row count n (u ∷ us) = ap (λ x. row_from count (world_of (replicate n 0)) x us) (ap (λ x. 0 * count u + x) (none_at n u) ∙ none (count u)) ∙ first_row count n us
  where
    none : (c : ℕ) → 0 * c + 0 ≡ 0
    none c = omega arith

-- the walk starts at the first place
pub first_stands : (nodes : List NodeView) (us world : List ℕ) → IsWorld (counts_of nodes) world → world ≡ first_world (length nodes) → StandsAt nodes us world 0
first_stands nodes us world w e = record { world = w; row = λ l. ap (λ x. row_from (states_of nodes) (world_of x) 0 us) e ∙ first_row (states_of nodes) (length nodes) us }

-- and goes on by one: within the table the rest is the number itself
pub next_stands : (nodes : List NodeView) (us vs old new : List ℕ) (place : ℕ) → vs ≡ us → StandsAt nodes us old place → IsWorld (counts_of nodes) new
    → row_from (states_of nodes) (world_of new) 0 vs ≡ (row_from (states_of nodes) (world_of old) 0 vs + 1) % rows_under (states_of nodes) vs → StandsAt nodes us new (place + 1)
next_stands nodes us vs old new place e s w row = record {
  world = w;
  row = λ l.
      subst (λ x. row_from (states_of nodes) (world_of new) 0 x ≡ (row_from (states_of nodes) (world_of old) 0 x + 1) % rows_under (states_of nodes) x) e row
      ∙ ap (λ x. (x + 1) % rows_under (states_of nodes) us) (s.row (omega arith))
      ∙ mod-eq_of_lt l;
}

-- ---- what has been written
-- the places that the table's first cells pick hold what they shall, and the others what they held
pub record DoneTo {X : Type 0} (count : ℕ → ℕ) (us : List ℕ) (at : World → ℕ) (x : X) (target : World → X) (before now : List X) (place : ℕ) : Type 0 where
  pub len : length now ≡ length before
  pub done : (q : World) → InRange count q → row_from count q 0 us < place → get_or now (at q) x ≡ target q
  pub kept : (q : World) → InRange count q → place ≤ row_from count q 0 us → get_or now (at q) x ≡ get_or before (at q) x

-- at first nothing is written
pub none_done : {X : Type 0} (count : ℕ → ℕ) (us : List ℕ) (at : World → ℕ) (x : X) (target : World → X) (before : List X) → DoneTo count us at x target before before 0
none_done count us at x target before = record { len = refl; done = λ q i l. absurd (omega arith); kept = λ q i l. refl }

-- one cell more
pub one_done : {X : Type 0} (count : ℕ → ℕ) (us : List ℕ) (at : World → ℕ) (x : X) (target : World → X) (before now : List X) (place : ℕ) (w : World) (y : X)
    → PicksAlike count us at → InRange count w → ((q : World) → row_from count q 0 us ≡ row_from count w 0 us → at q ≡ at w → target q ≡ target w)
    → row_from count w 0 us ≡ place → at w < length now → y ≡ target w
    → DoneTo count us at x target before now place → DoneTo count us at x target before (set now (at w) y) (place + 1)
one_done {X} count us at x target before now place w y alike i same row inside is so = record {
  len = length-set now (at w) y ∙ so.len;
  done = λ q j l. go q j l (ℕ_discrete (row_from count q 0 us) (row_from count w 0 us));
  kept = λ q j l. get_or-set_other now (at w) (at q) y x (λ e. absurd (past (row_from count q 0 us) (alike.back q w j i e) l)) ∙ so.kept q j (omega arith);
}
  where
    past : (r : ℕ) → r ≡ row_from count w 0 us → place + 1 ≤ r → ⊥
    past r e l = omega (arith, row)

    before_it : (r : ℕ) → r ≢ row_from count w 0 us → r < place + 1 → r < place
    before_it r n l = below r place (λ e. n (e ∙ sym row)) l
      where
        below : (r p : ℕ) → r ≢ p → r < p + 1 → r < p
        below r p n l = omega arith

    go : (q : World) → InRange count q → row_from count q 0 us < place + 1 → Dec (row_from count q 0 us ≡ row_from count w 0 us) → get_or (set now (at w) y) (at q) x ≡ target q
    go q j l (yes e) =
        ap (λ p. get_or (set now (at w) y) p x) (alike.there q w j i e) ∙ get_or-set_same now (at w) y x inside ∙ is ∙ sym (same q e (alike.there q w j i e))
    go q j l (no n) = get_or-set_other now (at w) (at q) y x (λ e. n (alike.back q w j i e)) ∙ so.done q j (before_it (row_from count q 0 us) n l)
