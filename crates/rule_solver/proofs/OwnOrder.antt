-- A table whose cells stand in the order of a decision's gains, or of its masses.
use Rattle.std.proofs.Common.{◌≡◌, ◌∙◌, ℕ, ◌+◌, ◌*◌, ◌<◌, ◌≤◌, List, [], ◌∷◌, ◌++◌, length, get_or, set, refl, sym, ap, subst, slice_index, ℤ, pos, ◌+ℤ◌, ◌*ℤ◌, arith}
use Rattle.std.specs.Prelude.{nat_abs}
use Rattle.std.proofs.Math.Decide.{ℕ_discrete}
use Rattle.std.proofs.lemmas.List.{length-set, get_or-set_same, get_or-set_other}
use Rattle.cell_rings.specs.Rings.{Ring}
use Rattle.cell_rings.specs.Sums.{cell_at}
use Rattle.finite_sums.specs.Sums.{World, InRange}
use Rattle.node_sets.specs.Sets.{holds}
use Rattle.factor_core.specs.declared.slots.Slot.{Slot}
use Rattle.factor_core.specs.Slots.{IsLiveSlot, nodes_in, part, table_of}
use Rattle.maid_model.specs.Diagrams.{greatest_number}
use Rattle.maid_model.specs.Graph.{IsGraph}
use Rattle.maid_model.specs.Nodes.{states_of, parents_of, numbers_of, rows_of, rows_under}
use Rattle.maid_model.specs.Tables.{row_from, row_of, cell_of}
use Rattle.maid_model.specs.Views.{NodeView}
use Rattle.maid_laws.proofs.Rearranged.{range_apart, apart_filter}
use Rattle.maid_laws.proofs.Rows.{world_at_row}
use Rattle.rule_solver.specs.Reading.{AddsTable, PutsMasses, gain_there}
use Rattle.rule_solver.proofs.TableCells.{length-part}
use Rattle.rule_solver.proofs.WorldRows.{row_below}

-- a node behind the others is the fastest
row_behind : (count : ℕ → ℕ) (w : World) (r : ℕ) (us : List ℕ) (v : ℕ) → row_from count w r (us ++ v ∷ []) ≡ row_from count w r us * count v + w v
row_behind count w r [] v = refl
row_behind count w r (u ∷ us) v = row_behind count w (r * count u + w u) us v

rows_behind : (count : ℕ → ℕ) (us : List ℕ) (v : ℕ) → rows_under count (us ++ v ∷ []) ≡ rows_under count us * count v
rows_behind count [] v = omega arith
rows_behind count (u ∷ us) v = ap (λ k. count u * k) (rows_behind count us v) ∙ regroup (count u) (rows_under count us) (count v)
  where
    regroup : (a b c : ℕ) → a * (b * c) ≡ a * b * c
    regroup a b c = omega arith

-- a list that was found to be the parents and then the node is so
pub found_own : {taken items parents : List ℕ} (listed own : List ℕ) (d : ℕ) → taken ≡ items → items ≡ listed → taken ≡ parents ++ d ∷ [] → parents ≡ own → listed ≡ own ++ d ∷ []
found_own listed own d a b c e = sym (a ∙ b) ∙ c ∙ ap (λ us. us ++ d ∷ []) e

-- and one that was found to be the parents
pub found_same : {taken items parents : List ℕ} (listed own : List ℕ) → taken ≡ items → items ≡ listed → taken ≡ parents → parents ≡ own → listed ≡ own
found_same listed own a b c e = sym (a ∙ b) ∙ c ∙ e

-- ---- the gains before a place have something added, and the others are as they were
pub record AddedTo (f : ℕ → ℤ) (before now : List ℤ) (at : ℕ) : Type 0 where
  pub len : length now ≡ length before
  pub done : (i : ℕ) → i < at → get_or now i (pos 0) ≡ get_or before i (pos 0) +ℤ f i
  pub kept : (i : ℕ) → at ≤ i → get_or now i (pos 0) ≡ get_or before i (pos 0)

pub added_more : (f : ℕ → ℤ) (before now after : List ℤ) (at : ℕ) → at < length now → AddedTo f before now at → after ≡ set now at (get_or now at (pos 0) +ℤ f at) → AddedTo f before after (at + 1)
added_more f before now after at inside so is = record {
  len = ap (λ l. length l) is ∙ length-set now at _ ∙ so.len;
  done = λ i h. ap (λ l. get_or l i (pos 0)) is ∙ go i h (ℕ_discrete i at);
  kept = λ i h. ap (λ l. get_or l i (pos 0)) is ∙ get_or-set_other now at i _ (pos 0) (past i h) ∙ so.kept i (omega (arith, h));
}
  where
    past : (i : ℕ) → at + 1 ≤ i → i ≡ at → ⊥
    past i h e = omega (arith, h, e)

    below : (i : ℕ) → i < at + 1 → (i ≡ at → ⊥) → i < at
    below i h n = omega (arith, h, n)

    same : (n : ℕ) → n ≤ n
    same n = omega arith

    go : (i : ℕ) → i < at + 1 → Dec (i ≡ at) → get_or (set now at (get_or now at (pos 0) +ℤ f at)) i (pos 0) ≡ get_or before i (pos 0) +ℤ f i
    go i h (yes e) =
        ap (λ k. get_or (set now at (get_or now at (pos 0) +ℤ f at)) k (pos 0)) e ∙ get_or-set_same now at _ (pos 0) inside
        ∙ ap (λ z. z +ℤ f at) (so.kept at (same at)) ∙ sym (ap (λ k. get_or before k (pos 0) +ℤ f k) e)
    go i h (no n) = get_or-set_other now at i _ (pos 0) n ∙ so.done i (below i h n)

module _ {C : Type 0} (r : Ring C) (number : C → ℤ) (nodes : List NodeView) (d : ℕ) (cells : List C) (slot : Slot) (factor : ℕ) (graph : IsGraph nodes) (live : IsLiveSlot nodes cells slot) where
  abbrev pub us : List ℕ
  us = nodes_in nodes (holds slot.scope)

  abbrev pub value : World → ℤ
  value q = number ((table_of r nodes cells slot).cell q)

  -- each place of the table is that of a world
  world_at : (i : ℕ) → i < rows_under (states_of nodes) us → (q : World) × InRange (states_of nodes) q × (row_from (states_of nodes) q 0 us ≡ i)
  world_at i h =
      let w = world_at_row (states_of nodes) graph.has_state us (apart_filter (holds slot.scope) (numbers_of nodes) (range_apart 0 (length nodes))) i h in
      (w.0, w.1, w.3 0 ∙ none (rows_under (states_of nodes) us) i)
    where
      none : (n i : ℕ) → 0 * n + i ≡ i
      none n i = omega arith

  -- ---- over the decision and its parents
  module _ (own : us ≡ parents_of nodes d ++ d ∷ []) where
    place_is : (q : World) → row_from (states_of nodes) q 0 us ≡ cell_of nodes d q
    place_is q = ap (row_from (states_of nodes) q 0) own ∙ row_behind (states_of nodes) q 0 (parents_of nodes d) d

    own_count : length (part cells slot.start slot.len) ≡ rows_of nodes d * states_of nodes d
    own_count = length-part nodes cells slot live ∙ ap (rows_under (states_of nodes)) own ∙ rows_behind (states_of nodes) (parents_of nodes d) d

    pub own_len : (items : List C) (gains : List ℤ) → items ≡ part cells slot.start slot.len → length gains ≡ rows_of nodes d * states_of nodes d → length items ≡ length gains
    own_len items gains is count = ap (λ (l : List C). length l) is ∙ own_count ∙ sym count

    pub own_room : (before : List ℤ) → ((q : World) → InRange (states_of nodes) q → nat_abs (gain_there before nodes d q) + nat_abs (value q *ℤ pos factor) ≤ greatest_number)
        → (i : ℕ) → i < rows_of nodes d * states_of nodes d → nat_abs (get_or before i (pos 0)) + nat_abs (number (cell_at r (part cells slot.start slot.len) i) *ℤ pos factor) ≤ greatest_number
    own_room before room i h =
        let w = world_at i (subst (λ n. i < n) (sym (ap (rows_under (states_of nodes)) own ∙ rows_behind (states_of nodes) (parents_of nodes d) d)) h) in
        subst (λ k. nat_abs (get_or before k (pos 0)) + nat_abs (number (cell_at r (part cells slot.start slot.len) i) *ℤ pos factor) ≤ greatest_number) (sym (place_is w.0) ∙ w.2)
        (subst (λ k. nat_abs (gain_there before nodes d w.0) + nat_abs (number (cell_at r (part cells slot.start slot.len) k) *ℤ pos factor) ≤ greatest_number) w.2 (room w.0 w.1))

    pub own_gains : (before after : List ℤ) → length before ≡ rows_of nodes d * states_of nodes d → length after ≡ length before
        → ((i : ℕ) → i < length before → get_or after i (pos 0) ≡ get_or before i (pos 0) +ℤ (number (cell_at r (part cells slot.start slot.len) i) *ℤ pos factor))
        → AddsTable nodes d value factor before after
    own_gains before after count len each = record {
      len = len;
      each = λ q i.
          each (cell_of nodes d q) (subst (λ n. cell_of nodes d q < n) (sym count) (below q i))
          ∙ ap (λ k. gain_there before nodes d q +ℤ (number (cell_at r (part cells slot.start slot.len) k) *ℤ pos factor)) (sym (place_is q));
    }
      where
        below : (q : World) → InRange (states_of nodes) q → cell_of nodes d q < rows_of nodes d * states_of nodes d
        below q i =
            subst (λ k. k < rows_of nodes d * states_of nodes d) (place_is q)
            (subst (λ n. row_from (states_of nodes) q 0 us < n) (ap (rows_under (states_of nodes)) own ∙ rows_behind (states_of nodes) (parents_of nodes d) d) (row_below (states_of nodes) q i us))

  -- ---- over its parents
  module _ (same : us ≡ parents_of nodes d) where
    row_is : (q : World) → row_from (states_of nodes) q 0 us ≡ row_of nodes d q
    row_is q = ap (row_from (states_of nodes) q 0) same

    row_count : length (part cells slot.start slot.len) ≡ rows_of nodes d
    row_count = length-part nodes cells slot live ∙ ap (rows_under (states_of nodes)) same

    pub row_len : (items : List C) (masses : List ℕ) → items ≡ part cells slot.start slot.len → length masses ≡ rows_of nodes d → length items ≡ length masses
    row_len items masses is count = ap (λ (l : List C). length l) is ∙ row_count ∙ sym count

    pub row_room : ((q : World) → InRange (states_of nodes) q → nat_abs (value q) * factor ≤ greatest_number)
        → (i : ℕ) → i < rows_of nodes d → nat_abs (number (cell_at r (part cells slot.start slot.len) i)) * factor ≤ greatest_number
    row_room room i h =
        let w = world_at i (subst (λ n. i < n) (sym (ap (rows_under (states_of nodes)) same)) h) in
        subst (λ k. nat_abs (number (cell_at r (part cells slot.start slot.len) k)) * factor ≤ greatest_number) w.2 (room w.0 w.1)

    pub row_masses : (after : List ℕ) → ((i : ℕ) → i < rows_of nodes d → slice_index after i ≡ nat_abs (number (cell_at r (part cells slot.start slot.len) i)) * factor) → PutsMasses nodes d value factor after
    row_masses after each = record {
      each = λ q i.
          each (row_of nodes d q) (row_below (states_of nodes) q i (parents_of nodes d))
          ∙ ap (λ k. nat_abs (number (cell_at r (part cells slot.start slot.len) k)) * factor) (sym (row_is q));
    }
