-- What fits for the tables of slots fits for the cells at their places, and the cells that walks
-- make are those of the tables.
use Rattle.std.proofs.Common.{◌≡◌, ◌∙◌, ℕ, zero, suc, ◌+◌, ◌*◌, ◌≤◌, Bool, true, false, cond, not, ◌&&◌, ◌||◌, ◌==◌, List, [], ◌∷◌, take, length, refl, sym, ap, subst, arith, inl, inr}
use Rattle.std.proofs.Math.Path.{fun_ext}
use Rattle.std.proofs.lemmas.Bool.{cases_eq}
use Rattle.finite_sums.specs.Sums.{World, InRange, with_state}
use Rattle.finite_sums.proofs.Sums.{with_in}
use Rattle.node_sets.specs.Sets.{holds}
use Rattle.maid_model.specs.Views.{NodeView}
use Rattle.maid_model.specs.Nodes.{states_of, counts_of}
use Rattle.cell_rings.specs.Rings.{Ring, IsRing, IsSize, mass_ring}
use Rattle.cell_rings.specs.RingLaws.{mass_is_ring}
use Rattle.cell_rings.specs.Sums.{ring_sum, cell_at, product_from, product_at, sizes_of, ProductFits}
use Rattle.cell_rings.proofs.Adding.{size_at, nat_sum_one_more}
use Rattle.cell_rings.proofs.Runs.{chosen, not_chosen}
use Rattle.ring_sums.specs.Groups.{sizes, ProductsFit, JoinFits}
use Rattle.ring_sums.specs.Tables.{Table, joined, product_of}
use Rattle.ring_sums.proofs.Each.{Each}
use Rattle.ring_sums.proofs.Sums.{sum_cong}
use Rattle.factor_core.specs.declared.slots.Slot.{Slot}
use Rattle.factor_core.specs.Operations.{SumFits}
use Rattle.factor_core.specs.Scopes.{united, united_but}
use Rattle.factor_core.specs.Slots.{IsLiveSlot, table_of, tables_of}
use Rattle.factor_core.specs.Tables.{place_of, places_in, join_cell, RoomToJoin, RoomToMultiply}
use Rattle.factor_core.proofs.Counts.{states_is, range_back}
use Rattle.factor_core.proofs.Standing.{cell_of_slot}

module _ {C : Type 0} {r : Ring C} (laws : IsRing r) (sized : IsSize r r.size) (nodes : List NodeView) (cells : List C) where
  abbrev Live : List Slot → Type 0
  Live slots = Each (IsLiveSlot nodes cells) slots

  -- ---- products
  products_from : (slots : List Slot) (w : World) (x : C) → Live slots → InRange (states_of nodes) w → product_from r cells x (places_in (counts_of nodes) slots w) ≡ r.times x (product_of r (tables_of r nodes cells slots) w)
  products_from [] w x live i = sym (laws.times_unit x)
  products_from (s ∷ ss) w x live i =
      let c = cell_at r cells (s.start + place_of (counts_of nodes) s.scope w) in
      products_from ss w (r.times x c) live.1 i
      ∙ laws.times_assoc x c (product_of r (tables_of r nodes cells ss) w)
      ∙ ap (λ y. r.times x (r.times y (product_of r (tables_of r nodes cells ss) w))) (cell_of_slot r nodes cells s w live.0 i)

  pub product_is : (slots : List Slot) (w : World) → Live slots → InRange (states_of nodes) w → product_at r cells (places_in (counts_of nodes) slots w) ≡ product_of r (tables_of r nodes cells slots) w
  product_is slots w live i =
      products_from slots w r.unit live i
      ∙ laws.times_comm r.unit (product_of r (tables_of r nodes cells slots) w)
      ∙ laws.times_unit (product_of r (tables_of r nodes cells slots) w)

  pub join_is : (slots : List Slot) (x : ℕ) (w : World) → Live slots → InRange (states_of nodes) w → join_cell r cells (counts_of nodes) slots x w ≡ ring_sum r (states_of nodes x) (λ s. product_of r (tables_of r nodes cells slots) (with_state w x s))
  join_is slots x w live i =
      ap (λ n. ring_sum r n (λ s. product_at r cells (places_in (counts_of nodes) slots (with_state w x s)))) (ap (λ c. c x) (states_is nodes))
      ∙ sum_cong r laws (states_of nodes x) (λ s. product_at r cells (places_in (counts_of nodes) slots (with_state w x s))) (λ s. product_of r (tables_of r nodes cells slots) (with_state w x s))
      (λ s l. product_is slots (with_state w x s) live (with_in (states_of nodes) w x s i l))

  -- ---- sizes
  size_of_slot : (s : Slot) (w : World) → IsLiveSlot nodes cells s → InRange (states_of nodes) w → r.size (cell_at r cells (s.start + place_of (counts_of nodes) s.scope w)) ≡ r.size ((table_of r nodes cells s).cell w)
  size_of_slot s w live i = ap r.size (cell_of_slot r nodes cells s w live i)

  sizes_from : (slots : List Slot) (w : World) (n : ℕ) → Live slots → InRange (states_of nodes) w → product_from mass_ring (sizes_of r cells) n (places_in (counts_of nodes) slots w) ≡ n * sizes r.size (tables_of r nodes cells slots) w
  sizes_from [] w n live i = omega arith
  sizes_from (s ∷ ss) w n live i =
      let p = s.start + place_of (counts_of nodes) s.scope w in
      let c = cell_at mass_ring (sizes_of r cells) p in
      sizes_from ss w (n * c) live.1 i
      ∙ mass_is_ring.times_assoc n c (sizes r.size (tables_of r nodes cells ss) w)
      ∙ ap (λ y. n * (y * sizes r.size (tables_of r nodes cells ss) w)) (size_at laws sized cells p ∙ size_of_slot s w live.0 i)

  sizes_are : (slots : List Slot) (w : World) → Live slots → InRange (states_of nodes) w → product_at mass_ring (sizes_of r cells) (places_in (counts_of nodes) slots w) ≡ sizes r.size (tables_of r nodes cells slots) w
  sizes_are slots w live i = sizes_from slots w 1 live i ∙ (let one : 1 * sizes r.size (tables_of r nodes cells slots) w ≡ sizes r.size (tables_of r nodes cells slots) w = omega arith in one)

  first_fit : (slots : List Slot) (w : World) (before : ℕ) → Live slots → InRange (states_of nodes) w → ((j : ℕ) → before * sizes r.size (take j (tables_of r nodes cells slots)) w ≤ r.most) → ProductFits r cells before (places_in (counts_of nodes) slots w)
  first_fit [] w before live i f = tt
  first_fit (s ∷ ss) w before live i f =
      let k = r.size (cell_at r cells (s.start + place_of (counts_of nodes) s.scope w)) in
      let e : k ≡ r.size ((table_of r nodes cells s).cell w) = size_of_slot s w live.0 i in (
        subst (λ x. before * x ≤ r.most) (sym e) (once before (r.size ((table_of r nodes cells s).cell w)) r.most (f 1)),
        first_fit ss w (before * k) live.1 i
            (λ j. subst (λ x. (before * x) * sizes r.size (take j (tables_of r nodes cells ss)) w ≤ r.most) (sym e)
            (more before (r.size ((table_of r nodes cells s).cell w)) (sizes r.size (take j (tables_of r nodes cells ss)) w) r.most (f (suc j)))),
      )
    where
      once : (b x m : ℕ) → b * (x * 1) ≤ m → b * x ≤ m
      once b x m h = omega arith

      more : (b x y m : ℕ) → b * (x * y) ≤ m → (b * x) * y ≤ m
      more b x y m h = subst (λ z. z ≤ m) (sym (mass_is_ring.times_assoc b x y)) h

  one_times : (x m : ℕ) → x ≤ m → 1 * x ≤ m
  one_times x m h = omega arith

  pub room_to_join : (slots : List Slot) (x : ℕ) → Live slots → JoinFits r.size (states_of nodes) r.most x (tables_of r nodes cells slots) → RoomToJoin r cells (counts_of nodes) slots x
  room_to_join slots x live f = record {
    products = λ w ok. first_fit slots w 1 live (range_back nodes w ok) (λ j. one_times (sizes r.size (take j (tables_of r nodes cells slots)) w) r.most (f.products j w (range_back nodes w ok)));
    sums = λ w ok.
        let i = range_back nodes w ok in
        subst (λ z. z ≤ r.most)
        (sym (ap (λ n. ring_sum mass_ring n (λ s. product_at mass_ring (sizes_of r cells) (places_in (counts_of nodes) slots (with_state w x s)))) (ap (λ c. c x) (states_is nodes))
        ∙ sum_cong mass_ring mass_is_ring (states_of nodes x) (λ s. product_at mass_ring (sizes_of r cells) (places_in (counts_of nodes) slots (with_state w x s))) (λ s. sizes r.size (tables_of r nodes cells slots) (with_state w x s))
        (λ s l. sizes_are slots (with_state w x s) live (with_in (states_of nodes) w x s i l))))
        (f.sum w i);
  }

  take_all : (ts : List (Table C)) (n : ℕ) → n ≡ length ts → take n ts ≡ ts
  take_all [] zero e = refl
  take_all [] (suc n) e = refl
  take_all (t ∷ ts) zero e = absurd (omega arith)
  take_all (t ∷ ts) (suc n) e = ap (λ l. t ∷ l) (take_all ts n (omega arith))

  pub room_to_multiply : (slots : List Slot) → Live slots → ProductsFit r.size (states_of nodes) r.most (tables_of r nodes cells slots) → RoomToMultiply r cells (counts_of nodes) slots
  room_to_multiply slots live f = record {
    products = λ w ok. first_fit slots w 1 live (range_back nodes w ok) (λ j. one_times (sizes r.size (take j (tables_of r nodes cells slots)) w) r.most (f j w (range_back nodes w ok)));
    whole = λ w ok.
        let i = range_back nodes w ok in
        let all = take_all (tables_of r nodes cells slots) (length (tables_of r nodes cells slots)) refl in
        subst (λ z. z ≤ r.most) (ap (λ ts. sizes r.size ts w) all ∙ sym (sizes_are slots w live i)) (f (length (tables_of r nodes cells slots)) w i);
  }

  -- ---- scopes
  pub united_is : (slots : List Slot) (v : ℕ) → united slots v ≡ joined (tables_of r nodes cells slots) v
  united_is [] v = refl
  united_is (s ∷ ss) v = ap (λ b. holds s.scope v || b) (united_is ss v)

  pub but_is : (slots : List Slot) (x v : ℕ) → united_but slots x v ≡ (joined (tables_of r nodes cells slots) v && not (v == x))
  but_is slots x v = go (v == x) (united slots v) (joined (tables_of r nodes cells slots) v) (united_is slots v)
    where
      go : (b c d : Bool) → c ≡ d → cond b false c ≡ (d && not b)
      go true true d e = ap (λ y. y && false) e
      go true false d e = ap (λ y. y && false) e
      go false true d e = e ∙ (let t : d ≡ (d && true) = with_true d in t)
        where
          with_true : (d : Bool) → d ≡ (d && true)
          with_true true = refl
          with_true false = refl
      go false false d e = e ∙ (let t : d ≡ (d && true) = with_true d in t)
        where
          with_true : (d : Bool) → d ≡ (d && true)
          with_true true = refl
          with_true false = refl

-- a node at the state that it has
with_itself : (w : World) (v : ℕ) → with_state w v (w v) ≡ w
with_itself w v = fun_ext (λ u. elim (cases_eq u v) [ inl e ↦ chosen u v (w v) (w u) e ∙ ap w (sym e) | inr ne ↦ not_chosen u v (w v) (w u) ne ])

-- where the sums of one table fit, its join does
pub sum_fits_join : {C : Type 0} {r : Ring C} → 1 ≤ r.most → (nodes : List NodeView) (cells : List C) (slot : Slot) (x : ℕ)
    → SumFits r (states_of nodes) x (table_of r nodes cells slot) → JoinFits r.size (states_of nodes) r.most x (tables_of r nodes cells (slot ∷ []))
sum_fits_join {C} {r} one nodes cells slot x f = record {
  products = λ j w i. first j w i;
  sum = λ w i.
      subst (λ z. z ≤ r.most)
      (sum_cong mass_ring mass_is_ring (states_of nodes x) (λ s. r.size ((table_of r nodes cells slot).cell (with_state w x s))) (λ s. sizes r.size (tables_of r nodes cells (slot ∷ [])) (with_state w x s)) (λ s l. sym (mass_is_ring.times_unit (r.size ((table_of r nodes cells slot).cell (with_state w x s))))))
      (f.sum w i);
}
  where
    whole : (w : World) → InRange (states_of nodes) w → r.size ((table_of r nodes cells slot).cell w) ≤ r.most
    whole w i =
        let term = nat_sum_one_more (w x) (states_of nodes x) (λ s. r.size ((table_of r nodes cells slot).cell (with_state w x s))) (i.state x) in
        let here = ap (λ u. r.size ((table_of r nodes cells slot).cell u)) (with_itself w x) in
        omega (arith, term, here, f.sum w i)

    first : (j : ℕ) (w : World) → InRange (states_of nodes) w → sizes r.size (take j (tables_of r nodes cells (slot ∷ []))) w ≤ r.most
    first zero w i = one
    first (suc zero) w i = let h = whole w i in omega arith
    first (suc (suc j)) w i = let h = whole w i in omega arith
