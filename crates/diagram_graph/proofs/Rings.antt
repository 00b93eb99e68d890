-- An order rules cycles out, and the cycle found is one.
use Rattle.std.proofs.lemmas.List.Elements.{Contains-get_or}
use Rattle.std.proofs.Common.{◌≡◌, ℕ, zero, suc, ◌+◌, ◌-◌, ◌<◌, ◌≤◌, List, length, take, drop, get_or, subst, sym, ◌∙◌, arith}
use Rattle.std.specs.Prelude.{Contains}
use Rattle.std.proofs.lemmas.List.{get_or-take, get_or-drop, length-take-le, length-drop, get_or_default}
use Rattle.maid_model.specs.Placing.{IsPlacing}
use Rattle.maid_model.specs.Graph.{IsPath, Here, Along, Descends}
use Rattle.std.specs.Prelude.{Bool}
use Rattle.diagram_graph.specs.Needs.{IsMarkedIn, NeedsItem}
use Rattle.diagram_graph.specs.Free.{NeedsItems}
use Rattle.diagram_graph.specs.Placed.{IsCycleOf}
use Rattle.diagram_graph.specs.Rounds.{IsFirstLeft, IsListedRound, IsFirstCycle, IsRingOfNeeds}

module _ (Item : ℕ → Type 0) (Needs : ℕ → ℕ → Type 0) (order : List ℕ) (placing : IsPlacing Item Needs order) where
  -- what an item in the order needs stands before it
  before : (k : ℕ) → k < length order → (e : ℕ) → Contains (take k order) e → (j : ℕ) × (j < k) × (get_or order j 0 ≡ e)
  before k l e (j, lt, q) =
      let m = length-take-le k order (omega arith) in
      let lj : j < k = omega arith in
      (j, lj, sym (get_or-take k order j 0 lj) ∙ (get_or_default (take k order) j 0 e lt ∙ q))

  path_before : (t a : ℕ) → IsPath Needs a t → (k : ℕ) → k < length order → get_or order k 0 ≡ a → (j : ℕ) × (j ≤ k) × (get_or order j 0 ≡ t)
  path_before t a Here k l e = (k, omega arith, e)
  path_before t a (Along {v = b} n p) k l e =
      let h = before k l b ((placing k l).0.1 b (subst (λ x. Needs x b) (sym e) n)) in
      let lj = h.1 in
      let r = path_before t b p h.0 (omega arith) h.2 in
      let m = r.1 in (r.0, omega arith, r.2)

  pub order_acyclic : (v : ℕ) → Contains order v → Descends Needs v v → ⊥
  order_acyclic v (k, l, e) (next, n, p) =
      let at : get_or order k 0 ≡ v = get_or_default order k 0 v l ∙ e in
      let h = before k l next ((placing k l).0.1 next (subst (λ x. Needs x next) (sym at) n)) in
      let lj = h.1 in
      let r = path_before v next p h.0 (omega arith) h.2 in
      let m = r.1 in
      let lr : r.0 < k = omega arith in
      let le = length-take-le k order (omega arith) in
      let same : get_or order r.0 0 ≡ get_or order k 0 = r.2 ∙ sym at in
      let within : r.0 < length (take k order) = omega arith in
      (placing k l).0.0.1 (r.0, within, get_or_default (take k order) r.0 (get_or order k 0) 0 within ∙ (get_or-take k order r.0 0 lr ∙ same))

-- the first of a list that is left is in the list
pub first_needed : (Left : ℕ → Type 0) (list : List ℕ) (e : ℕ) → IsFirstLeft Left list e → Contains list e
first_needed Left list e h = (h.0, h.1, sym (get_or_default list h.0 0 e h.1) ∙ h.2)

pub round_ring : (Left : ℕ → Type 0) (lists : List (List ℕ)) (cycle : List ℕ) → IsListedRound Left lists cycle → IsRingOfNeeds (NeedsItem lists) cycle
round_ring Left lists cycle h = subst (λ (xs : List ℕ). IsRingOfNeeds (NeedsItem lists) xs) (sym h.is) (record {
  some = let l = h.within in let n = length-drop h.back h.trail in omega arith;
  next = λ k l. let n = length-drop h.back h.trail in
      rw (get_or-drop h.back h.trail k 0, get_or-drop h.back h.trail (k + 1) 0)
      (subst (λ i. NeedsItem lists (get_or h.trail (h.back + k) 0) (get_or h.trail i 0)) (next_place h.back k) (first_needed Left _ _ (h.is_trail.next (h.back + k) (omega arith))));
  closes = let l = h.within in let n = length-drop h.back h.trail in
      let last : h.back + (length (drop h.back h.trail) - 1) ≡ length h.trail - 1 = omega arith in
      let first : h.back + 0 ≡ h.back = omega arith in
      rw (get_or-drop h.back h.trail (length (drop h.back h.trail) - 1) 0, get_or-drop h.back h.trail 0 0, last, first) (first_needed Left _ _ h.closes);
  distinct = λ i j l m e. let n = length-drop h.back h.trail in
      h.is_trail.distinct (h.back + i) (h.back + j) (omega arith) (omega arith)
      (sym (get_or-drop h.back h.trail i 0) ∙ (e ∙ get_or-drop h.back h.trail j 0));
})
  where
    next_place : (b k : ℕ) → (b + k) + 1 ≡ b + (k + 1)
    next_place b k = omega arith

-- each item of a ring descends to its first
ring_back : (Needs : ℕ → ℕ → Type 0) (ring : List ℕ) → IsRingOfNeeds Needs ring → (n k : ℕ) → (k + n) + 1 ≡ length ring → Descends Needs (get_or ring k 0) (get_or ring 0 0)
ring_back Needs ring h zero k e =
    let last : length ring - 1 ≡ k = omega arith in
    (get_or ring 0 0, subst (λ i. Needs (get_or ring i 0) (get_or ring 0 0)) last h.closes, Here)
ring_back Needs ring h (suc n) k e =
    let r = ring_back Needs ring h n (k + 1) (omega arith) in (get_or ring (k + 1) 0, h.next k (omega arith), Along r.1 r.2)

pub ring_descends : (Needs : ℕ → ℕ → Type 0) (ring : List ℕ) → IsRingOfNeeds Needs ring → Descends Needs (get_or ring 0 0) (get_or ring 0 0)
ring_descends Needs ring h = let l = h.some in ring_back Needs ring h (length ring - 1) 0 (omega arith)

-- each item of a ring is needed
ring_needed : (Needs : ℕ → ℕ → Type 0) (ring : List ℕ) → IsRingOfNeeds Needs ring → (k : ℕ) → k < length ring → (v : ℕ) × Needs v (get_or ring k 0)
ring_needed Needs ring h zero l = (get_or ring (length ring - 1) 0, h.closes)
ring_needed Needs ring h (suc k) l = (get_or ring k 0, subst (λ i. Needs (get_or ring k 0) (get_or ring i 0)) (omega arith) (h.next k (omega arith)))

pub cycle_of : (lists : List (List ℕ)) (items : List Bool) (cycle : List ℕ) → NeedsItems lists items → IsFirstCycle (IsMarkedIn items) lists cycle → IsCycleOf lists items cycle
cycle_of lists items cycle needs h =
    let ring = round_ring _ lists cycle h.round in
    let all : (v : ℕ) → Contains cycle v → IsMarkedIn items v = λ v c.
    let n = ring_needed (NeedsItem lists) cycle ring c.0 c.1 in
    subst (λ x. IsMarkedIn items x) (get_or_default cycle c.0 0 v c.1 ∙ c.2) (needs n.0 (get_or cycle c.0 0) n.1) in
    record {
      first = h;
      ring = ring;
      all_items = all;
      no_order = λ order o. order_acyclic (IsMarkedIn items) (NeedsItem lists) order o.placing (get_or cycle 0 0)
          (o.complete (get_or cycle 0 0) (all (get_or cycle 0 0) (Contains-get_or cycle 0 0 ring.some))) (ring_descends (NeedsItem lists) cycle ring);
    }
