-- Placing and going round leave no choice, so that lists of parents have one first cycle at most.
use Rattle.std.proofs.Common.{◌≡◌, ℕ, zero, suc, ◌+◌, ◌-◌, ◌<◌, ◌≤◌, List, length, take, drop, get_or, inl, inr, refl, sym, ◌∙◌, ap, subst, arith}
use Rattle.std.proofs.lemmas.Bool.{cases_lt}
use Rattle.std.proofs.lemmas.List.{take_all, take_more_same}
use Rattle.std.proofs.lemmas.Grind.{same_number_lists}
use Rattle.maid_model.specs.Placing.{IsLeast, Remains, CanPlace, IsPlacing}
use Rattle.diagram_graph.specs.Needs.{needs_of, NeedsItem}
use Rattle.diagram_graph.specs.Rounds.{IsFirstLeft, IsListedTrail, IsListedRound}
use Rattle.diagram_graph.specs.Cycles.{ListedArc}
use Rattle.diagram_graph.specs.Laws.{CycleLeadsBack, OneCycle}
use Rattle.diagram_graph.proofs.Rings.{round_ring}
use Rattle.diagram_graph.proofs.Orders.{ring_leads_back}

pub cycle_leads_back : CycleLeadsBack
cycle_leads_back lists cycle h acyclic = ring_leads_back (ListedArc lists) (NeedsItem lists) (λ v e n. n) cycle (round_ring (Remains (λ v. v < length lists) h.placed) lists cycle h.round) acyclic

least_once : (P : ℕ → Type 0) (v w : ℕ) → IsLeast P v → IsLeast P w → v ≡ w
least_once P v w h k = elim (cases_lt v w) as (λ _. v ≡ w) [
  | inl l ↦ absurd (k.1 v l h.0)
  | inr g ↦ elim (cases_lt w v) as (λ _. v ≡ w) [ inl l ↦ absurd (h.1 w l k.0) | inr m ↦ omega arith ]
]

-- the first that is left of a list stands at one place
first_place_once : (Left : ℕ → Type 0) (list : List ℕ) (e f : ℕ) (h : IsFirstLeft Left list e) (k : IsFirstLeft Left list f) → h.0 ≡ k.0
first_place_once Left list e f h k = elim (cases_lt h.0 k.0) as (λ _. h.0 ≡ k.0) [
  | inl l ↦ absurd (k.4 h.0 l (subst Left (sym h.2) h.3))
  | inr g ↦ elim (cases_lt k.0 h.0) as (λ _. h.0 ≡ k.0) [ inl l ↦ absurd (h.4 k.0 l (subst Left (sym k.2) k.3)) | inr m ↦ omega arith ]
]

first_left_once : (Left : ℕ → Type 0) (list : List ℕ) (e f : ℕ) → IsFirstLeft Left list e → IsFirstLeft Left list f → e ≡ f
first_left_once Left list e f h k = sym h.2 ∙ ap (λ i. get_or list i 0) (first_place_once Left list e f h k) ∙ k.2

module _ (Item : ℕ → Type 0) (Needs : ℕ → ℕ → Type 0) where
  -- two placings place the same as far as both go
  placings_agree : (p q : List ℕ) → IsPlacing Item Needs p → IsPlacing Item Needs q → (k : ℕ) → k ≤ length p → k ≤ length q → take k p ≡ take k q
  placings_agree p q hp hq zero l m = refl
  placings_agree p q hp hq (suc k) l m =
      let lp : k < length p = omega arith in
      let lq : k < length q = omega arith in
      let same = placings_agree p q hp hq k (omega arith) (omega arith) in
      let here = least_once (CanPlace Item Needs (take k q)) (get_or p k 0) (get_or q k 0) (subst (λ (xs : List ℕ). IsLeast (CanPlace Item Needs xs) (get_or p k 0)) same (hp k lp)) (hq k lq) in
      let next : k + 1 ≡ suc k = omega arith in
      subst (λ n. take n p ≡ take n q) next (take_more_same p q k 0 lp lq same here)

  -- where nothing more can be placed, no other placing goes on
  placing_longer : (p q : List ℕ) → IsPlacing Item Needs p → IsPlacing Item Needs q → ((v : ℕ) → CanPlace Item Needs p v → ⊥) → length p < length q → ⊥
  placing_longer p q hp hq stuck l =
      let same : take (length p) q ≡ p = sym (placings_agree p q hp hq (length p) (omega arith) (omega arith)) ∙ take_all (length p) p (omega arith) in
      stuck (get_or q (length p) 0) (subst (λ (xs : List ℕ). CanPlace Item Needs xs (get_or q (length p) 0)) same (hq (length p) l).0)

  placing_once : (p q : List ℕ) → IsPlacing Item Needs p → IsPlacing Item Needs q → ((v : ℕ) → CanPlace Item Needs p v → ⊥) → ((v : ℕ) → CanPlace Item Needs q v → ⊥) → p ≡ q
  placing_once p q hp hq sp sq = elim (cases_lt (length p) (length q)) as (λ _. p ≡ q) [
    | inl l ↦ absurd (placing_longer p q hp hq sp l)
    | inr g ↦ elim (cases_lt (length q) (length p)) as (λ _. p ≡ q) [
      | inl l ↦ absurd (placing_longer q p hq hp sq l)
      | inr m ↦ sym (take_all (length p) p (omega arith)) ∙ placings_agree p q hp hq (length p) (omega arith) m ∙ take_all (length p) q (omega arith)
    ]
  ]

module _ (Left : ℕ → Type 0) (lists : List (List ℕ)) where
  -- two trails go the same way as far as both go
  trails_agree : (t u : List ℕ) → IsListedTrail Left lists t → IsListedTrail Left lists u → (k : ℕ) → k < length t → k < length u → get_or t k 0 ≡ get_or u k 0
  trails_agree t u ht hu zero l m = least_once Left (get_or t 0 0) (get_or u 0 0) (ht.first l) (hu.first m)
  trails_agree t u ht hu (suc k) l m =
      let lt : k + 1 < length t = omega arith in
      let lu : k + 1 < length u = omega arith in
      let same = trails_agree t u ht hu k (omega arith) (omega arith) in
      let next : k + 1 ≡ suc k = omega arith in
      subst (λ n. get_or t n 0 ≡ get_or u n 0) next
      (first_left_once Left (needs_of lists (get_or u k 0)) (get_or t (k + 1) 0) (get_or u (k + 1) 0)
      (subst (λ v. IsFirstLeft Left (needs_of lists v) (get_or t (k + 1) 0)) same (ht.next k lt)) (hu.next k lu))

  -- a trail that has come back doesn't go on to another item
  trail_longer : (c d : List ℕ) (h : IsListedRound Left lists c) (k : IsListedRound Left lists d) → length h.trail < length k.trail → ⊥
  trail_longer c d h k l =
      let within = h.within in
      let last = length h.trail - 1 in
      let behind : last + 1 < length k.trail = omega arith in
      let same = trails_agree h.trail k.trail h.is_trail k.is_trail last (omega arith) (omega arith) in
      let goes = first_left_once Left (needs_of lists (get_or k.trail last 0)) (get_or h.trail h.back 0) (get_or k.trail (last + 1) 0)
      (subst (λ v. IsFirstLeft Left (needs_of lists v) (get_or h.trail h.back 0)) same h.closes) (k.is_trail.next last behind) in
      k.is_trail.distinct h.back (last + 1) (omega arith) behind (sym (trails_agree h.trail k.trail h.is_trail k.is_trail h.back within (omega arith)) ∙ goes)

  trail_once : (c d : List ℕ) (h : IsListedRound Left lists c) (k : IsListedRound Left lists d) → h.trail ≡ k.trail
  trail_once c d h k = elim (cases_lt (length h.trail) (length k.trail)) as (λ _. h.trail ≡ k.trail) [
    | inl l ↦ absurd (trail_longer c d h k l)
    | inr g ↦ elim (cases_lt (length k.trail) (length h.trail)) as (λ _. h.trail ≡ k.trail) [
      | inl l ↦ absurd (trail_longer d c k h l)
      | inr m ↦ same_number_lists h.trail k.trail (omega arith) (λ i l. trails_agree h.trail k.trail h.is_trail k.is_trail i l (omega arith))
    ]
  ]

  -- different items of a trail stand at different places
  back_once : (t : List ℕ) → IsListedTrail Left lists t → (a b : ℕ) → a < length t → b < length t → get_or t a 0 ≡ get_or t b 0 → a ≡ b
  back_once t h a b la lb e = elim (cases_lt a b) as (λ _. a ≡ b) [
    | inl l ↦ absurd (h.distinct a b l lb e)
    | inr g ↦ elim (cases_lt b a) as (λ _. a ≡ b) [ inl l ↦ absurd (h.distinct b a l la (sym e)) | inr m ↦ omega arith ]
  ]

  same_trail_once : (t : List ℕ) → IsListedTrail Left lists t → (a b : ℕ) → a < length t → b < length t →
      IsFirstLeft Left (needs_of lists (get_or t (length t - 1) 0)) (get_or t a 0) → IsFirstLeft Left (needs_of lists (get_or t (length t - 1) 0)) (get_or t b 0) → a ≡ b
  same_trail_once t h a b la lb ha hb = back_once t h a b la lb (first_left_once Left (needs_of lists (get_or t (length t - 1) 0)) (get_or t a 0) (get_or t b 0) ha hb)

  round_once : (c d : List ℕ) → IsListedRound Left lists c → IsListedRound Left lists d → c ≡ d
  round_once c d h k =
      let trails = trail_once c d h k in
      let backs = same_trail_once h.trail h.is_trail h.back k.back h.within
      (subst (λ (t : List ℕ). k.back < length t) (sym trails) k.within) h.closes
      (subst (λ (t : List ℕ). IsFirstLeft Left (needs_of lists (get_or t (length t - 1) 0)) (get_or t k.back 0)) (sym trails) k.closes) in
      h.is ∙ ap (λ b. drop b h.trail) backs ∙ ap (λ (t : List ℕ). drop k.back t) trails ∙ sym k.is

pub one_cycle : OneCycle
one_cycle lists cycle other h k =
    let Item : ℕ → Type 0 = λ v. v < length lists in
    let same = placing_once Item (NeedsItem lists) h.placed k.placed h.placing k.placing h.stuck k.stuck in
    round_once (Remains Item k.placed) lists cycle other (subst (λ (p : List ℕ). IsListedRound (Remains Item p) lists cycle) same h.round) k.round
