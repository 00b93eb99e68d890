-- Lists of parents have no directed cycle or a first one: items are placed as long as one can be,
-- and where some remain, the trail among them comes back.
use Rattle.std.proofs.Common.{◌≡◌, ◌≢◌, ◌⊎◌, ℕ, zero, suc, ◌+◌, ◌<◌, ◌≤◌, true, inl, inr, List, [], ◌∷◌, ◌++◌, length, get_or, take, drop, refl, sym, ◌∙◌, subst, arith}
use Rattle.std.specs.Prelude.{Contains, AllPairs}
use Rattle.std.specs.List.{list_any}
use Rattle.std.proofs.Math.Dec.{eqb}
use Rattle.std.proofs.Math.Decide.{ℕ_discrete}
use Rattle.std.proofs.lemmas.Bool.{cases_lt, false≢true}
use Rattle.std.proofs.lemmas.Bool.Decides.{Decides-eqb, eqb_tells}
use Rattle.std.proofs.lemmas.List.{get_or_default, get_or_append_left, get_or_at, length_push, get_or-take, length-take-le}
use Rattle.std.proofs.lemmas.List.Elements.{Contains-get_or}
use Rattle.std.proofs.lemmas.List.Folds.{Any-from_list_any}
use Rattle.std.proofs.lemmas.Map.Made.{IsDistinct-from_AllPairs}
use Rattle.std.proofs.lemmas.Map.Steps.{length-le_from_distinct_below}
use Rattle.maid_model.specs.Graph.{IsAcyclic}
use Rattle.maid_model.specs.Placing.{IsLeast, Remains, CanPlace, IsPlacing}
use Rattle.diagram_graph.specs.Needs.{needs_of, NeedsItem}
use Rattle.diagram_graph.specs.Rounds.{IsFirstLeft, IsListedRound}
use Rattle.diagram_graph.specs.Cycles.{ListedArc, IsParentCycle}
use Rattle.diagram_graph.specs.Laws.{CycleOrNone}
use Rattle.diagram_graph.proofs.Orders.{order_no_cycle}
use Rattle.diagram_graph.proofs.Placings.{placing_push}
use Rattle.diagram_graph.proofs.Trails.{IsWalking, walking_start, walking_push, round_from}

-- Tests of what is finite.
abbrev LeastBelow : (ℕ → Type 0) → ℕ → Type 0
LeastBelow P n = ((v : ℕ) × (v < n) × IsLeast P v) ⊎ ((v : ℕ) → v < n → P v → ⊥)

one_further : (P : ℕ → Type 0) (n : ℕ) → LeastBelow P n → Dec (P n) → LeastBelow P (suc n)
one_further P n (inl f) d = inl (f.0, (let l = f.1 in omega arith), f.2)
one_further P n (inr none) (yes p) = inl (n, omega arith, (p, none))
one_further P n (inr none) (no q) = inr (λ v l p. elim (cases_lt v n) as (λ _. ⊥) [ inl a ↦ none v a p | inr b ↦ let e : v ≡ n = omega arith in q (subst P e p) ])

-- the least number below n of which P holds, or none
least_below : (P : ℕ → Type 0) → ((v : ℕ) → Dec (P v)) → (n : ℕ) → LeastBelow P n
least_below P d zero = inr (λ v l. absurd (omega arith))
least_below P d (suc n) = one_further P n (least_below P d n) (d n)

not_decided : (P : Type 0) → Dec P → Dec (P → ⊥)
not_decided P (yes p) = no (λ n. n p)
not_decided P (no n) = yes n

both_decided : (P Q : Type 0) → Dec P → Dec Q → Dec (P × Q)
both_decided P Q (yes p) (yes q) = yes (p, q)
both_decided P Q (no n) d = no (λ h. n h.0)
both_decided P Q (yes p) (no n) = no (λ h. n h.1)

less_decided : (v n : ℕ) → Dec (v < n)
less_decided v n = elim (cases_lt v n) as (λ _. Dec (v < n)) [ inl l ↦ yes l | inr g ↦ no (λ l. omega arith) ]

contained : (xs : List ℕ) (x : ℕ) → LeastBelow (λ k. get_or xs k x ≡ x) (length xs) → Dec (Contains xs x)
contained xs x (inl f) = yes (f.0, f.1, f.2.0)
contained xs x (inr none) = no (λ c. none c.0 c.1 c.2)

contains_decided : (xs : List ℕ) (x : ℕ) → Dec (Contains xs x)
contains_decided xs x = contained xs x (least_below (λ k. get_or xs k x ≡ x) (λ k. ℕ_discrete (get_or xs k x) x) (length xs))

-- what is not left out is there
there : (xs : List ℕ) (x : ℕ) → ((Contains xs x → ⊥) → ⊥) → Contains xs x
there xs x n = elim (contains_decided xs x) as (λ _. Contains xs x) [ yes h ↦ h | no h ↦ absurd (n h) ]

-- an item of a list, read with another default
at_zero : (xs : List ℕ) (e : ℕ) (c : Contains xs e) → get_or xs c.0 0 ≡ e
at_zero xs e c = get_or_default xs c.0 0 e c.1 ∙ c.2

all_found : (xs placed : List ℕ) → LeastBelow (λ k. Contains placed (get_or xs k 0) → ⊥) (length xs) → Dec ((e : ℕ) → Contains xs e → Contains placed e)
all_found xs placed (inl f) = no (λ all. f.2.0 (all (get_or xs f.0 0) (Contains-get_or xs f.0 0 f.1)))
all_found xs placed (inr none) = yes (λ e c. there placed e (λ n. none c.0 c.1 (λ h. n (subst (Contains placed) (at_zero xs e c) h))))

-- different numbers below n are n at most
any_below : (n q : ℕ) (xs : List ℕ) → ((k : ℕ) → k < length xs → get_or xs k 0 < n) → list_any (eqb q) xs ≡ true → q < n
any_below n q xs below t =
    let a = Any-from_list_any (eqb q) xs t in
    let b : get_or xs a.0 0 < n = below a.0 a.2 in
    let at : get_or xs a.0 0 ≡ a.1 = get_or_default xs a.0 0 a.1 a.2 ∙ a.3 in
    elim (eqb_tells q a.1) as (λ _. q < n) [ inl e ↦ subst (λ x. x < n) (at ∙ sym e.1) b | inr e ↦ absurd (false≢true (sym e.0 ∙ a.4)) ]

bounded : (xs : List ℕ) (n : ℕ) → ((i j : ℕ) → i < j → j < length xs → get_or xs i 0 ≡ get_or xs j 0 → ⊥) → ((k : ℕ) → k < length xs → get_or xs k 0 < n) → length xs ≤ n
bounded xs n differ below = length-le_from_distinct_below xs n (IsDistinct-from_AllPairs (λ a b. Decides-eqb a b) xs pairs) (λ q t. any_below n q xs below t) where
  pairs : AllPairs (λ x y. x ≢ y) xs
  pairs i j d l m e = differ i j l m (get_or_default xs i 0 d (omega arith) ∙ e ∙ sym (get_or_default xs j 0 d m))

module _ (lists : List (List ℕ)) (known : (u v : ℕ) → ListedArc lists u v → u < length lists) where
  abbrev Item : ℕ → Type 0
  Item v = v < length lists

  remains_decided : (placed : List ℕ) (v : ℕ) → Dec (Remains Item placed v)
  remains_decided placed v = both_decided (v < length lists) (Contains placed v → ⊥) (less_decided v (length lists)) (not_decided (Contains placed v) (contains_decided placed v))

  can_decided : (placed : List ℕ) (v : ℕ) → Dec (CanPlace Item (NeedsItem lists) placed v)
  can_decided placed v =
      both_decided (Remains Item placed v) ((e : ℕ) → NeedsItem lists v e → Contains placed e) (remains_decided placed v)
      (all_found (needs_of lists v) placed (least_below (λ k. Contains placed (get_or (needs_of lists v) k 0) → ⊥) (λ k. not_decided _ (contains_decided placed (get_or (needs_of lists v) k 0))) (length (needs_of lists v))))

  -- a placing has each item once
  placed_few : (placed : List ℕ) → IsPlacing Item (NeedsItem lists) placed → length placed ≤ length lists
  placed_few placed h = bounded placed (length lists) differ (λ k l. (h k l).0.0.0) where
    differ : (i j : ℕ) → i < j → j < length placed → get_or placed i 0 ≡ get_or placed j 0 → ⊥
    differ i j l m e =
        let len = length-take-le j placed (omega arith) in
        let within : i < length (take j placed) = omega arith in
        (h j m).0.0.1 (i, within, get_or_default (take j placed) i (get_or placed j 0) 0 within ∙ (get_or-take j placed i 0 l ∙ e))

  abbrev Stuck : List ℕ → Type 0
  Stuck placed = (v : ℕ) → CanPlace Item (NeedsItem lists) placed v → ⊥

  -- items are placed until none can be
  grow : (fuel : ℕ) (placed : List ℕ) → IsPlacing Item (NeedsItem lists) placed → length lists < length placed + fuel → (all : List ℕ) × IsPlacing Item (NeedsItem lists) all × Stuck all
  grow zero placed h l = let m = placed_few placed h in absurd (omega arith)
  grow (suc fuel) placed h l =
      elim (least_below (CanPlace Item (NeedsItem lists) placed) (can_decided placed) (length lists)) as (λ _. (all : List ℕ) × IsPlacing Item (NeedsItem lists) all × Stuck all) [
        | inl f ↦ grow fuel (placed ++ f.0 ∷ []) (placing_push Item (NeedsItem lists) placed f.0 h f.2) (let m = length_push placed f.0 in omega arith)
        | inr none ↦ (placed, h, λ v can. none v can.0.0 can)
      ]

  module _ (placed : List ℕ) (stuck : Stuck placed) where
    abbrev Left : ℕ → Type 0
    Left v = Remains Item placed v

    -- an item that is left needs one that is left
    next_left : (v : ℕ) → Left v → LeastBelow (λ k. Left (get_or (needs_of lists v) k 0)) (length (needs_of lists v)) → (e : ℕ) × IsFirstLeft Left (needs_of lists v) e
    next_left v left (inl f) = (get_or (needs_of lists v) f.0 0, (f.0, f.1, refl, f.2.0, f.2.1))
    next_left v left (inr none) =
        absurd (stuck v (left, λ e c. there placed e (λ n. none c.0 c.1 (subst Left (sym (at_zero (needs_of lists v) e c)) (known e v c, n)))))

    more_below : (trail : List ℕ) (at : ℕ) → at < length lists → ((k : ℕ) → k < length trail → get_or trail k 0 < length lists) → (k : ℕ) → k < length (trail ++ at ∷ []) → get_or (trail ++ at ∷ []) k 0 < length lists
    more_below trail at within below k l = elim (cases_lt k (length trail)) as (λ _. get_or (trail ++ at ∷ []) k 0 < length lists) [
      | inl a ↦ rw (get_or_append_left trail (at ∷ []) 0 k a) (below k a)
      | inr b ↦ let e : length trail ≡ k = let n = length_push trail at in omega arith in rw (get_or_at trail at [] 0 k e) within
    ]

    -- the trail goes on until it comes back
    walk : (fuel : ℕ) (trail : List ℕ) (at : ℕ) → IsWalking Left lists trail at → ((k : ℕ) → k < length trail → get_or trail k 0 < length lists) → length lists < length trail + fuel → (cycle : List ℕ) × IsListedRound Left lists cycle
    walk zero trail at h below l = let m = bounded trail (length lists) h.trail_ok.distinct below in absurd (omega arith)
    walk (suc fuel) trail at h below l =
        elim (contains_decided trail at) as (λ _. (cycle : List ℕ) × IsListedRound Left lists cycle) [
          | yes c ↦ (drop c.0 trail, round_from Left lists trail at c.0 h c.1 (at_zero trail at c))
          | no new ↦
              let next = next_left at h.left (least_below (λ k. Left (get_or (needs_of lists at) k 0)) (λ k. remains_decided placed (get_or (needs_of lists at) k 0)) (length (needs_of lists at))) in
              walk fuel (trail ++ at ∷ []) next.0 (walking_push Left lists trail at next.0 h new next.1) (more_below trail at h.left.0 below) (let m = length_push trail at in omega arith)
        ]

  outcome : (all : List ℕ) → IsPlacing Item (NeedsItem lists) all → Stuck all → LeastBelow (Remains Item all) (length lists) → IsAcyclic (ListedArc lists) ⊎ ((cycle : List ℕ) × IsParentCycle lists cycle)
  outcome all h stuck (inr none) = inl (order_no_cycle lists all (record { placing = h; complete = λ v l. there all v (λ n. none v l (l, n)) }))
  outcome all h stuck (inl f) =
      let round = walk all stuck (suc (length lists)) [] f.0 (walking_start (Remains Item all) lists f.0 f.2) (λ k l. absurd (omega arith)) (omega arith) in
      inr (round.0, record { placed = all; placing = h; stuck = stuck; round = round.1 })

  pub covered : IsAcyclic (ListedArc lists) ⊎ ((cycle : List ℕ) × IsParentCycle lists cycle)
  covered =
      let all = grow (suc (length lists)) [] (λ k l. absurd (omega arith)) (omega arith) in
      outcome all.0 all.1 all.2 (least_below (Remains Item all.0) (remains_decided all.0) (length lists))

pub cycle_or_none : CycleOrNone
cycle_or_none lists known = covered lists known
