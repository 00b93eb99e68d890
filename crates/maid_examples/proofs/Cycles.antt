-- Two who rely on each other: neither can be placed, and the trail goes round.
use Rattle.std.proofs.Common.{◌≡◌, ◌⊎◌, ◌∙◌, ℕ, zero, suc, ◌+◌, ◌<◌, List, [], ◌∷◌, drop, length, slice_index, refl, sym, subst, inl, inr, arith, take}
use Rattle.maid_model.specs.Laws.{TestsDiagrams}
use Rattle.maid_model.specs.Nodes.{IsDecision}
use Rattle.maid_model.specs.Graph.{Here, IsGraph}
use Rattle.maid_model.specs.Relevance.{ReliesOn}
use Rattle.maid_model.specs.Placing.{Remains, CanPlace, IsLeast, IsTrail, IsRound, HasRelianceOrder, IsRelianceCycle}
use Rattle.maid_examples.specs.Pennies.{pennies, pennies_diagram, HasCycle}
use Rattle.maid_examples.proofs.Members.{among_of}
use Rattle.maid_examples.proofs.Reliance.{decision, live, relies}

first : IsDecision pennies 0
first = decision pennies 0 (omega arith) refl

second : IsDecision pennies 1
second = decision pennies 1 (omega arith) refl

-- there are two decisions
one_of : (v : ℕ) → IsDecision pennies v → (v ≡ 0) ⊎ (v ≡ 1)
one_of zero k = inl refl
one_of (suc zero) k = inr refl
one_of (suc (suc zero)) k = let e = k.kind in absurd (cc)
one_of (suc (suc (suc zero))) k = let e = k.kind in absurd (cc)
one_of (suc (suc (suc (suc v)))) k = let e = k.kind in absurd (cc)

on_second : IsGraph pennies → ReliesOn pennies 0 1
on_second graph =
    relies pennies 0 1 2 graph (λ e. omega arith) first second (live pennies 0 (omega arith) (omega arith)) (live pennies 1 (omega arith) (omega arith))
    (record { within = omega arith; kind = refl; owner = (0, omega arith, refl); below = (2, (0, omega arith, refl), Here) })
    (1, omega arith, refl) (λ a. among_of [] 1 a)

on_first : IsGraph pennies → ReliesOn pennies 1 0
on_first graph =
    relies pennies 1 0 3 graph (λ e. omega arith) second first (live pennies 1 (omega arith) (omega arith)) (live pennies 0 (omega arith) (omega arith))
    (record { within = omega arith; kind = refl; owner = (0, omega arith, refl); below = (3, (1, omega arith, refl), Here) })
    (0, omega arith, refl) (λ a. among_of [] 0 a)

-- the second of two that are left of a list
second_left : (xs : List ℕ) (n a b : ℕ) → drop n xs ≡ a ∷ b ∷ [] → (n + 1 < length xs) × (slice_index xs (n + 1) ≡ b)
second_left xs zero a b e = subst (λ ys. (1 < length ys) × (slice_index ys 1 ≡ b)) (sym e) (omega arith, refl)
second_left [] (suc n) a b e = absurd (cc)
second_left (x ∷ xs) (suc n) a b e =
    let r = second_left xs n a b e in let l : n + 1 < length xs = r.0 in let f : ◌≡◌ {A = ℕ} (suc (n + 1)) (suc n + 1) = omega arith in
    (omega arith, subst (λ k. slice_index (x ∷ xs) k ≡ b) f r.1)

left : (v : ℕ) → IsDecision pennies v → Remains (IsDecision pennies) [] v
left v k = (k, λ c. among_of [] v c)

module _ (graph : IsGraph pennies) where
  -- nothing can be placed first
  stuck : (v : ℕ) → CanPlace (IsDecision pennies) (ReliesOn pennies) [] v → ⊥
  stuck v c = elim (one_of v c.0.0) [
    | inl e ↦ among_of [] 1 (c.1 1 (subst (λ x. ReliesOn pennies x 1) (sym e) (on_second graph)))
    | inr e ↦ among_of [] 0 (c.1 0 (subst (λ x. ReliesOn pennies x 0) (sym e) (on_first graph)))
  ]

  no_order : HasRelianceOrder pennies → ⊥
  no_order ([], o) = among_of [] 0 (o.complete 0 first)
  no_order (v ∷ vs, o) = stuck v (o.placing 0 (omega arith)).0

  -- what is placed where nothing can be is the empty list
  none_placed : (placed : List ℕ) → ((k : ℕ) → k < length placed → IsLeast (CanPlace (IsDecision pennies) (ReliesOn pennies) (take k placed)) (slice_index placed k)) → placed ≡ []
  none_placed [] p = refl
  none_placed (v ∷ vs) p = absurd (stuck v (p 0 (omega arith)).0)

  trail : IsTrail (Remains (IsDecision pennies) []) (ReliesOn pennies) (0 ∷ 1 ∷ [])
  trail = record { first = λ l. (left 0 first, λ w l p. omega arith); next = next; distinct = distinct }
    where
      next : (k : ℕ) → k + 1 < 2 → IsLeast (λ e. ReliesOn pennies (slice_index (0 ∷ 1 ∷ []) k) e × Remains (IsDecision pennies) [] e) (slice_index (0 ∷ 1 ∷ []) (k + 1))
      next zero l = ((on_second graph, left 1 second), before)
        where
          before : (w : ℕ) → w < 1 → ReliesOn pennies 0 w × Remains (IsDecision pennies) [] w → ⊥
          before zero l p = p.0.apart refl
          before (suc w) l p = omega arith
      next (suc k) l = absurd (omega arith)

      distinct : (i j : ℕ) → i < j → j < 2 → slice_index (0 ∷ 1 ∷ []) i ≡ slice_index (0 ∷ 1 ∷ []) j → ⊥
      distinct zero (suc zero) l m e = let f : ◌≡◌ {A = ℕ} 0 1 = e in omega arith
      distinct zero zero l m e = omega arith
      distinct zero (suc (suc j)) l m e = omega arith
      distinct (suc i) j l m e = omega arith

  cycle : IsRelianceCycle pennies (0 ∷ 1 ∷ [])
  cycle = record {
    placed = [];
    placing = λ k l. absurd (omega arith);
    stuck = stuck;
    round = record { trail = 0 ∷ 1 ∷ []; back = 0; is_trail = trail; within = omega arith; closes = ((on_first graph, left 0 first), λ w l p. omega arith); is = refl };
  }

  -- a trail begins with the first decision, and so has it in no later place
  not_round : IsRound (Remains (IsDecision pennies) []) (ReliesOn pennies) (1 ∷ 0 ∷ []) → ⊥
  not_round r =
      let at : (r.back + 1 < length r.trail) × (slice_index r.trail (r.back + 1) ≡ 0) = second_left r.trail r.back 1 0 (sym r.is) in
      let l : r.back + 1 < length r.trail = at.0 in
      r.is_trail.distinct 0 (r.back + 1) (omega arith) l (starts (slice_index r.trail 0) (r.is_trail.first (omega arith)) ∙ sym at.1)
    where
      starts : (v : ℕ) → IsLeast (Remains (IsDecision pennies) []) v → v ≡ 0
      starts zero p = refl
      starts (suc v) p = absurd (p.1 0 (omega arith) (left 0 first))

  not_turned : IsRelianceCycle pennies (1 ∷ 0 ∷ []) → ⊥
  not_turned c = not_round (subst (λ placed. IsRound (Remains (IsDecision pennies) placed) (ReliesOn pennies) (1 ∷ 0 ∷ [])) (none_placed c.placed c.placing) c.round)

  pub has_cycle : TestsDiagrams → HasCycle
  has_cycle diagrams = record { diagram = diagrams pennies_diagram refl; on_second = on_second graph; on_first = on_first graph; no_order = no_order; cycle = cycle; not_turned = not_turned }
