-- The trail that leads to a cycle.
use Rattle.std.proofs.Common.{◌≡◌, ℕ, ◌+◌, ◌-◌, ◌<◌, ◌≤◌, List, [], ◌∷◌, ◌++◌, length, get_or, drop, ◌⊎◌, ◌↔◌, inl, inr, refl, subst, sym, ◌∙◌, arith}
use Rattle.std.specs.Prelude.{Contains}
use Rattle.std.proofs.lemmas.Bool.{cases_lt}
use Rattle.std.proofs.lemmas.List.{get_or_append_left, get_or_at, length_push}
use Rattle.std.proofs.lemmas.List.Elements.{Contains-get_or}
use Rattle.maid_model.specs.Placing.{IsLeast}
use Rattle.diagram_graph.specs.Needs.{needs_of}
use Rattle.diagram_graph.specs.Rounds.{IsFirstLeft, IsListedTrail, IsListedRound}
use Rattle.diagram_graph.proofs.Placings.{least_same}

-- a trail, and the node to which it leads next
pub record IsWalking (Left : ℕ → Type 0) (lists : List (List ℕ)) (trail : List ℕ) (at : ℕ) : Type 0 where
  pub trail_ok : IsListedTrail Left lists trail
  pub left : Left at
  pub begins : length trail ≡ 0 → IsLeast Left at
  pub goes_on : 0 < length trail → IsFirstLeft Left (needs_of lists (get_or trail (length trail - 1) 0)) at

module _ (Left : ℕ → Type 0) (lists : List (List ℕ)) where
  pub walking_start : (at : ℕ) → IsLeast Left at → IsWalking Left lists [] at
  walking_start at h = record {
    trail_ok = record { first = λ l. absurd (omega arith); next = λ k l. absurd (omega arith); distinct = λ i j l m. absurd (omega arith) };
    left = h.0;
    begins = λ _. h;
    goes_on = λ l. absurd (omega arith);
  }

  push_next : (trail : List ℕ) (at : ℕ) → IsWalking Left lists trail at → (k : ℕ) → k + 1 < length (trail ++ at ∷ []) → (k + 1 < length trail) ⊎ (length trail ≤ k + 1) →
      IsFirstLeft Left (needs_of lists (get_or (trail ++ at ∷ []) k 0)) (get_or (trail ++ at ∷ []) (k + 1) 0)
  push_next trail at h k l (inl a) =
      rw (get_or_append_left trail (at ∷ []) 0 k (omega arith), get_or_append_left trail (at ∷ []) 0 (k + 1) a) (h.trail_ok.next k a)
  push_next trail at h k l (inr b) =
      let e : length trail ≡ k + 1 = let m = length_push trail at in omega arith in
      let last : length trail - 1 ≡ k = omega arith in
      rw (get_or_append_left trail (at ∷ []) 0 k (omega arith), get_or_at trail at [] 0 (k + 1) e)
      (subst (λ i. IsFirstLeft Left (needs_of lists (get_or trail i 0)) at) last (h.goes_on (omega arith)))

  push_first : (trail : List ℕ) (at : ℕ) → IsWalking Left lists trail at → (0 < length trail) ⊎ (length trail ≤ 0) → IsLeast Left (get_or (trail ++ at ∷ []) 0 0)
  push_first trail at h (inl a) = rw (get_or_append_left trail (at ∷ []) 0 0 a) (h.trail_ok.first a)
  push_first trail at h (inr b) =
      let e : length trail ≡ 0 = omega arith in rw (get_or_at trail at [] 0 0 e) (h.begins e)

  push_distinct : (trail : List ℕ) (at : ℕ) → IsListedTrail Left lists trail → (Contains trail at → ⊥) → (i j : ℕ) → i < j → j < length (trail ++ at ∷ []) → (j < length trail) ⊎ (length trail ≤ j) →
      get_or (trail ++ at ∷ []) i 0 ≡ get_or (trail ++ at ∷ []) j 0 → ⊥
  push_distinct trail at h new i j l m (inl a) e =
      h.distinct i j l a (sym (get_or_append_left trail (at ∷ []) 0 i (omega arith)) ∙ (e ∙ get_or_append_left trail (at ∷ []) 0 j a))
  push_distinct trail at h new i j l m (inr b) e =
      let q : length trail ≡ j = let n = length_push trail at in omega arith in
      let same : get_or trail i 0 ≡ at = sym (get_or_append_left trail (at ∷ []) 0 i (omega arith)) ∙ (e ∙ get_or_at trail at [] 0 j q) in
      new (subst (λ x. Contains trail x) same (Contains-get_or trail i 0 (omega arith)))

  pub walking_push : (trail : List ℕ) (at to : ℕ) → IsWalking Left lists trail at → (Contains trail at → ⊥) → IsFirstLeft Left (needs_of lists at) to →
      IsWalking Left lists (trail ++ at ∷ []) to
  walking_push trail at to h new least = record {
    trail_ok = record {
      first = λ _. push_first trail at h (cases_lt 0 (length trail));
      next = λ k l. push_next trail at h k l (cases_lt (k + 1) (length trail));
      distinct = λ i j l m. push_distinct trail at h.trail_ok new i j l m (cases_lt j (length trail));
    };
    left = least.3;
    begins = λ e. let n = length_push trail at in absurd (omega arith);
    goes_on = λ _.
        let last : length trail ≡ length (trail ++ at ∷ []) - 1 = let n = length_push trail at in omega arith in
        rw (get_or_at trail at [] 0 (length (trail ++ at ∷ []) - 1) last) least;
  }

  pub round_from : (trail : List ℕ) (at back : ℕ) → IsWalking Left lists trail at → back < length trail → get_or trail back 0 ≡ at → IsListedRound Left lists (drop back trail)
  round_from trail at back h l e = record {
    trail = trail;
    back = back;
    is_trail = h.trail_ok;
    within = l;
    closes = subst (λ x. IsFirstLeft Left (needs_of lists (get_or trail (length trail - 1) 0)) x) (sym e) (h.goes_on (omega arith));
    is = refl;
  }

-- a round depends only on which items are left
pub round_same : (P Q : ℕ → Type 0) (lists : List (List ℕ)) → ((x : ℕ) → P x ↔ Q x) → (cycle : List ℕ) → IsListedRound P lists cycle → IsListedRound Q lists cycle
round_same P Q lists f cycle h = record {
  trail = h.trail;
  back = h.back;
  within = h.within;
  is = h.is;
  closes = first_same _ _ h.closes;
  is_trail = record {
    first = λ l. least_same P Q f _ (h.is_trail.first l);
    next = λ k l. first_same _ _ (h.is_trail.next k l);
    distinct = h.is_trail.distinct;
  };
}
  where
    first_same : (list : List ℕ) (e : ℕ) → IsFirstLeft P list e → IsFirstLeft Q list e
    first_same list e p = (p.0, p.1, p.2, (f e).0 p.3, λ k l q. p.4 k l ((f (get_or list k 0)).1 q))
