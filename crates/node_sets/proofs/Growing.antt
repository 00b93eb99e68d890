-- Sets that grow, step by step: what two steps gain together, and that the room falls. Crates above
-- may cite these.
use Rattle.std.proofs.Common.{◌≡◌, ℕ, zero, suc, ◌+◌, ◌<◌, ◌≤◌, Bool, true, false, cond, ◌||◌, List, [], ◌∷◌, ◌++◌, length, take, get_or, ◌⊎◌, ◌↔◌, inl, inr, refl, subst, sym, ap, ◌∙◌, arith}
use Rattle.std.specs.Prelude.{Contains}
use Rattle.std.proofs.lemmas.Bool.{cases_eq, false≢true}
use Rattle.std.proofs.lemmas.List.{take_more}
use Rattle.std.proofs.lemmas.List.Elements.{Contains-push, Contains-push_cases, Contains-append_left}
use Rattle.node_sets.specs.declared.sets.NodeSet.{NodeSet}
use Rattle.node_sets.specs.Sets.{holds, IsIn, missing_below, room, Adds}

-- ---- the room of a set that grows
missing_falls : (a b : NodeSet) (n : ℕ) → ((x : ℕ) → IsIn a x → IsIn b x) → missing_below b n ≤ missing_below a n
unfolding missing_below
missing_falls a b zero kept = omega arith
missing_falls a b (suc n) kept = go (holds a n) (holds b n) (kept n) (missing_falls a b n kept)
  where
    go : (p q : Bool) → (p ≡ true → q ≡ true) → missing_below b n ≤ missing_below a n → cond q 0 1 + missing_below b n ≤ cond p 0 1 + missing_below a n
    go true true k l = omega arith
    go true false k l = absurd (false≢true (k refl))
    go false true k l = omega arith
    go false false k l = omega arith

missing_less : (a b : NodeSet) (n v : ℕ) → v < n → ((x : ℕ) → IsIn a x → IsIn b x) → holds a v ≡ false → IsIn b v → missing_below b n < missing_below a n
unfolding missing_below
missing_less a b zero v l kept f t = absurd (omega arith)
missing_less a b (suc n) v l kept f t = elim (cases_eq v n) as (λ _. missing_below b (suc n) < missing_below a (suc n)) [
  | inl e ↦ here (holds a n) (holds b n) (ap (holds a) (sym e) ∙ f) (ap (holds b) (sym e) ∙ t) (missing_falls a b n kept)
  | inr k ↦ below (holds a n) (holds b n) (kept n) (missing_less a b n v (omega arith) kept f t)
]
  where
    here : (p q : Bool) → p ≡ false → q ≡ true → missing_below b n ≤ missing_below a n → cond q 0 1 + missing_below b n < cond p 0 1 + missing_below a n
    here false true e h m = omega arith
    here true q e h m = absurd (false≢true (sym e))
    here false false e h m = absurd (false≢true h)

    below : (p q : Bool) → (p ≡ true → q ≡ true) → missing_below b n < missing_below a n → cond q 0 1 + missing_below b n < cond p 0 1 + missing_below a n
    below true true k m = omega arith
    below true false k m = absurd (false≢true (k refl))
    below false true k m = omega arith
    below false false k m = omega arith

pub room_less : (a b : NodeSet) (v : ℕ) → v < 256 → ((x : ℕ) → IsIn a x → IsIn b x) → holds a v ≡ false → IsIn b v → room b < room a
room_less a b v l kept f t = missing_less a b 256 v l kept f t

-- ---- steps by which a set grows
pub adds_none : (A : ℕ → Type 0) (xs : NodeSet) → ((x : ℕ) → A x → ⊥) → Adds A xs xs false
adds_none A xs none = record {
  all = λ x. ((λ m. inl m), elim [ inl m ↦ m | inr a ↦ absurd (none x a) ]);
  same = λ _. refl;
  fewer = λ e. cc;
}

not_more : (A : ℕ → Type 0) (xs ys : NodeSet) (b : Bool) → Adds A xs ys b → room ys ≤ room xs
not_more A xs ys true h = let l = h.fewer refl in omega arith
not_more A xs ys false h = let e : room ys ≡ room xs = ap (λ s. room s) (h.same refl) in omega arith

pub adds_then : (A B C : ℕ → Type 0) (xs ys zs : NodeSet) (b c : Bool) → ((x : ℕ) → C x ↔ (A x ⊎ B x)) → Adds A xs ys b → Adds B ys zs c → Adds C xs zs (b || c)
adds_then A B C xs ys zs b c f h k = record {
  all = λ x. (
    (λ m. elim ((k.all x).0 m) as (λ _. IsIn xs x ⊎ C x) [
      | inl n ↦ elim ((h.all x).0 n) as (λ _. IsIn xs x ⊎ C x) [ inl o ↦ inl o | inr a ↦ inr ((f x).1 (inl a)) ]
      | inr a ↦ inr ((f x).1 (inr a))
    ]),
    elim [
      | inl m ↦ (k.all x).1 (inl ((h.all x).1 (inl m)))
      | inr a ↦ elim ((f x).0 a) as (λ _. IsIn zs x) [ inl p ↦ (k.all x).1 (inl ((h.all x).1 (inr p))) | inr q ↦ (k.all x).1 (inr q) ]
    ],
  );
  same = both_same b c h.same k.same;
  fewer = both_fewer b c h k;
}
  where
    both_same : (b c : Bool) → (b ≡ false → ys ≡ xs) → (c ≡ false → zs ≡ ys) → (b || c) ≡ false → zs ≡ xs
    both_same true c h k e = cc
    both_same false c h k e = k e ∙ h refl

    both_fewer : (b c : Bool) → Adds A xs ys b → Adds B ys zs c → (b || c) ≡ true → room zs < room xs
    both_fewer true c h k e = let l = h.fewer refl in let m = not_more B ys zs c k in omega arith
    both_fewer false c h k e = let l = k.fewer e in let m = not_more A xs ys false h in omega arith

pub adds_same : (A B : ℕ → Type 0) (xs ys : NodeSet) (b : Bool) → ((x : ℕ) → A x ↔ B x) → Adds A xs ys b → Adds B xs ys b
adds_same A B xs ys b f h = record {
  all = λ x. (
    (λ m. elim ((h.all x).0 m) as (λ _. IsIn xs x ⊎ B x) [ inl o ↦ inl o | inr a ↦ inr ((f x).0 a) ]),
    elim [ inl o ↦ (h.all x).1 (inl o) | inr q ↦ (h.all x).1 (inr ((f x).1 q)) ],
  );
  same = h.same;
  fewer = h.fewer;
}

-- one element more of a list
pub first_more : (list : List ℕ) (i x : ℕ) → i < length list → Contains (take (i + 1) list) x ↔ (Contains (take i list) x ⊎ (x ≡ get_or list i 0))
first_more list i x within = rw (take_more list i 0 within) (
  (λ c. elim (Contains-push_cases (take i list) (get_or list i 0) x c) as (λ _. Contains (take i list) x ⊎ (x ≡ get_or list i 0)) [ inl t ↦ inl t | inr e ↦ inr (sym e) ]),
  elim [
    | inl c ↦ Contains-append_left (take i list) (get_or list i 0 ∷ []) x c
    | inr e ↦ subst (λ z. Contains (take i list ++ get_or list i 0 ∷ []) z) (sym e) (Contains-push (take i list) (get_or list i 0))
  ],
)
