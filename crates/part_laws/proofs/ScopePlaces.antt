-- Where the bounds of scopes fail first.
use Rattle.std.proofs.Common.{◌≡◌, ◌≢◌, ◌⊎◌, ◌∙◌, ℕ, zero, suc, ◌+◌, ◌<◌, ◌≤◌, Bool, true, false, cond, ltb, filter, List, [], ◌∷◌, length, refl, sym, ap, subst, inl, inr, arith}
use Rattle.std.proofs.lemmas.Bool.Decides.{nat_tests}
use Rattle.std.proofs.Math.Decide.{dec_lt}
use Rattle.maid_model.specs.Diagrams.{greatest_number}
use Rattle.maid_model.specs.Nodes.{IsDecision, numbers_of}
use Rattle.finite_sums.specs.Sums.{nat_product_over}
use Rattle.finite_sums.proofs.Lists.{among_filter, decide_among}
use Rattle.finite_sums.specs.Members.{Among}
use Rattle.maid_model.specs.Parts.{leads_to, with_ancestors}
use Rattle.maid_model.specs.Scopes.{scope_bound, scope_bound_for, product_before, PassesInScope, KeepsScopedBounds, FailsFirst, FailsFirstFor}
use Rattle.part_laws.specs.ScopeLaws.{FirstFailureExists, FirstPassingExists}
use Rattle.maid_laws.proofs.Members.{contains_of}
use Rattle.maid_laws.proofs.Rearranged.{numbered}
use Rattle.maid_laws.proofs.Tied.{dec_decision}

-- the first number below n at which a fact that can be told does not hold
first_failing : (P : ℕ → Type 0) → ((i : ℕ) → Dec (P i)) → (n : ℕ) → ((i : ℕ) → i < n → P i) ⊎ ((i : ℕ) × (i < n) × ¬ (P i) × ((j : ℕ) → j < i → P j))
first_failing P dec zero = inl (λ i l. absurd (omega arith))
first_failing P dec (suc n) = go (first_failing P dec n) (dec n)
  where
    lower : {i : ℕ} → i < n → i < suc n
    lower l = omega arith

    last : n < suc n
    last = omega arith

    last_or_lower : (i n : ℕ) → i < suc n → (i ≡ n) ⊎ (i < n)
    last_or_lower i n l = grind arith

    all : ((i : ℕ) → i < n → P i) → P n → (i : ℕ) → i < suc n → P i
    all h p i l = elim (last_or_lower i n l) [ inl e ↦ subst P (sym e) p | inr k ↦ h i k ]

    go : ((i : ℕ) → i < n → P i) ⊎ ((i : ℕ) × (i < n) × ¬ (P i) × ((j : ℕ) → j < i → P j)) → Dec (P n) → ((i : ℕ) → i < suc n → P i) ⊎ ((i : ℕ) × (i < suc n) × ¬ (P i) × ((j : ℕ) → j < i → P j))
    go (inr r) p = inr (r.0, lower r.1, r.2, r.3)
    go (inl h) (yes p) = inl (all h p)
    go (inl h) (no q) = inr (n, last, q, h)

-- at most, or more
not_more : (a b : ℕ) → ¬ (b < a) → a ≤ b
not_more a b n = omega arith

more : (a b : ℕ) → ¬ (a ≤ b) → b < a
more a b n = omega arith

dec_most : (a b : ℕ) → Dec (a ≤ b)
dec_most a b = go (dec_lt b a)
  where
    over : b < a → ¬ (a ≤ b)
    over l k = omega arith

    go : Dec (b < a) → Dec (a ≤ b)
    go (yes l) = no (over l)
    go (no n) = yes (not_more a b n)

-- what is asked of one kind of thing can be told where the kind can
dec_asked : {A B : Type 0} → Dec A → Dec B → Dec (A → B)
dec_asked (yes a) (yes b) = yes (λ x. b)
dec_asked (yes a) (no n) = no (λ f. n (f a))
dec_asked (no n) b = yes (λ x. absurd (n x))

-- and where it does not hold, the kind does
asked_of : {A B : Type 0} → Dec A → ¬ (A → B) → A
asked_of (yes a) f = a
asked_of (no n) f = absurd (f (λ x. absurd (n x)))

pub failure_law : FirstFailureExists
failure_law d = go (first_failing Keeps (λ v. dec_asked (dec_decision d.nodes v) (dec_most (scope_bound d v) greatest_number)) (length d.nodes)) (first_failing (λ a. scope_bound_for d a ≤ greatest_number) (λ a. dec_most (scope_bound_for d a) greatest_number) d.agents)
  where
    Keeps : ℕ → Type 0
    Keeps v = IsDecision d.nodes v → scope_bound d v ≤ greatest_number

    go : ((v : ℕ) → v < length d.nodes → IsDecision d.nodes v → scope_bound d v ≤ greatest_number) ⊎ ((v : ℕ) × (v < length d.nodes) × ¬ (IsDecision d.nodes v → scope_bound d v ≤ greatest_number) × ((e : ℕ) → e < v → IsDecision d.nodes e → scope_bound d e ≤ greatest_number))
        → ((a : ℕ) → a < d.agents → scope_bound_for d a ≤ greatest_number) ⊎ ((a : ℕ) × (a < d.agents) × ¬ (scope_bound_for d a ≤ greatest_number) × ((o : ℕ) → o < a → scope_bound_for d o ≤ greatest_number))
        → KeepsScopedBounds d ⊎ (((v : ℕ) × FailsFirst d v) ⊎ ((agent : ℕ) × FailsFirstFor d agent))
    go (inr r) a =
        let is : IsDecision d.nodes r.0 = asked_of (dec_decision d.nodes r.0) r.2 in
        inr (inl (r.0, record { decision = is; fails = more (scope_bound d r.0) greatest_number (λ k. r.2 (λ x. k)); first = λ e k l. r.3 e l k }))
    go (inl h) (inr r) = inr (inr (r.0, record { within = r.1; fails = more (scope_bound_for d r.0) greatest_number r.2; decisions = λ v is. h v is.within is; first = r.3 }))
    go (inl h) (inl k) = inl (record { decisions = λ v is. h v is.within is; agents = k })

-- ---- the product node by node
-- lists that pass two tests that agree at their members
same_filter : (p q : ℕ → Bool) (vs : List ℕ) → ((v : ℕ) → Among v vs → p v ≡ q v) → filter p vs ≡ filter q vs
same_filter p q [] h = refl
same_filter p q (v ∷ vs) h = λ i. cond (h v (inl refl) i) (v ∷ same_filter p q vs (λ u m. h u (inr m)) i) (same_filter p q vs (λ u m. h u (inr m)) i)

all_pass : (q : ℕ → Bool) (vs : List ℕ) → ((v : ℕ) → Among v vs → q v ≡ true) → filter q vs ≡ vs
all_pass q [] h = refl
all_pass q (v ∷ vs) h = λ i. cond (h v (inl refl) i) (v ∷ all_pass q vs (λ u m. h u (inr m)) i) (filter q vs)

none_pass : (q : ℕ → Bool) (vs : List ℕ) → ((v : ℕ) → Among v vs → q v ≡ false) → filter q vs ≡ []
none_pass q [] h = refl
none_pass q (v ∷ vs) h = ap (λ b. cond b (v ∷ filter q vs) (filter q vs)) (h v (inl refl)) ∙ none_pass q vs (λ u m. h u (inr m))

module _ (factor : ℕ → ℕ) (scope : List ℕ) where
  -- a node that is not in the scope changes nothing
  step_over : (v : ℕ) → ¬ (Among v scope) → product_before factor scope (v + 1) ≡ product_before factor scope v
  step_over v n = ap (nat_product_over factor) (same_filter (λ u. ltb u (v + 1)) (λ u. ltb u v) scope (λ u m. same u (λ e. n (subst (λ z. Among z scope) e m))))
    where
      same : (u : ℕ) → u ≢ v → ltb u (v + 1) ≡ ltb u v
      same u k = grind (arith, nat_tests)

  none_yet : product_before factor scope 0 ≤ greatest_number
  none_yet = subst (λ l. nat_product_over factor l ≤ greatest_number) (sym (none_pass (λ u. ltb u 0) scope (λ u m. none u))) (omega arith)
    where
      none : (u : ℕ) → ltb u 0 ≡ false
      none u = grind (arith, nat_tests)

  passing : (n : ℕ) → ((v : ℕ) → Among v scope → v < n) → (nat_product_over factor scope ≤ greatest_number) ⊎ ((v : ℕ) × PassesInScope factor scope v)
  passing n within = go (first_failing (λ i. product_before factor scope (i + 1) ≤ greatest_number) (λ i. dec_most (product_before factor scope (i + 1)) greatest_number) n)
    where
      yes_below : (u k : ℕ) → u < k → ltb u k ≡ true
      yes_below u k l = grind (arith, nat_tests)

      whole : product_before factor scope n ≡ nat_product_over factor scope
      whole = ap (nat_product_over factor) (all_pass (λ u. ltb u n) scope (λ u m. yes_below u n (within u m)))

      predecessor : (m : ℕ) → (m ≡ 0) ⊎ ((i : ℕ) × (m ≡ i + 1))
      predecessor zero = inl refl
      predecessor (suc m) = inr (m, omega arith)

      before : (k : ℕ) → ((j : ℕ) → j < k → product_before factor scope (j + 1) ≤ greatest_number) → (m : ℕ) → m ≤ k → product_before factor scope m ≤ greatest_number
      before k h m l = elim (predecessor m) [ inl e ↦ subst (λ z. product_before factor scope z ≤ greatest_number) (sym e) none_yet | inr r ↦ subst (λ z. product_before factor scope z ≤ greatest_number) (sym r.1) (h r.0 (smaller r.0 m k r.1 l)) ]
        where
          smaller : (i m k : ℕ) → m ≡ i + 1 → m ≤ k → i < k
          smaller i m k e l = omega arith

      listed : (v : ℕ) → ¬ (product_before factor scope (v + 1) ≤ greatest_number) → product_before factor scope v ≤ greatest_number → Dec (Among v scope) → Among v scope
      listed v n l (yes m) = m
      listed v n l (no k) = absurd (n (subst (λ z. z ≤ greatest_number) (sym (step_over v k)) l))

      self : (m : ℕ) → m ≤ m
      self m = omega arith

      go : ((i : ℕ) → i < n → product_before factor scope (i + 1) ≤ greatest_number) ⊎ ((v : ℕ) × (v < n) × ¬ (product_before factor scope (v + 1) ≤ greatest_number) × ((j : ℕ) → j < v → product_before factor scope (j + 1) ≤ greatest_number)) → (nat_product_over factor scope ≤ greatest_number) ⊎ ((v : ℕ) × PassesInScope factor scope v)
      go (inl h) = inl (subst (λ z. z ≤ greatest_number) whole (before n h n (self n)))
      go (inr r) = inr (
        r.0,
        record {
          listed = contains_of r.0 scope (listed r.0 r.2 (before r.0 r.3 r.0 (self r.0)) (decide_among r.0 scope));
          passes = more (product_before factor scope (r.0 + 1)) greatest_number r.2;
          first = before r.0 r.3;
        },
      )

pub passing_law : FirstPassingExists
passing_law nodes of factor = passing factor (with_ancestors nodes of) (length nodes) (λ v m. numbered nodes v (among_filter (leads_to nodes of) v (numbers_of nodes) m).0)
