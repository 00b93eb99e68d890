-- The test of descent, and what it says of paths.
use Rattle.std.proofs.Common.{◌≡◌, ◌∙◌, ◌⊎◌, ℕ, zero, suc, ◌<◌, ◌≤◌, Bool, true, false, ◌||◌, eqb, List, [], ◌∷◌, length, refl, sym, ap, subst, inl, inr, arith}
use Rattle.std.specs.List.{list_any}
use Rattle.maid_model.specs.Graph.{Arc, IsPath, Here, Along, Descends, leads_within, descends}
use Rattle.maid_model.specs.Nodes.{parents_of}
use Rattle.maid_model.specs.Views.{NodeView}
use Rattle.finite_sums.specs.Members.{Among}
use Rattle.finite_sums.proofs.Members.{among_from_contains, contains_from_among}
use Rattle.finite_sums.proofs.Counts.{true_or_false, count_below, Within, more_or_same, all_pass}
use Rattle.maid_model.proofs.Found.{eqb_yes}
use Rattle.std.proofs.lemmas.Bool.Decides.{nat_tests}

-- ---- tests of members
pub any_has : (p : ℕ → Bool) (xs : List ℕ) → list_any p xs ≡ true → (x : ℕ) × Among x xs × (p x ≡ true)
any_has p [] h = absurd (cc)
any_has p (x ∷ xs) h = go (true_or_false (p x)) (any_has p xs)
  where
    go : (p x ≡ true) ⊎ (p x ≡ false) → (list_any p xs ≡ true → (y : ℕ) × Among y xs × (p y ≡ true)) → (y : ℕ) × Among y (x ∷ xs) × (p y ≡ true)
    go (inl e) r = (x, inl refl, e)
    go (inr e) r = let a = r (ap (λ b. b || list_any p xs) (sym e) ∙ h) in (a.0, inr a.1, a.2)

pub any_of : (p : ℕ → Bool) (xs : List ℕ) (x : ℕ) → Among x xs → p x ≡ true → list_any p xs ≡ true
any_of p [] x h e = absurd h
any_of p (y ∷ ys) x (inl f) e = ap (λ b. b || list_any p ys) (sym (ap p f) ∙ e)
any_of p (y ∷ ys) x (inr m) e = go (p y) (any_of p ys x m e)
  where
    go : (b : Bool) → list_any p ys ≡ true → (b || list_any p ys) ≡ true
    go true h = refl
    go false h = h

pub equal_from_test : (a b : ℕ) → eqb a b ≡ true → a ≡ b
equal_from_test a b h = grind (arith, nat_tests)

pub or_cases : (a b : Bool) → (a || b) ≡ true → (a ≡ true) ⊎ (b ≡ true)
or_cases true b h = inl refl
or_cases false b h = inr h

pub or_right : (a b : Bool) → b ≡ true → (a || b) ≡ true
or_right true b h = refl
or_right false b h = h

-- ---- paths
pub path_more : (A : ℕ → ℕ → Type 0) {to from : ℕ} → IsPath A from to → (next : ℕ) → A to next → IsPath A from next
path_more A Here next a = Along a Here
path_more A (Along b p) next a = Along b (path_more A p next a)

pub path_join : (A : ℕ → ℕ → Type 0) {mid from : ℕ} → IsPath A from mid → (to : ℕ) → IsPath A mid to → IsPath A from to
path_join A Here to q = q
path_join A (Along b p) to q = Along b (path_join A p to q)

pub descends_more : (A : ℕ → ℕ → Type 0) (u v w : ℕ) → Descends A u v → A v w → Descends A u w
descends_more A u v w (x, a, p) b = (x, a, path_more A p w b)

module _ (nodes : List NodeView) (u : ℕ) where
  -- a parent that is u, or to which a path of n arcs leads
  abbrev near : ℕ → ℕ → Bool
  near n x = eqb x u || leads_within nodes n u x

  step_of : (n v : ℕ) → leads_within nodes (suc n) u v ≡ true → (x : ℕ) × Arc nodes x v × ((x ≡ u) ⊎ (leads_within nodes n u x ≡ true))
  step_of n v h =
      let a = any_has (near n) (parents_of nodes v) h in
      (a.0, contains_from_among (parents_of nodes v) a.0 a.1, go a.0 (or_cases (eqb a.0 u) (leads_within nodes n u a.0) a.2))
    where
      go : (x : ℕ) → (eqb x u ≡ true) ⊎ (leads_within nodes n u x ≡ true) → (x ≡ u) ⊎ (leads_within nodes n u x ≡ true)
      go x (inl e) = inl (equal_from_test x u e)
      go x (inr k) = inr k

  step_to : (n x v : ℕ) → Arc nodes x v → (x ≡ u) ⊎ (leads_within nodes n u x ≡ true) → leads_within nodes (suc n) u v ≡ true
  step_to n x v a (inl e) = any_of (near n) (parents_of nodes v) x (among_from_contains (parents_of nodes v) x a) (ap (λ b. b || leads_within nodes n u x) (eqb_yes x u e))
  step_to n x v a (inr k) = any_of (near n) (parents_of nodes v) x (among_from_contains (parents_of nodes v) x a) (or_right (eqb x u) (leads_within nodes n u x) k)

  -- what the test finds is a path
  sound : (n v : ℕ) → leads_within nodes n u v ≡ true → Descends (Arc nodes) u v
  sound zero v h = absurd (cc)
  sound (suc n) v h = let s = step_of n v h in go s.0 s.1 s.2 (sound n s.0)
    where
      go : (x : ℕ) → Arc nodes x v → (x ≡ u) ⊎ (leads_within nodes n u x ≡ true) → (leads_within nodes n u x ≡ true → Descends (Arc nodes) u x) → Descends (Arc nodes) u v
      go x a (inl e) r = (v, subst (λ y. Arc nodes y v) e a, Here)
      go x a (inr k) r = descends_more (Arc nodes) u x v (r k) a

  -- some number of steps finds a path
  along : (v x n : ℕ) → IsPath (Arc nodes) x v → leads_within nodes n u x ≡ true → (m : ℕ) × (leads_within nodes m u v ≡ true)
  along v x n Here h = (n, h)
  along v x n (Along {v = y} a p) h = along v y (suc n) p (step_to n x y a (inr h))

  -- ---- as many steps as there are nodes find them all
  abbrev Stable : ℕ → Type 0
  Stable n = (v : ℕ) → leads_within nodes (suc n) u v ≡ true → leads_within nodes n u v ≡ true

  stable_next : (n : ℕ) → Stable n → Stable (suc n)
  stable_next n s v h = let a = step_of (suc n) v h in step_to n a.0 v a.1 (go a.0 a.2)
    where
      go : (x : ℕ) → (x ≡ u) ⊎ (leads_within nodes (suc n) u x ≡ true) → (x ≡ u) ⊎ (leads_within nodes n u x ≡ true)
      go x (inl e) = inl e
      go x (inr k) = inr (s x k)

  monotone : (n v : ℕ) → leads_within nodes n u v ≡ true → leads_within nodes (suc n) u v ≡ true
  monotone zero v h = absurd (cc)
  monotone (suc n) v h = let a = step_of n v h in step_to (suc n) a.0 v a.1 (go a.0 a.2 (monotone n a.0))
    where
      go : (x : ℕ) → (x ≡ u) ⊎ (leads_within nodes n u x ≡ true) → (leads_within nodes n u x ≡ true → leads_within nodes (suc n) u x ≡ true) → (x ≡ u) ⊎ (leads_within nodes (suc n) u x ≡ true)
      go x (inl e) r = inl e
      go x (inr k) r = inr (r k)

  no_parents : (ns : List NodeView) (v : ℕ) → length ns ≤ v → parents_of ns v ≡ []
  no_parents [] v h = refl
  no_parents (n ∷ ns) zero h = absurd (omega arith)
  no_parents (n ∷ ns) (suc v) h = no_parents ns v (omega arith)

  reached_is_node : (n v : ℕ) → leads_within nodes (suc n) u v ≡ true → v < length nodes
  reached_is_node n v h = go (nat_split v (length nodes))
    where
      nat_split : (a b : ℕ) → (a < b) ⊎ (b ≤ a)
      nat_split a b = grind arith

      go : (v < length nodes) ⊎ (length nodes ≤ v) → v < length nodes
      go (inl l) = l
      go (inr k) = absurd (let e : false ≡ true = sym (ap (list_any (near n)) (no_parents nodes v k)) ∙ h in cc)

  stable_everywhere : (n : ℕ) → Within (length nodes) (leads_within nodes (suc n) u) (leads_within nodes n u) → Stable n
  stable_everywhere n h v k = h v (reached_is_node n v k) k

  many_or_stable : (n : ℕ) → (n ≤ count_below (length nodes) (leads_within nodes n u)) ⊎ Stable n
  many_or_stable zero = inl (omega arith)
  many_or_stable (suc n) = go (many_or_stable n) (more_or_same (length nodes) (leads_within nodes n u) (leads_within nodes (suc n) u) (λ v l. monotone n v))
    where
      go : (n ≤ count_below (length nodes) (leads_within nodes n u)) ⊎ Stable n
          → (count_below (length nodes) (leads_within nodes n u) < count_below (length nodes) (leads_within nodes (suc n) u)) ⊎ Within (length nodes) (leads_within nodes (suc n) u) (leads_within nodes n u)
          → (suc n ≤ count_below (length nodes) (leads_within nodes (suc n) u)) ⊎ Stable (suc n)
      go (inr s) m = inr (stable_next n s)
      go (inl k) (inl m) = inl (omega arith)
      go (inl k) (inr w) = inr (stable_next n (stable_everywhere n w))

  stable_in_the_end : Stable (length nodes)
  stable_in_the_end = go (many_or_stable (length nodes))
    where
      go : (length nodes ≤ count_below (length nodes) (leads_within nodes (length nodes) u)) ⊎ Stable (length nodes) → Stable (length nodes)
      go (inr s) = s
      go (inl k) = λ v h. all_pass (length nodes) (leads_within nodes (length nodes) u) k v (reached_is_node (length nodes) v h)

  enough : (n v : ℕ) → leads_within nodes n u v ≡ true → leads_within nodes (length nodes) u v ≡ true
  enough zero v h = absurd (cc)
  enough (suc n) v h = let a = step_of n v h in stable_in_the_end v (step_to (length nodes) a.0 v a.1 (go a.0 a.2 (enough n a.0)))
    where
      go : (x : ℕ) → (x ≡ u) ⊎ (leads_within nodes n u x ≡ true) → (leads_within nodes n u x ≡ true → leads_within nodes (length nodes) u x ≡ true) → (x ≡ u) ⊎ (leads_within nodes (length nodes) u x ≡ true)
      go x (inl e) r = inl e
      go x (inr k) r = inr (r k)

  pub path_from_test : (v : ℕ) → descends nodes u v ≡ true → Descends (Arc nodes) u v
  path_from_test v h = sound (length nodes) v h

  pub test_from_path : (v : ℕ) → Descends (Arc nodes) u v → descends nodes u v ≡ true
  test_from_path v (x, a, p) = let r = along v x 1 p (step_to 0 u x a (inl refl)) in enough r.0 v r.1
