-- A graph has a list of its nodes with parents first: the nodes by how many others they descend
-- from.
use Rattle.std.proofs.Common.{◌≡◌, ◌≢◌, ◌∙◌, ◌⊎◌, ℕ, zero, suc, ◌+◌, ◌<◌, ◌≤◌, true, false, List, [], ◌∷◌, ◌++◌, length, get_or, take, refl, sym, ap, subst, inl, inr, arith, Contains}
use Rattle.std.proofs.Math.Decide.{dec_lt}
use Rattle.std.specs.List.{range_with_len}
use Rattle.maid_model.specs.Graph.{Arc, Here, IsGraph, AllDifferent, descends}
use Rattle.maid_model.specs.Laws.{IsParentsFirst}
use Rattle.maid_model.specs.Nodes.{parents_of, numbers_of}
use Rattle.maid_model.specs.Views.{NodeView}
use Rattle.finite_sums.specs.Members.{Among, Shuffled, none, put}
use Rattle.maid_model.proofs.Setting.{ParentsFirst}
use Rattle.finite_sums.proofs.Members.{among_from_contains, contains_from_among, range_within, range_has}
use Rattle.finite_sums.proofs.Counts.{true_or_false, count_below, count_strict}
use Rattle.maid_model.proofs.Descent.{path_from_test, test_from_path, descends_more}

-- ---- sorting by a key
module _ (key : ℕ → ℕ) where
  -- no later one is the same or has a smaller key
  abbrev pub Sorted : List ℕ → Type 0
  Sorted [] = Unit {0}
  Sorted (x ∷ xs) = ((u : ℕ) → Among u xs → (x ≢ u) × (key x ≤ key u)) × Sorted xs

  -- ys is xs with x put somewhere
  record Put (x : ℕ) (xs ys : List ℕ) : Type 0 where
    front : List ℕ
    back : List ℕ
    was : xs ≡ front ++ back
    is : ys ≡ front ++ x ∷ back

  among_split : (u x : ℕ) (front back : List ℕ) → Among u (front ++ x ∷ back) → (u ≡ x) ⊎ Among u (front ++ back)
  among_split u x [] back (inl e) = inl e
  among_split u x [] back (inr m) = inr m
  among_split u x (y ∷ front) back (inl e) = inr (inl e)
  among_split u x (y ∷ front) back (inr m) = elim (among_split u x front back m) [ inl e ↦ inl e | inr k ↦ inr (inr k) ]

  among_join : (u x : ℕ) (front back : List ℕ) → (u ≡ x) ⊎ Among u (front ++ back) → Among u (front ++ x ∷ back)
  among_join u x [] back h = h
  among_join u x (y ∷ front) back (inl e) = inr (among_join u x front back (inl e))
  among_join u x (y ∷ front) back (inr (inl e)) = inl e
  among_join u x (y ∷ front) back (inr (inr m)) = inr (among_join u x front back (inr m))

  put_in : (x : ℕ) (xs : List ℕ) → Sorted xs → ((u : ℕ) → Among u xs → x ≢ u) → (ys : List ℕ) × Put x xs ys × Sorted ys
  put_in x [] s n = (x ∷ [], record { front = []; back = []; was = refl; is = refl }, ((λ u m. absurd m), tt))
  put_in x (y ∷ ys) s n = go (dec_lt (key y) (key x)) (put_in x ys s.1 (λ u m. n u (inr m)))
    where
      not_less : (a b : ℕ) → ¬ (a < b) → b ≤ a
      not_less a b n = omega arith

      less : (a b : ℕ) → a < b → a ≤ b
      less a b l = omega arith

      trans : (a b c : ℕ) → a ≤ b → b ≤ c → a ≤ c
      trans a b c h k = omega arith

      first : ¬ (key y < key x) → (u : ℕ) → (u ≡ y) ⊎ Among u ys → (x ≢ u) × (key x ≤ key u)
      first l u (inl e) = (n u (inl e), subst (λ z. key x ≤ key z) (sym e) (not_less (key y) (key x) l))
      first l u (inr m) = (n u (inr m), trans (key x) (key y) (key u) (not_less (key y) (key x) l) (s.0 u m).1)

      later : (zs : List ℕ) → Put x ys zs → key y < key x → (u : ℕ) → Among u zs → (y ≢ u) × (key y ≤ key u)
      later zs p l u m = go (among_split u x p.front p.back (subst (Among u) p.is m))
        where
          go : (u ≡ x) ⊎ Among u (p.front ++ p.back) → (y ≢ u) × (key y ≤ key u)
          go (inl e) = ((λ f. n y (inl refl) (sym (f ∙ e))), subst (λ z. key y ≤ key z) (sym e) (less (key y) (key x) l))
          go (inr k) = s.0 u (subst (Among u) (sym p.was) k)

      go : Dec (key y < key x) → (zs : List ℕ) × Put x ys zs × Sorted zs → (zs : List ℕ) × Put x (y ∷ ys) zs × Sorted zs
      go (no l) r = (x ∷ y ∷ ys, record { front = []; back = y ∷ ys; was = refl; is = refl }, (first l, s))
      go (yes l) r = (y ∷ r.0, record { front = y ∷ r.1.front; back = r.1.back; was = ap (λ l. y ∷ l) r.1.was; is = ap (λ l. y ∷ l) r.1.is }, (later r.0 r.1 l, r.2))

  -- each number is another than the later ones
  abbrev pub Distinct : List ℕ → Type 0
  Distinct [] = Unit {0}
  Distinct (x ∷ xs) = ((u : ℕ) → Among u xs → x ≢ u) × Distinct xs

  -- a list in order, with the same members
  pub record InOrder (xs ys : List ℕ) : Type 0 where
    pub shuffled : Shuffled xs ys
    pub sorted : Sorted ys
    pub back : (u : ℕ) → Among u ys → Among u xs
    pub forth : (u : ℕ) → Among u xs → Among u ys

  pub in_order : (xs : List ℕ) → Distinct xs → (ys : List ℕ) × InOrder xs ys
  in_order [] d = ([], record { shuffled = none; sorted = tt; back = λ u m. m; forth = λ u m. m })
  in_order (x ∷ xs) d = go (in_order xs d.1)
    where
      go : (ys : List ℕ) × InOrder xs ys → (ys : List ℕ) × InOrder (x ∷ xs) ys
      go (ys, o) = (
        r.0,
        record {
          shuffled = subst (Shuffled (x ∷ xs)) (sym r.1.is) (put r.1.front r.1.back (subst (Shuffled xs) r.1.was o.shuffled));
          sorted = r.2;
          back = λ u m. from u (among_split u x r.1.front r.1.back (subst (Among u) r.1.is m));
          forth = λ u m. subst (Among u) (sym r.1.is) (among_join u x r.1.front r.1.back (to u m));
        },
      )
        where
          r : (zs : List ℕ) × Put x ys zs × Sorted zs
          r = put_in x ys o.sorted (λ u m. d.0 u (o.back u m))

          from : (u : ℕ) → (u ≡ x) ⊎ Among u (r.1.front ++ r.1.back) → (u ≡ x) ⊎ Among u xs
          from u (inl e) = inl e
          from u (inr k) = inr (o.back u (subst (Among u) (sym r.1.was) k))

          to : (u : ℕ) → (u ≡ x) ⊎ Among u xs → (u ≡ x) ⊎ Among u (r.1.front ++ r.1.back)
          to u (inl e) = inl e
          to u (inr k) = inr (subst (Among u) r.1.was (o.forth u k))

range_distinct : (k n : ℕ) → Distinct (λ v. v) (range_with_len k n)
range_distinct k zero = tt
range_distinct k (suc n) = ((λ u m e. let r : k + 1 ≤ u = (range_within (k + 1) n u m).0 in absurd (omega arith)), range_distinct (k + 1) n)

-- ---- the key of a node: how many nodes it descends from
abbrev pub ancestors_of : List NodeView → ℕ → ℕ
ancestors_of nodes v = count_below (length nodes) (λ x. descends nodes x v)

module _ (nodes : List NodeView) (g : IsGraph nodes) where
  not_itself : (v : ℕ) → descends nodes v v ≡ false
  not_itself v = go (true_or_false (descends nodes v v))
    where
      go : (descends nodes v v ≡ true) ⊎ (descends nodes v v ≡ false) → descends nodes v v ≡ false
      go (inl e) = absurd (g.acyclic v (path_from_test nodes v v e))
      go (inr e) = e

  -- a parent descends from fewer
  pub fewer_ancestors : (u v : ℕ) → Arc nodes u v → ancestors_of nodes u < ancestors_of nodes v
  fewer_ancestors u v a =
      count_strict (length nodes) (λ x. descends nodes x u) (λ x. descends nodes x v) u
      (λ x l e. test_from_path nodes x v (descends_more (Arc nodes) x u v (path_from_test nodes x u e) a))
      (g.parents_known u v a) (not_itself u) (test_from_path nodes u v (v, a, Here))

  distinct_any : (key : ℕ → ℕ) (xs : List ℕ) → Distinct (λ v. v) xs → Distinct key xs
  distinct_any key [] d = tt
  distinct_any key (x ∷ xs) d = (d.0, distinct_any key xs d.1)

  ordered : (ys : List ℕ) × InOrder (ancestors_of nodes) (numbers_of nodes) ys
  ordered = in_order (ancestors_of nodes) (numbers_of nodes) (distinct_any (ancestors_of nodes) (numbers_of nodes) (range_distinct 0 (length nodes)))

  -- the nodes, each after its parents
  pub order : List ℕ
  order = ordered.0

  pub order_shuffled : Shuffled (numbers_of nodes) order
  unfolding order
  order_shuffled = ordered.1.shuffled

  pub order_within : (v : ℕ) → Among v order → v < length nodes
  unfolding order
  order_within v m = let r : v < 0 + length nodes = (range_within 0 (length nodes) v (ordered.1.back v m)).1 in omega arith

  pub order_has : (v : ℕ) → v < length nodes → Among v order
  unfolding order
  order_has v l = ordered.1.forth v (range_has 0 (length nodes) v (omega arith) (omega arith))

  first_parents : (ys : List ℕ) → Sorted (ancestors_of nodes) ys → ParentsFirst nodes ys
  first_parents [] s = tt
  first_parents (v ∷ vs) s = ((λ u m. ((s.0 u m).0, λ k. less (ancestors_of nodes u) (ancestors_of nodes v) (fewer_ancestors u v (contains_from_among (parents_of nodes v) u k)) (s.0 u m).1)), first_parents vs s.1)
    where
      less : (a b : ℕ) → a < b → b ≤ a → ⊥
      less a b l m = omega arith

  pub order_parents_first : ParentsFirst nodes order
  unfolding order
  order_parents_first = first_parents ordered.0 ordered.1.sorted

  pub not_own_parent : (v : ℕ) → ¬ (Among v (parents_of nodes v))
  not_own_parent v m = g.acyclic v (v, contains_from_among (parents_of nodes v) v m, Here)

  -- ---- the same in the words of the definitions
  all_different : (ys : List ℕ) → ParentsFirst nodes ys → AllDifferent ys
  all_different [] h = tt
  all_different (v ∷ vs) h = ((λ c. (h.0 v (among_from_contains vs v c)).0 refl), all_different vs h.1)

  contains_more : (v : ℕ) (xs : List ℕ) (u : ℕ) → Contains xs u → Contains (v ∷ xs) u
  contains_more v xs u c = contains_from_among (v ∷ xs) u (inr (among_from_contains xs u c))

  before : (ys : List ℕ) → ParentsFirst nodes ys → (i u : ℕ) → i < length ys → Arc nodes u (get_or ys i 0) → Among u ys → Contains (take i ys) u
  before [] h i u l a m = absurd (omega arith)
  before (v ∷ vs) h zero u l a (inl e) = absurd (not_own_parent v (among_from_contains (parents_of nodes v) v (subst (λ x. Arc nodes x v) e a)))
  before (v ∷ vs) h zero u l a (inr m) = absurd ((h.0 u m).1 (among_from_contains (parents_of nodes v) u a))
  before (v ∷ vs) h (suc i) u l a (inl e) = contains_from_among (v ∷ take i vs) u (inl e)
  before (v ∷ vs) h (suc i) u l a (inr m) = contains_more v (take i vs) u (before vs h.1 i u (omega arith) a m)

  pub has_parents_first : (ys : List ℕ) × IsParentsFirst nodes ys
  has_parents_first = (
    order,
    record {
      all = λ v l. contains_from_among order v (order_has v l);
      within = λ v c. order_within v (among_from_contains order v c);
      once = all_different order order_parents_first;
      parents_first = λ i u l a. before order order_parents_first i u l a (order_has u (g.parents_known u (get_or order i 0) a));
    },
  )
