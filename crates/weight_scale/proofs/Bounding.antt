-- Products over the members of a set in text order, as far as a loop has come.
use Rattle.std.proofs.Common.{◌≡◌, ◌⊎◌, ◌≤◌, ◌<◌, ◌+◌, ◌*◌, ◌^◌, ◌&&◌, ℕ, zero, suc, max, Bool, true, false, cond, ltb, filter, List, [], ◌∷◌, refl, sym, ap, subst, ◌∙◌, inl, inr, arith, mul-pos, mul_assoc}
use Rattle.std.proofs.Math.Nat.{mul-le-mul_left, pow-le-pow_right}
use Rattle.std.proofs.lemmas.Bool.Decides.{nat_tests}
use Rattle.std.specs.List.{range_with_len}
use Rattle.finite_sums.specs.Members.{Among}
use Rattle.finite_sums.specs.Sums.{nat_product_over}
use Rattle.finite_sums.proofs.Lists.{among_filter}
use Rattle.finite_sums.proofs.Members.{contains_from_among, filter_has, range_has, range_within}
use Rattle.maid_model.specs.Diagrams.{greatest_number}
use Rattle.maid_model.specs.Scopes.{product_before, PassesInScope}

-- ---- lists that pass a test
none_pass : (q : ℕ → Bool) (xs : List ℕ) → ((v : ℕ) → Among v xs → q v ≡ false) → filter q xs ≡ []
none_pass q [] h = refl
none_pass q (x ∷ xs) h = ap (λ b. cond b (x ∷ filter q xs) (filter q xs)) (h x (inl refl)) ∙ none_pass q xs (λ u m. h u (inr m))

all_pass : (q : ℕ → Bool) (xs : List ℕ) → ((v : ℕ) → Among v xs → q v ≡ true) → filter q xs ≡ xs
all_pass q [] h = refl
all_pass q (x ∷ xs) h = λ i. cond (h x (inl refl) i) (x ∷ all_pass q xs (λ u m. h u (inr m)) i) (filter q xs)

same_pass : (q r : ℕ → Bool) (xs : List ℕ) → ((v : ℕ) → Among v xs → q v ≡ r v) → filter q xs ≡ filter r xs
same_pass q r [] h = refl
same_pass q r (x ∷ xs) h = λ i. cond (h x (inl refl) i) (x ∷ same_pass q r xs (λ u m. h u (inr m)) i) (same_pass q r xs (λ u m. h u (inr m)) i)

one_mul : (n : ℕ) → 1 * n ≡ n
one_mul n = omega arith

-- the first of a list, if it passes both tests, is a factor of the product over those that do
front : (f : ℕ → ℕ) (q : ℕ → Bool) (b : Bool) (x : ℕ) (xs : List ℕ) → nat_product_over f (filter q (cond b (x ∷ xs) xs)) ≡ cond (b && q x) (f x) 1 * nat_product_over f (filter q xs)
front f q true x xs = go (q x)
  where
    go : (c : Bool) → nat_product_over f (cond c (x ∷ filter q xs) (filter q xs)) ≡ cond c (f x) 1 * nat_product_over f (filter q xs)
    go true = refl
    go false = sym (one_mul (nat_product_over f (filter q xs)))
front f q false x xs = sym (one_mul (nat_product_over f (filter q xs)))

and_true : (b : Bool) → (b && true) ≡ b
and_true true = refl
and_true false = refl

and_false : (b : Bool) → (b && false) ≡ false
and_false true = refl
and_false false = refl

pub positive_product : (f : ℕ → ℕ) → ((v : ℕ) → 0 < f v) → (xs : List ℕ) → 0 < nat_product_over f xs
positive_product f p [] = omega arith
positive_product f p (x ∷ xs) = mul-pos (p x) (positive_product f p xs)

-- a product above nought has factors above nought
parts_positive : (a b : ℕ) → 0 < a * b → (0 < a) × (0 < b)
parts_positive zero b l = absurd (omega (arith, l))
parts_positive (suc a) zero l = absurd (none a l)
  where
    none : (a : ℕ) → ¬ (0 < suc a * 0)
    none a l = omega (arith, l)
parts_positive (suc a) (suc b) l = (omega arith, omega arith)

grows : (a n : ℕ) → 0 < a → n ≤ a * n
grows zero n l = absurd (omega arith)
grows (suc a) n l = omega arith

-- and so over some of the list it is at most that over all
pub filter_within : (f : ℕ → ℕ) (q : ℕ → Bool) (xs : List ℕ) → 0 < nat_product_over f xs → nat_product_over f (filter q xs) ≤ nat_product_over f xs
filter_within f q [] l = omega arith
filter_within f q (x ∷ xs) l = go (q x) parts (filter_within f q xs parts.1)
  where
    parts : (0 < f x) × (0 < nat_product_over f xs)
    parts = parts_positive (f x) (nat_product_over f xs) l

    go : (b : Bool) → (0 < f x) × (0 < nat_product_over f xs) → nat_product_over f (filter q xs) ≤ nat_product_over f xs → nat_product_over f (cond b (x ∷ filter q xs) (filter q xs)) ≤ f x * nat_product_over f xs
    go true r less = mul-le-mul_left (f x) less
    go false r less = omega (arith, less, grows (f x) (nat_product_over f xs) r.0)

-- ---- node by node
module _ (f : ℕ → ℕ) (p : ℕ → Bool) where
  -- none of the nodes from a on stands before v
  before_none : (v a n : ℕ) → v ≤ a → product_before f (filter p (range_with_len a n)) v ≡ 1
  before_none v a n l = ap (nat_product_over f) (none_pass (λ u. ltb u v) (filter p (range_with_len a n)) (λ u m. later u (range_within a n u (among_filter p u (range_with_len a n) m).0).0))
    where
      later : (u : ℕ) → a ≤ u → ltb u v ≡ false
      later u h = grind (arith, nat_tests)

  -- one more node
  before_next : (v a n : ℕ) → a ≤ v → v < a + n → product_before f (filter p (range_with_len a n)) (v + 1) ≡ product_before f (filter p (range_with_len a n)) v * cond (p v) (f v) 1
  before_next v a zero h l = absurd (omega arith)
  before_next v a (suc n) h l = go (split a v h) (λ k. before_next v (a + 1) n k (omega arith))
    where
      rest : List ℕ
      rest = filter p (range_with_len (a + 1) n)

      head : ℕ → ℕ
      head w = cond (p a && ltb a w) (f a) 1

      whole : (w : ℕ) → product_before f (filter p (range_with_len a (suc n))) w ≡ head w * product_before f rest w
      whole w = front f (λ u. ltb u w) (p a) a rest

      split : (a v : ℕ) → a ≤ v → (a ≡ v) ⊎ (a + 1 ≤ v)
      split a v h = grind arith

      below_next : (a v : ℕ) → a ≤ v → ltb a (v + 1) ≡ true
      below_next a v h = grind (arith, nat_tests)

      below : (a v : ℕ) → a + 1 ≤ v → ltb a v ≡ true
      below a v h = grind (arith, nat_tests)

      not_below : (a v : ℕ) → a ≡ v → ltb a v ≡ false
      not_below a v h = grind (arith, nat_tests)

      swap : (x : ℕ) → x * 1 ≡ (1 * 1) * x
      swap x = omega arith

      at_next : head (v + 1) ≡ cond (p a) (f a) 1
      at_next = ap (λ b. cond (p a && b) (f a) 1) (below_next a v h) ∙ ap (λ b. cond b (f a) 1) (and_true (p a))

      go : (a ≡ v) ⊎ (a + 1 ≤ v) → (a + 1 ≤ v → product_before f rest (v + 1) ≡ product_before f rest v * cond (p v) (f v) 1) → product_before f (filter p (range_with_len a (suc n))) (v + 1) ≡ product_before f (filter p (range_with_len a (suc n))) v * cond (p v) (f v) 1
      go (inl e) further =
          let here : head v ≡ 1 = ap (λ b. cond (p a && b) (f a) 1) (not_below a v e) ∙ ap (λ b. cond b (f a) 1) (and_false (p a)) in
          whole (v + 1) ∙ (λ i. at_next i * before_none (v + 1) (a + 1) n (omega (arith, e)) i) ∙ swap (cond (p a) (f a) 1)
          ∙ (λ i. (sym here i * sym (before_none v (a + 1) n (omega (arith, e))) i) * cond (p (e i)) (f (e i)) 1) ∙ ap (λ x. x * cond (p v) (f v) 1) (sym (whole v))
      go (inr k) further =
          let same : head (v + 1) ≡ head v = at_next ∙ sym (ap (λ b. cond (p a && b) (f a) 1) (below a v k) ∙ ap (λ b. cond b (f a) 1) (and_true (p a))) in
          whole (v + 1) ∙ (λ i. same i * further k i) ∙ sym (mul_assoc (head v) (product_before f rest v) (cond (p v) (f v) 1))
          ∙ ap (λ x. x * cond (p v) (f v) 1) (sym (whole v))

-- the product over the scope's nodes before v, which passes at none of them
pub record ProductSoFar (f : ℕ → ℕ) (scope : List ℕ) (v product : ℕ) : Type 0 where
  pub so_far : product ≡ product_before f scope v
  pub none_passes : (n : ℕ) → n ≤ v → product_before f scope n ≤ greatest_number
  pub positive : 0 < product

-- the scope has no node from one number on and before another
abbrev pub HasNoneBefore : (ℕ → Bool) → ℕ → ℕ → Type 0
HasNoneBefore p from end = (u : ℕ) → from ≤ u → u < end → p u ≡ true → ⊥

module _ (f : ℕ → ℕ) (p : ℕ → Bool) (count : ℕ) where
  abbrev scope : List ℕ
  scope = filter p (range_with_len 0 count)

  inside : (u : ℕ) → Among u (filter p (range_with_len 0 count)) → (p u ≡ true) × (u < count)
  inside u m = let k = among_filter p u (range_with_len 0 count) m in (k.1, omega (arith, (range_within 0 count u k.0).1))

  pub product_start : ProductSoFar f (filter p (range_with_len 0 count)) 0 1
  product_start = record {
    so_far = sym (before_none f p 0 0 count (omega arith));
    none_passes = λ n l. subst (λ x. x ≤ greatest_number) (sym (before_none f p n 0 count l)) (omega arith);
    positive = omega arith;
  }

  -- what the scope lacks adds nothing to the product
  product_skip : (from v product : ℕ) → HasNoneBefore p from v → from ≤ v → ProductSoFar f (filter p (range_with_len 0 count)) from product → ProductSoFar f (filter p (range_with_len 0 count)) v product
  product_skip from v product none l s = record {
    so_far = s.so_far ∙ sym (same v l (omega arith));
    none_passes = λ n le. go n le (split n);
    positive = s.positive;
  }
    where
      split : (n : ℕ) → (n ≤ from) ⊎ (from ≤ n)
      split n = grind arith

      held : (u n : ℕ) → u < from → from ≤ n → ltb u n ≡ ltb u from
      held u n a b = grind (arith, nat_tests)

      lacking : (u n : ℕ) → n ≤ u → from ≤ n → ltb u n ≡ ltb u from
      lacking u n a b = grind (arith, nat_tests)

      where_is : (u n : ℕ) → (u < from) ⊎ ((n ≤ u) ⊎ ((from ≤ u) × (u < n)))
      where_is u n = grind arith

      tests : (u n : ℕ) → from ≤ n → n ≤ v → p u ≡ true → (u < from) ⊎ ((n ≤ u) ⊎ ((from ≤ u) × (u < n))) → ltb u n ≡ ltb u from
      tests u n a b t (inl k) = held u n k a
      tests u n a b t (inr (inl k)) = lacking u n k a
      tests u n a b t (inr (inr k)) = absurd (none u k.0 (omega (arith, k.1, b)) t)

      same : (n : ℕ) → from ≤ n → n ≤ v → product_before f scope n ≡ product_before f scope from
      same n a b = ap (nat_product_over f) (same_pass (λ u. ltb u n) (λ u. ltb u from) scope (λ u m. tests u n a b (inside u m).0 (where_is u n)))

      go : (n : ℕ) → n ≤ v → (n ≤ from) ⊎ (from ≤ n) → product_before f scope n ≤ greatest_number
      go n le (inl k) = s.none_passes n k
      go n le (inr k) = subst (λ x. x ≤ greatest_number) (sym (same n k le)) (s.none_passes from (omega arith))

  -- the scope's next node
  next : (v product : ℕ) → v < count → p v ≡ true → product ≡ product_before f scope v → product * f v ≡ product_before f scope (v + 1)
  next v product l t e = ap (λ x. x * f v) e ∙ ap (λ b. product_before f scope v * cond b (f v) 1) (sym t) ∙ sym (before_next f p v 0 count (omega arith) (omega arith))

  pub product_step : (from v product : ℕ) → HasNoneBefore p from v → from ≤ v → v < count → p v ≡ true → 0 < f v → ProductSoFar f (filter p (range_with_len 0 count)) from product
      → product * f v ≤ greatest_number → ProductSoFar f (filter p (range_with_len 0 count)) (v + 1) (product * f v)
  product_step from v product none m l t positive so small = record {
    so_far = next v product l t s.so_far;
    none_passes = λ n le. go n (split n v le);
    positive = mul-pos s.positive positive;
  }
    where
      s : ProductSoFar f scope v product
      s = product_skip from v product none m so

      split : (n v : ℕ) → n ≤ v + 1 → (n ≡ v + 1) ⊎ (n ≤ v)
      split n v le = grind arith

      go : (n : ℕ) → (n ≡ v + 1) ⊎ (n ≤ v) → product_before f scope n ≤ greatest_number
      go n (inl e) = subst (λ x. x ≤ greatest_number) (next v product l t s.so_far ∙ ap (λ m. product_before f scope m) (sym e)) small
      go n (inr k) = s.none_passes n k

  pub passes_here : (from v product : ℕ) → HasNoneBefore p from v → from ≤ v → v < count → p v ≡ true → ProductSoFar f (filter p (range_with_len 0 count)) from product
      → greatest_number < product * f v → PassesInScope f (filter p (range_with_len 0 count)) v
  passes_here from v product none m l t so wide = record {
    listed = contains_from_among scope v (filter_has p v (range_with_len 0 count) (range_has 0 count v (omega arith) (omega arith)) t);
    passes = subst (λ x. greatest_number < x) (next v product l t s.so_far) wide;
    first = s.none_passes;
  }
    where
      s : ProductSoFar f scope v product
      s = product_skip from v product none m so

  pub product_end : (from product : ℕ) → HasNoneBefore p from count → ProductSoFar f (filter p (range_with_len 0 count)) from product
      → (product ≡ nat_product_over f (filter p (range_with_len 0 count))) × (nat_product_over f (filter p (range_with_len 0 count)) ≤ greatest_number)
  product_end from product none s = (e, subst (λ x. x ≤ greatest_number) (sym s.so_far ∙ e) (s.none_passes from (omega arith)))
    where
      split : (u : ℕ) → (u < from) ⊎ (from ≤ u)
      split u = grind arith

      before : (u : ℕ) → u < from → ltb u from ≡ true
      before u k = grind (arith, nat_tests)

      test : (u : ℕ) → (p u ≡ true) × (u < count) → (u < from) ⊎ (from ≤ u) → ltb u from ≡ true
      test u h (inl k) = before u k
      test u h (inr k) = absurd (none u k h.1 h.0)

      e : product ≡ nat_product_over f scope
      e = s.so_far ∙ ap (nat_product_over f) (all_pass (λ u. ltb u from) scope (λ u k. test u (inside u k) (split u)))

-- a product that passes makes the bound fail, whatever the utilities
pub fails_by_product : (f : ℕ → ℕ) → ((v : ℕ) → 0 < f v) → (scope : List ℕ) (v decimals utilities : ℕ) → PassesInScope f scope v → greatest_number < nat_product_over f scope * max (10 ^ decimals) utilities
fails_by_product f positive scope v decimals utilities h = omega (arith, h.passes, filter_within f (λ u. ltb u (v + 1)) scope (positive_product f positive scope), scaled)
  where
    scale : 1 ≤ max (10 ^ decimals) utilities
    scale = omega (arith, pow-le-pow_right {n = 10} (omega arith) {i = 0} {j = decimals} (omega arith))

    scaled : nat_product_over f scope * 1 ≤ nat_product_over f scope * max (10 ^ decimals) utilities
    scaled = mul-le-mul_left (nat_product_over f scope) scale
