-- Greedy orders: one of the same items, and of one plan.
use Rattle.std.proofs.Common.{◌≡◌, ◌∙◌, ◌⊎◌, ◌↔◌, ℕ, zero, suc, ◌+◌, ◌<◌, ◌≤◌, Bool, true, false, cond, List, [], ◌∷◌, ◌++◌, length, take, get_or, refl, sym, ap, subst, inl, inr, arith}
use Rattle.std.specs.Prelude.{Contains, slice_index, sum_by, map}
use Rattle.std.specs.List.{AllZip}
use Rattle.std.proofs.lemmas.Bool.{cases_lt}
use Rattle.std.proofs.lemmas.List.{take_more, take_all, take-append-le, get_or_append_left, take_at, get_or_at, length_push}
use Rattle.std.proofs.lemmas.List.Elements.{Contains-push, Contains-append_left}
use Rattle.finite_sums.proofs.Lists.{decide_among}
use Rattle.finite_sums.proofs.Members.{among_from_contains, contains_from_among}
use Rattle.finite_sums.specs.Members.{Among}
use Rattle.maid_model.specs.Graph.{AllDifferent}
use Rattle.maid_model.specs.Views.{NodeView}
use Rattle.plan_sums.specs.Laws.{IsOrderOfPlan}
use Rattle.plan_sums.specs.Plans.{PlanView, has, eliminated_nodes}
use Rattle.size_precheck.proofs.Putting.{has_contains}
use Rattle.size_precheck.specs.declared.sizes.Size.{Size}
use Rattle.maid_model.specs.Bounds.{stopped}
use Rattle.size_precheck.specs.Greedy.{first_scopes, joined_cells, IsNext, IsGreedy, IsGreedyOrder}
use Rattle.size_precheck.specs.Sizes.{plan_cells, plan_work, HasSize, IsSizeOfAll, greatest}

pub next_same : (nodes : List NodeView) (P Q : ℕ → Type 0) (scopes : List (ℕ → Bool)) (steps : List ℕ) (v : ℕ) → ((x : ℕ) → P x ↔ Q x) → IsNext nodes P scopes steps v → IsNext nodes Q scopes steps v
next_same nodes P Q scopes steps v alike h = record {
  remains = ((alike v).0 h.remains.0, h.remains.1);
  fewest = λ w r. h.fewest w ((alike w).1 r.0, r.1);
  first = λ w r l. h.first w ((alike w).1 r.0, r.1) l;
}

pub greedy_same : (nodes : List NodeView) (P Q : ℕ → Type 0) (scopes : List (ℕ → Bool)) (steps : List ℕ) → ((x : ℕ) → P x ↔ Q x) → IsGreedy nodes P scopes steps → IsGreedy nodes Q scopes steps
greedy_same nodes P Q scopes steps alike h = record {
  each = λ k l. next_same nodes P Q scopes (take k steps) (slice_index steps k) alike (h.each k l);
  complete = λ v r. h.complete v ((alike v).1 r.0, r.1);
}

-- ---- each node of the plan once
abbrev IsNew : List ℕ → Type 0
IsNew steps = (k : ℕ) → k < length steps → Among (get_or steps k 0) (take k steps) → ⊥

at_place : (x : ℕ) (xs : List ℕ) → Among x xs → (i : ℕ) × (i < length xs) × (get_or xs i 0 ≡ x)
at_place x [] m = absurd m
at_place x (y ∷ ys) (inl e) = (0, omega arith, sym e)
at_place x (y ∷ ys) (inr m) = let a = at_place x ys m in let l = a.1 in (suc a.0, omega arith, a.2)

all_different : (steps : List ℕ) → IsNew steps → AllDifferent steps
all_different [] h = tt
all_different (x ∷ xs) h = (
  (λ c.
      let a = at_place x xs (among_from_contains xs x c) in
      let l = a.1 in
      let new = h (suc a.0) (omega arith) in new (inl a.2)),
  all_different xs (λ k l m. let new = h (suc k) (omega arith) in new (inr m)),
)

pub order_of_greedy : (nodes : List NodeView) (plan : PlanView) (steps : List ℕ) → IsGreedyOrder nodes plan steps → IsOrderOfPlan nodes plan steps
order_of_greedy nodes plan steps h = record {
  once = all_different steps (λ k l m. (h.each k l).remains.1 (contains_from_among (take k steps) (get_or steps k 0) m));
  all = λ v. (
    (λ c.
        let a = at_place v steps (among_from_contains steps v c) in
        subst (λ x. Contains (eliminated_nodes nodes plan) x) a.2 (h.each a.0 a.1).remains.0),
    (λ c. elim (decide_among v steps) as (λ _. Contains steps v) [ yes m ↦ contains_from_among steps v m | no n ↦ absurd (h.complete v (c, λ k. n (among_from_contains steps v k))) ]),
  );
}

-- ---- one order
three_ways : (a b : ℕ) → (a < b) ⊎ ((b < a) ⊎ (a ≡ b))
three_ways a b = grind arith

next_one : (nodes : List NodeView) (Item : ℕ → Type 0) (scopes : List (ℕ → Bool)) (steps : List ℕ) (u v : ℕ) → IsNext nodes Item scopes steps u → IsNext nodes Item scopes steps v → u ≡ v
next_one nodes Item scopes steps u v h k = elim (three_ways u v) as (λ _. u ≡ v) [
  | inl l ↦ let a = k.first u h.remains l in let b = h.fewest v k.remains in absurd (omega arith)
  | inr m ↦ elim m as (λ _. u ≡ v) [
    | inl l ↦ let a = h.first v k.remains l in let b = k.fewest u h.remains in absurd (omega arith)
    | inr e ↦ e
  ]
]

module _ (nodes : List NodeView) (Item : ℕ → Type 0) (scopes : List (ℕ → Bool)) where
  same_front : (a b : List ℕ) → IsGreedy nodes Item scopes a → IsGreedy nodes Item scopes b → (k : ℕ) → k ≤ length a → k ≤ length b → take k a ≡ take k b
  same_front a b h j zero l m = refl
  same_front a b h j (suc k) l m =
      let front : take k a ≡ take k b = same_front a b h j k (omega arith) (omega arith) in
      let in_a : k < length a = omega arith in
      let in_b : k < length b = omega arith in
      let next : get_or a k 0 ≡ get_or b k 0 = next_one nodes Item scopes (take k b) (get_or a k 0) (get_or b k 0)
      (subst (λ (xs : List ℕ). IsNext nodes Item scopes xs (get_or a k 0)) front (h.each k in_a)) (j.each k in_b) in
      let one : suc k ≡ k + 1 = omega arith in
      ap (λ n. take n a) one ∙ take_more a k 0 in_a ∙ ap (λ (xs : List ℕ). xs ++ get_or a k 0 ∷ []) front ∙ ap (λ x. take k b ++ x ∷ []) next ∙ sym (take_more b k 0 in_b) ∙ sym (ap (λ n. take n b) one)

  not_longer : (a b : List ℕ) → IsGreedy nodes Item scopes a → IsGreedy nodes Item scopes b → length a < length b → ⊥
  not_longer a b h j l =
      let front : take (length a) b ≡ a = sym (same_front a b h j (length a) (omega arith) (omega arith)) ∙ take_all (length a) a (omega arith) in
      let more = (j.each (length a) l).remains in
      h.complete (get_or b (length a) 0) (more.0, λ c. more.1 (subst (λ (xs : List ℕ). Contains xs (get_or b (length a) 0)) (sym front) c))

  pub one_order : (a b : List ℕ) → IsGreedy nodes Item scopes a → IsGreedy nodes Item scopes b → a ≡ b
  one_order a b h j = elim (three_ways (length a) (length b)) as (λ _. a ≡ b) [
    | inl l ↦ absurd (not_longer a b h j l)
    | inr m ↦ elim m as (λ _. a ≡ b) [
      | inl l ↦ absurd (not_longer b a j h l)
      | inr e ↦ sym (take_all (length a) a (omega arith)) ∙ same_front a b h j (length a) (omega arith) (omega arith) ∙ take_all (length a) b (omega arith)
    ]
  ]

-- a list of next ones with one more
pub next_more : (nodes : List NodeView) (Item : ℕ → Type 0) (scopes : List (ℕ → Bool)) (steps : List ℕ) (v : ℕ)
    → ((k : ℕ) → k < length steps → IsNext nodes Item scopes (take k steps) (get_or steps k 0)) → IsNext nodes Item scopes steps v
    → (k : ℕ) → k < length (steps ++ v ∷ []) → IsNext nodes Item scopes (take k (steps ++ v ∷ [])) (get_or (steps ++ v ∷ []) k 0)
next_more nodes Item scopes steps v each next k l = elim (cases_lt k (length steps)) as (λ _. IsNext nodes Item scopes (take k (steps ++ v ∷ [])) (get_or (steps ++ v ∷ []) k 0)) [
  | inl lt ↦ rw (take-append-le k steps (v ∷ []) (omega arith), get_or_append_left steps (v ∷ []) 0 k lt) (each k lt)
  | inr g ↦
      let e : length steps ≡ k = let m = length_push steps v in omega arith in
      rw (take_at steps (v ∷ []) k e, get_or_at steps v [] 0 k e) next
]

-- ---- some order
module _ (nodes : List NodeView) (items : List ℕ) (scopes : List (ℕ → Bool)) where
  abbrev cost : List ℕ → ℕ → ℕ
  cost steps v = joined_cells nodes scopes steps v

  -- v is taken before w, or is w
  abbrev Before : List ℕ → ℕ → ℕ → Type 0
  Before steps v w = (cost steps v < cost steps w) ⊎ ((cost steps v ≡ cost steps w) × (v ≤ w))

  before_either : (a b v w : ℕ) → ((a < b) ⊎ ((a ≡ b) × (v ≤ w))) ⊎ ((b < a) ⊎ ((b ≡ a) × (w ≤ v)))
  before_either a b v w = elim (three_ways a b) as (λ _. ((a < b) ⊎ ((a ≡ b) × (v ≤ w))) ⊎ ((b < a) ⊎ ((b ≡ a) × (w ≤ v)))) [
    | inl l ↦ inl (inl l)
    | inr m ↦ elim m as (λ _. ((a < b) ⊎ ((a ≡ b) × (v ≤ w))) ⊎ ((b < a) ⊎ ((b ≡ a) × (w ≤ v)))) [
      | inl l ↦ inr (inl l)
      | inr e ↦ elim (three_ways v w) as (λ _. ((a < b) ⊎ ((a ≡ b) × (v ≤ w))) ⊎ ((b < a) ⊎ ((b ≡ a) × (w ≤ v)))) [
        | inl l ↦ inl (inr (e, omega arith))
        | inr k ↦ inr (inr (sym e, elim k as (λ _. w ≤ v) [ inl l ↦ omega arith | inr f ↦ omega arith ]))
      ]
    ]
  ]

  before_then : (a b c u v w : ℕ) → (a < b) ⊎ ((a ≡ b) × (u ≤ v)) → (b < c) ⊎ ((b ≡ c) × (v ≤ w)) → (a < c) ⊎ ((a ≡ c) × (u ≤ w))
  before_then a b c u v w (inl l) (inl m) = inl (omega arith)
  before_then a b c u v w (inl l) (inr (e, m)) = inl (omega arith)
  before_then a b c u v w (inr (e, l)) (inl m) = inl (omega arith)
  before_then a b c u v w (inr (e, l)) (inr (f, m)) = inr (e ∙ f, omega arith)

  -- the best of those of a list that are no steps yet
  record Best (steps xs : List ℕ) (v : ℕ) : Type 0 where
    among : Among v xs
    new : Among v steps → ⊥
    least : (w : ℕ) → Among w xs → (Among w steps → ⊥) → Before steps v w

  abbrev NoneNew : List ℕ → List ℕ → Type 0
  NoneNew steps xs = (w : ℕ) → Among w xs → (Among w steps → ⊥) → ⊥

  find_best : (steps xs : List ℕ) → ((v : ℕ) × Best steps xs v) ⊎ NoneNew steps xs
  find_best steps [] = inr (λ w m n. m)
  find_best steps (x ∷ xs) = go (decide_among x steps) (find_best steps xs)
    where
      go : Dec (Among x steps) → ((v : ℕ) × Best steps xs v) ⊎ NoneNew steps xs → ((v : ℕ) × Best steps (x ∷ xs) v) ⊎ NoneNew steps (x ∷ xs)
      go (yes old) (inl (v, b)) = inl (v, record { among = inr b.among; new = b.new; least = λ w m n. elim m as (λ _. Before steps v w) [ inl e ↦ absurd (n (subst (λ y. Among y steps) (sym e) old)) | inr k ↦ b.least w k n ] })
      go (yes old) (inr none) = inr (λ w m n. elim m as (λ _. ⊥) [ inl e ↦ n (subst (λ y. Among y steps) (sym e) old) | inr k ↦ none w k n ])
      go (no new) (inr none) = inl (x, record { among = inl refl; new = new; least = λ w m n. elim m as (λ _. Before steps x w) [ inl e ↦ inr (ap (cost steps) (sym e), omega arith) | inr k ↦ absurd (none w k n) ] })
      go (no new) (inl (v, b)) = inl (elim (before_either (cost steps x) (cost steps v) x v) as (λ _. (u : ℕ) × Best steps (x ∷ xs) u) [
        | inl h ↦ (
          x,
          record {
            among = inl refl;
            new = new;
            least = λ w m n. elim m as (λ _. Before steps x w) [
              | inl e ↦ inr (ap (cost steps) (sym e), omega arith)
              | inr k ↦ before_then (cost steps x) (cost steps v) (cost steps w) x v w h (b.least w k n)
            ];
          },
        )
        | inr h ↦ (
          v,
          record {
            among = inr b.among;
            new = b.new;
            least = λ w m n. elim m as (λ _. Before steps v w) [
              | inl e ↦ subst (λ y. Before steps v y) (sym e) h
              | inr k ↦ b.least w k n
            ];
          },
        )
      ])

  best_next : (steps : List ℕ) (v : ℕ) → Best steps items v → IsNext nodes (Contains items) scopes steps v
  best_next steps v b = record {
    remains = (contains_from_among items v b.among, λ c. b.new (among_from_contains steps v c));
    fewest = λ w r. no_more w (b.least w (among_from_contains items w r.0) (λ m. r.1 (contains_from_among steps w m)));
    first = λ w r l. fewer w l (b.least w (among_from_contains items w r.0) (λ m. r.1 (contains_from_among steps w m)));
  }
    where
      no_more : (w : ℕ) → Before steps v w → cost steps v ≤ cost steps w
      no_more w (inl l) = omega arith
      no_more w (inr (e, l)) = omega arith

      fewer : (w : ℕ) → w < v → Before steps v w → cost steps v < cost steps w
      fewer w k (inl l) = l
      fewer w k (inr (e, l)) = absurd (omega arith)

  -- how many of a list are no steps yet
  abbrev left : List ℕ → List ℕ → ℕ
  left steps [] = 0
  left steps (x ∷ xs) = cond (has steps x) 0 1 + left steps xs

  stays : (steps : List ℕ) (v x : ℕ) → has steps x ≡ true → has (steps ++ v ∷ []) x ≡ true
  stays steps v x e = (has_contains (steps ++ v ∷ []) x).1 (Contains-append_left steps (v ∷ []) x ((has_contains steps x).0 e))

  left_less : (steps xs : List ℕ) (v : ℕ) → left (steps ++ v ∷ []) xs ≤ left steps xs
  left_less steps [] v = omega arith
  left_less steps (x ∷ xs) v = go (has steps x) (has (steps ++ v ∷ []) x) (stays steps v x) (left_less steps xs v)
    where
      go : (a b : Bool) → (a ≡ true → b ≡ true) → left (steps ++ v ∷ []) xs ≤ left steps xs → cond b 0 1 + left (steps ++ v ∷ []) xs ≤ cond a 0 1 + left steps xs
      go true true f l = omega arith
      go true false f l = absurd (let e = f refl in cc)
      go false true f l = omega arith
      go false false f l = omega arith

  left_fewer : (steps xs : List ℕ) (v : ℕ) → Among v xs → (Among v steps → ⊥) → left (steps ++ v ∷ []) xs < left steps xs
  left_fewer steps [] v m n = absurd m
  left_fewer steps (x ∷ xs) v (inl e) n = go (has steps x) (has (steps ++ v ∷ []) x) old new (left_less steps xs v)
    where
      old : has steps x ≡ true → ⊥
      old h = n (among_from_contains steps v (subst (λ y. Contains steps y) (sym e) ((has_contains steps x).0 h)))

      new : has (steps ++ v ∷ []) x ≡ true
      new = (has_contains (steps ++ v ∷ []) x).1 (subst (λ y. Contains (steps ++ v ∷ []) y) e (Contains-push steps v))

      go : (a b : Bool) → (a ≡ true → ⊥) → b ≡ true → left (steps ++ v ∷ []) xs ≤ left steps xs → cond b 0 1 + left (steps ++ v ∷ []) xs < cond a 0 1 + left steps xs
      go true b f g l = absurd (f refl)
      go false true f g l = omega arith
      go false false f g l = absurd (cc)
  left_fewer steps (x ∷ xs) v (inr m) n = go (has steps x) (has (steps ++ v ∷ []) x) (stays steps v x) (left_fewer steps xs v m n)
    where
      go : (a b : Bool) → (a ≡ true → b ≡ true) → left (steps ++ v ∷ []) xs < left steps xs → cond b 0 1 + left (steps ++ v ∷ []) xs < cond a 0 1 + left steps xs
      go true true f l = omega arith
      go true false f l = absurd (let e = f refl in cc)
      go false true f l = omega arith
      go false false f l = omega arith

  abbrev Result : Type 0
  Result = (order : List ℕ) × IsGreedy nodes (Contains items) scopes order

  extend : (fuel : ℕ) (steps : List ℕ) → left steps items ≤ fuel → ((k : ℕ) → k < length steps → IsNext nodes (Contains items) scopes (take k steps) (get_or steps k 0)) → Result
  extend zero steps few each = go (find_best steps items)
    where
      go : ((v : ℕ) × Best steps items v) ⊎ NoneNew steps items → Result
      go (inr none) = (steps, record { each = each; complete = λ v r. none v (among_from_contains items v r.0) (λ m. r.1 (contains_from_among steps v m)) })
      go (inl (v, b)) = let l = left_fewer steps items v b.among b.new in absurd (omega arith)
  extend (suc fuel) steps few each = go (find_best steps items) (λ v l e. extend fuel (steps ++ v ∷ []) l e)
    where
      go : ((v : ℕ) × Best steps items v) ⊎ NoneNew steps items
          → ((v : ℕ) → left (steps ++ v ∷ []) items ≤ fuel → ((k : ℕ) → k < length (steps ++ v ∷ []) → IsNext nodes (Contains items) scopes (take k (steps ++ v ∷ [])) (get_or (steps ++ v ∷ []) k 0)) → Result) → Result
      go (inr none) rec = (steps, record { each = each; complete = λ v r. none v (among_from_contains items v r.0) (λ m. r.1 (contains_from_among steps v m)) })
      go (inl (v, b)) rec = let l = left_fewer steps items v b.among b.new in rec v (omega arith) (next_more nodes (Contains items) scopes steps v each (best_next steps v b))

  pub greedy_order : Result
  greedy_order = extend (left [] items) [] (omega arith) (λ k l. absurd (omega arith))

-- ---- one size
one_plan_size : (nodes : List NodeView) (plan : PlanView) (a b : Size) → HasSize nodes plan a → HasSize nodes plan b → a ≡ b
one_plan_size nodes plan a b h k =
    let steps : h.0 ≡ k.0 = one_order nodes (Contains (eliminated_nodes nodes plan)) (first_scopes nodes plan) h.0 k.0 h.1.greedy k.1.greedy in
    let cells : a.cells ≡ b.cells = h.1.cells ∙ ap (λ (xs : List ℕ). plan_cells nodes plan xs) steps ∙ sym k.1.cells in
    let work : a.work ≡ b.work = h.1.work ∙ ap (λ (xs : List ℕ). plan_work nodes plan xs) steps ∙ sym k.1.work in
    λ i. record { cells = cells i; work = work i }

same_sizes : (nodes : List NodeView) (plans : List PlanView) (xs ys : List Size) → AllZip (HasSize nodes) plans xs → AllZip (HasSize nodes) plans ys → xs ≡ ys
same_sizes nodes [] [] [] h k = refl
same_sizes nodes [] [] (y ∷ ys) h k = absurd k
same_sizes nodes [] (x ∷ xs) ys h k = absurd h
same_sizes nodes (p ∷ ps) [] ys h k = absurd h
same_sizes nodes (p ∷ ps) (x ∷ xs) [] h k = absurd k
same_sizes nodes (p ∷ ps) (x ∷ xs) (y ∷ ys) h k =
    ap (λ (s : Size). s ∷ xs) (one_plan_size nodes p x y h.0 k.0) ∙ ap (λ (ss : List Size). y ∷ ss) (same_sizes nodes ps xs ys h.1 k.1)

pub one_size : (nodes : List NodeView) (plans : List PlanView) (a b : Size) → IsSizeOfAll nodes plans a → IsSizeOfAll nodes plans b → a ≡ b
one_size nodes plans a b h k =
    let same = same_sizes nodes plans h.sizes k.sizes h.each k.each in
    let cells : a.cells ≡ b.cells = h.cells ∙ ap (λ (ss : List Size). greatest (map (λ s. s.cells) ss)) same ∙ sym k.cells in
    let work : a.work ≡ b.work = h.work ∙ ap (λ (ss : List Size). stopped (sum_by (λ s. s.work) ss)) same ∙ sym k.work in
    λ i. record { cells = cells i; work = work i }
