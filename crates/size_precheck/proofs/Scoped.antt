-- The joints' sets and counts are those of the live scopes.
use Rattle.std.proofs.Common.{◌≡◌, ◌∙◌, ◌↔◌, ℕ, zero, suc, ◌+◌, ◌*◌, ◌<◌, ◌≤◌, Bool, true, false, cond, not, ◌&&◌, eqb, filter, List, [], ◌∷◌, ◌++◌, length, get_or, refl, sym, ap, inl, inr, arith}
use Rattle.std.proofs.Math.Path.{fun_ext}
use Rattle.std.proofs.Math.Decide.{ℕ_discrete}
use Rattle.std.proofs.lemmas.Bool.Decides.{nat_tests}
use Rattle.std.proofs.lemmas.List.{get_or_past, length-map}
use Rattle.std.specs.List.{range_with_len}
use Rattle.finite_sums.proofs.Counts.{true_or_false}
use Rattle.finite_sums.specs.Sums.{nat_product_over}
use Rattle.maid_model.specs.Nodes.{no_node, states_of, numbers_of}
use Rattle.maid_model.specs.Views.{NodeView}
use Rattle.node_sets.specs.Sets.{holds, IsIn}
use Rattle.node_sets.specs.declared.sets.NodeSet.{NodeSet}
use Rattle.ring_sums.specs.Tables.{joined_without, scopes_one}
use Rattle.ring_sums.proofs.Same.{map_append, map_filter}
use Rattle.size_precheck.specs.declared.joints.Joint.{Joint}
use Rattle.size_precheck.specs.declared.joints.Table.{Table}
use Rattle.maid_model.specs.Bounds.{stopped}
use Rattle.size_precheck.specs.Counts.{counted_cells}
use Rattle.size_precheck.specs.Greedy.{holding, joined_set}
use Rattle.size_precheck.specs.Joints.{members_below, member_count, product_below, factor, counted_over, AreStateCounts, tests_of, SomeOf, HoldsOfEach, TagsDiffer, Tells, AreLive}
use Rattle.size_precheck.proofs.Counting.{members_gap, product_gap}
use Rattle.size_precheck.proofs.Somewhere.{some_map, some_filter, filter_some, any_some, some_any, some_mapped, mapped_some, each_filter, same_test, not_true, true_not, and_left, and_right, and_both}
use Rattle.size_precheck.proofs.Live.{with_v, without_v, differ_filter}

-- ---- as many members as different tags
members_same : (f g : ℕ → Bool) (n : ℕ) → ((x : ℕ) → x < n → f x ≡ g x) → members_below f n ≡ members_below g n
members_same f g zero h = refl
members_same f g (suc n) h = let a = members_same f g n (λ x l. h x (omega arith)) in let b = h n (omega arith) in cc

abbrev but : (ℕ → Bool) → ℕ → ℕ → Bool
but test v x = test x && not (eqb x v)

but_other : (test : ℕ → Bool) (v x : ℕ) → (x ≡ v → ⊥) → but test v x ≡ test x
but_other test v x n = go (test x) (eqb x v) (grind (arith, nat_tests))
  where
    go : (a b : Bool) → b ≡ false → (a && not b) ≡ a
    go true b e = ap not e
    go false b e = refl

but_own : (test : ℕ → Bool) (v : ℕ) → but test v v ≡ false
but_own test v = go (test v) (eqb v v) (grind (arith, nat_tests))
  where
    go : (a b : Bool) → b ≡ true → (a && not b) ≡ false
    go true b e = ap not e
    go false b e = refl

one_less : (test : ℕ → Bool) (v n : ℕ) → v < n → test v ≡ true → members_below test n ≡ suc (members_below (but test v) n)
one_less test v zero l e = absurd (omega arith)
one_less test v (suc n) l e = go (ℕ_discrete v n) (one_less test v n)
  where
    below : (v n : ℕ) → v < suc n → (v ≡ n → ⊥) → v < n
    below v n l m = omega arith

    apart : (x n : ℕ) → x < n → n ≡ x → ⊥
    apart x n l e = omega arith

    moved : (a b : ℕ) → suc a + b ≡ suc (a + b)
    moved a b = omega arith

    go : Dec (v ≡ n) → (v < n → test v ≡ true → members_below test n ≡ suc (members_below (but test v) n)) → members_below test (suc n) ≡ suc (members_below (but test v) (suc n))
    go (yes is) rec =
        let same : members_below (but test v) n ≡ members_below test n = members_same (but test v) test n (λ x k. but_other test v x (λ f. apart x n k (sym is ∙ sym f))) in
        let here : test n ≡ true = ap test (sym is) ∙ e in
        let gone : but test v n ≡ false = ap (but test v) (sym is) ∙ but_own test v in
        let between : members_below test n + 1 ≡ suc (members_below (but test v) n + 0) = omega arith in
        ap (λ b. members_below test n + cond b 1 0) here ∙ between ∙ ap (λ b. suc (members_below (but test v) n + cond b 1 0)) (sym gone)
    go (no n_is) rec =
        let r : members_below test n ≡ suc (members_below (but test v) n) = rec (below v n l n_is) e in
        ap (λ m. m + cond (test n) 1 0) r ∙ moved (members_below (but test v) n) (cond (test n) 1 0) ∙ ap (λ b. suc (members_below (but test v) n + cond b 1 0)) (sym (but_other test v n (λ f. n_is (sym f))))

pub tags_counted : (ts : List Table) (n : ℕ) (test : ℕ → Bool) → HoldsOfEach (λ t. t.tag < n) ts → TagsDiffer ts → ((x : ℕ) → (test x ≡ true) ↔ SomeOf (λ t. t.tag ≡ x) ts) → members_below test n ≡ length ts
tags_counted [] n test small differ is = members_gap test 0 n (omega arith) (λ w _ _. elim (true_or_false (test w)) as (λ _. test w ≡ false) [ inl e ↦ absurd ((is w).0 e) | inr e ↦ e ])
tags_counted (t ∷ ts) n test small differ is =
    one_less test t.tag n small.0 ((is t.tag).1 (inl refl))
    ∙ ap suc (tags_counted ts n (but test t.tag) small.1 differ.1 (λ x. (
      (λ e. elim ((is x).0 (and_left (test x) _ e)) as (λ _. SomeOf (λ s. s.tag ≡ x) ts) [ inl f ↦ absurd (not_true _ (and_right (test x) _ e) (same_numbers x t.tag (sym f))) | inr s ↦ s ]),
      (λ s. and_both (test x) _ ((is x).1 (inr s)) (true_not _ (λ f. differ.0 (some_map (λ u. u.tag ≡ x) (λ u. u.tag ≡ t.tag) (λ u g. g ∙ numbers_same x t.tag f) ts s)))),
    )))
  where
    same_numbers : (a b : ℕ) → a ≡ b → eqb a b ≡ true
    same_numbers a b e = grind (arith, nat_tests)

    numbers_same : (a b : ℕ) → eqb a b ≡ true → a ≡ b
    numbers_same a b e = grind (arith, nat_tests)

pub tables_counted : (Waiting : ℕ → Type 0) (live : List Table) (v : ℕ) (gone : NodeSet) → AreLive Waiting live
    → ((x : ℕ) → IsIn gone x ↔ SomeOf (λ t. (t.tag ≡ x) × IsIn t.scope v) live) → member_count gone ≡ length (with_v v live)
unfolding member_count
tables_counted Waiting live v gone h gone_is =
    tags_counted (with_v v live) 256 (holds gone) (each_filter (λ t. t.tag < 256) (λ t. t.tag < 256) (λ t. holds t.scope v) (λ t _ k. k) live h.small) (differ_filter (λ t. holds t.scope v) live h.differ) (λ x. (
      (λ m. filter_some (λ t. t.tag ≡ x) (λ t. holds t.scope v) live (some_map (λ t. (t.tag ≡ x) × IsIn t.scope v) (λ t. IsIn t.scope v × (t.tag ≡ x)) (λ t k. (k.1, k.0)) live ((gone_is x).0 m))),
      (λ s. (gone_is x).1 (some_map (λ t. IsIn t.scope v × (t.tag ≡ x)) (λ t. (t.tag ≡ x) × IsIn t.scope v) (λ t k. (k.1, k.0)) live (some_filter (λ t. t.tag ≡ x) (λ t. holds t.scope v) live s))),
    ))

-- ---- the live scopes
abbrev in_test : Table → ℕ → Bool
in_test t = holds t.scope

pub holding_counted : (live : List Table) (v : ℕ) → length (holding v (tests_of live)) ≡ length (with_v v live)
holding_counted live v = ap length (sym (map_filter in_test (λ s. s v) live)) ∙ length-map (with_v v live) in_test

-- the joined set by its tables
pub joined_some : (live : List Table) (v u : ℕ) → (joined_set v (tests_of live) u ≡ true) ↔ SomeOf (λ t. IsIn t.scope v × IsIn t.scope u) live
joined_some live v u = (
  (λ e. some_mapped (λ s. (s v ≡ true) × (s u ≡ true)) in_test live (some_filter (λ s. s u ≡ true) (λ s. s v) (tests_of live) (any_some (λ s. s u) (holding v (tests_of live)) e))),
  (λ h. some_any (λ s. s u) (holding v (tests_of live)) (filter_some (λ s. s u ≡ true) (λ s. s v) (tests_of live) (mapped_some (λ s. (s v ≡ true) × (s u ≡ true)) in_test live h))),
)

pub set_told : (live : List Table) (v : ℕ) (joint : Joint) → Tells live v joint → (u : ℕ) → holds joint.set u ≡ joined_set v (tests_of live) u
set_told live v joint tells u = same_test _ _ (λ m. (joined_some live v u).1 ((tells.set u).0 m)) (λ e. (tells.set u).1 ((joined_some live v u).0 e))

pub made_told : (live : List Table) (v : ℕ) (made : NodeSet) → ((u : ℕ) → IsIn made u ↔ (SomeOf (λ t. IsIn t.scope v × IsIn t.scope u) live × (u ≡ v → ⊥)))
    → (u : ℕ) → holds made u ≡ joined_without v (holding v (tests_of live)) u
made_told live v made scope u = same_test _ _
    (λ m. and_both _ _ ((joined_some live v u).1 ((scope u).0 m).0) (true_not _ (λ e. ((scope u).0 m).1 (numbers_same u v e))))
    (λ e. (scope u).1 ((joined_some live v u).0 (and_left _ _ e), λ is. not_true _ (and_right _ _ e) (same_numbers u v is)))
  where
    same_numbers : (a b : ℕ) → a ≡ b → eqb a b ≡ true
    same_numbers a b e = grind (arith, nat_tests)

    numbers_same : (a b : ℕ) → eqb a b ≡ true → a ≡ b
    numbers_same a b e = grind (arith, nat_tests)

-- a step makes the scopes of a step
pub step_scopes : (live : List Table) (v : ℕ) (made : Table) → ((u : ℕ) → holds made.scope u ≡ joined_without v (holding v (tests_of live)) u)
    → tests_of (without_v v live ++ made ∷ []) ≡ scopes_one v (tests_of live)
step_scopes live v made told =
    map_append in_test (without_v v live) (made ∷ [])
    ∙ ap (λ (ss : List (ℕ → Bool)). ss ++ in_test made ∷ []) (map_filter in_test (λ s. not (s v)) live)
    ∙ ap (λ (s : ℕ → Bool). filter (λ s. not (s v)) (tests_of live) ++ s ∷ []) (fun_ext told)

-- ---- cells
product_range : (f : ℕ → ℕ) (k n : ℕ) → product_below f k * nat_product_over f (range_with_len k n) ≡ product_below f (k + n)
product_range f k zero = let e : product_below f k * 1 ≡ product_below f k = omega arith in let z : k ≡ k + 0 = omega arith in e ∙ ap (λ n. product_below f n) z
product_range f k (suc n) =
    let rest = nat_product_over f (range_with_len (k + 1) n) in
    let next : suc k ≡ k + 1 = omega arith in
    let z : (k + 1) + n ≡ k + suc n = omega arith in
    sym (mul_assoc (product_below f k) (f k) rest) ∙ ap (λ m. product_below f m * rest) next ∙ product_range f (k + 1) n ∙ ap (λ n. product_below f n) z
  where
    mul_assoc : (a b c : ℕ) → (a * b) * c ≡ a * (b * c)
    mul_assoc a b c = grind arith

pub product_listed : (f : ℕ → ℕ) (n : ℕ) → nat_product_over f (range_with_len 0 n) ≡ product_below f n
product_listed f n = let e : nat_product_over f (range_with_len 0 n) ≡ 1 * nat_product_over f (range_with_len 0 n) = omega arith in e ∙ product_range f 0 n ∙ ap (λ n. product_below f n) (omega arith)

pub cells_counted : (nodes : List NodeView) (states : List ℕ) (set : NodeSet) (scope : ℕ → Bool) → AreStateCounts nodes states
    → ((u : ℕ) → holds set u ≡ scope u) → counted_over states (holds set) ≡ counted_cells nodes scope
unfolding counted_over
cells_counted nodes states set scope are told =
    ap (λ n. stopped n)
    (product_gap (factor states (holds set)) (length nodes) 256 are.few (λ w past _. past_one w past (holds set w))
    ∙ sym (product_listed (factor states (holds set)) (length nodes))
    ∙ ap (λ (f : ℕ → ℕ). nat_product_over f (numbers_of nodes)) (fun_ext (λ u. same_factor u)))
  where
    past_one : (w : ℕ) → length nodes ≤ w → (b : Bool) → cond b (get_or states w 1) 1 ≡ 1
    past_one w past true = are.each w ∙ ap (λ (n : NodeView). n.states) (get_or_past nodes w no_node past)
    past_one w past false = refl

    same_factor : (u : ℕ) → factor states (holds set) u ≡ cond (scope u) (states_of nodes u) 1
    same_factor u = ap (λ b. cond b (get_or states u 1) 1) (told u) ∙ ap (λ n. cond (scope u) n 1) (are.each u)
