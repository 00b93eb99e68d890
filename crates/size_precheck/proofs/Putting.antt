-- First tables, as they are put one after the other.
use Rattle.std.proofs.Common.{◌≡◌, ◌∙◌, ◌⊎◌, ◌↔◌, ℕ, suc, ◌+◌, ◌<◌, ◌≤◌, Bool, true, false, ◌||◌, eqb, map, List, [], ◌∷◌, ◌++◌, length, take, drop, refl, sym, ap, subst, inl, inr, arith}
use Rattle.std.specs.Prelude.{Contains, sum_by}
use Rattle.std.proofs.Math.Path.{fun_ext}
use Rattle.std.proofs.lemmas.Bool.{cases_lt}
use Rattle.std.proofs.lemmas.Bool.Decides.{nat_tests}
use Rattle.std.proofs.lemmas.List.{length_push, take-append-le, take_all}
use Rattle.std.proofs.lemmas.List.Sums.{sum_by_push}
use Rattle.finite_sums.proofs.Members.{among_from_contains, contains_from_among}
use Rattle.finite_sums.specs.Members.{Among}
use Rattle.maid_model.specs.declared.limits.TheConstants.{COUNT_END}
use Rattle.maid_model.specs.Nodes.{parents_of}
use Rattle.maid_model.specs.Views.{NodeView}
use Rattle.node_sets.specs.Sets.{holds, IsIn, IsFirstFrom}
use Rattle.node_sets.specs.declared.sets.NodeSet.{NodeSet}
use Rattle.plan_sums.specs.Plans.{has}
use Rattle.ring_sums.proofs.Same.{map_append}
use Rattle.size_precheck.specs.declared.joints.Known.{Known}
use Rattle.size_precheck.specs.declared.joints.Table.{Table}
use Rattle.size_precheck.specs.declared.simulation.Start.{Start}
use Rattle.maid_model.specs.Bounds.{stopped}
use Rattle.maid_model.proofs.Found.{eqb_yes}
use Rattle.size_precheck.specs.Counts.{counted_cells}
use Rattle.size_precheck.specs.Families.{IsJointAmong, IsOfFamily}
use Rattle.size_precheck.specs.Joints.{counted_over, joint_in, AllStayCounted, AreStateCounts, IsCountedIn, SomeOf, HoldsOfEach, TagsDiffer, Tells, TellsOneMore, AreLive, tests_of, Rising, IsListOf, IsGreedyStart, family_test, parents_test}
use Rattle.size_precheck.proofs.Counting.{stop_part}
use Rattle.size_precheck.proofs.Lists.{IsListTo, list_more, list_done}
use Rattle.size_precheck.proofs.Live.{differ_push}
use Rattle.size_precheck.proofs.Scoped.{cells_counted}
use Rattle.size_precheck.proofs.Somewhere.{some_map, some_mapped, any_some, some_any, each_some, each_push, each_map, same_test, some_never}

-- ---- scopes as tests
some_among : (v : ℕ) (list : List ℕ) → SomeOf (λ x. x ≡ v) list → Among v list
some_among v [] s = s
some_among v (x ∷ xs) (inl e) = inl (sym e)
some_among v (x ∷ xs) (inr s) = inr (some_among v xs s)

among_some : (v : ℕ) (list : List ℕ) → Among v list → SomeOf (λ x. x ≡ v) list
among_some v [] s = s
among_some v (x ∷ xs) (inl e) = inl (sym e)
among_some v (x ∷ xs) (inr s) = inr (among_some v xs s)

pub contains_some : (v : ℕ) (list : List ℕ) → Contains list v → SomeOf (λ x. x ≡ v) list
contains_some v list m = among_some v list (among_from_contains list v m)

pub some_contains : (v : ℕ) (list : List ℕ) → SomeOf (λ x. x ≡ v) list → Contains list v
some_contains v list s = contains_from_among list v (some_among v list s)

numbers_same : (a b : ℕ) → eqb a b ≡ true → a ≡ b
numbers_same a b e = grind (arith, nat_tests)

pub has_contains : (list : List ℕ) (v : ℕ) → (has list v ≡ true) ↔ Contains list v
has_contains list v = (
  (λ e. some_contains v list (some_map (λ x. eqb x v ≡ true) (λ x. x ≡ v) (λ x f. numbers_same x v f) list (any_some (λ x. eqb x v) list e))),
  (λ m. some_any (λ x. eqb x v) list (some_map (λ x. x ≡ v) (λ x. eqb x v ≡ true) (λ x f. eqb_yes x v f) list (contains_some v list m))),
)

pub family_told : (nodes : List NodeView) (v : ℕ) (scope : NodeSet) → ((u : ℕ) → IsIn scope u ↔ ((u ≡ v) ⊎ Contains (parents_of nodes v) u)) → (u : ℕ) → holds scope u ≡ family_test nodes v u
family_told nodes v scope is u = same_test _ _
    (λ m. elim ((is u).0 m) as (λ _. (eqb v u || has (parents_of nodes v) u) ≡ true) [
      | inl e ↦ ap (λ b. b || has (parents_of nodes v) u) (eqb_yes v u (sym e))
      | inr k ↦ right (eqb v u) _ ((has_contains (parents_of nodes v) u).1 k)
    ])
    (λ e. (is u).1 (elim (either (eqb v u) _ e) as (λ _. (u ≡ v) ⊎ Contains (parents_of nodes v) u) [ inl f ↦ inl (sym (numbers_same v u f)) | inr f ↦ inr ((has_contains (parents_of nodes v) u).0 f) ]))
  where
    right : (a b : Bool) → b ≡ true → (a || b) ≡ true
    right true b e = refl
    right false b e = e

    either : (a b : Bool) → (a || b) ≡ true → (a ≡ true) ⊎ (b ≡ true)
    either true b e = inl refl
    either false b e = inr e

pub parents_told : (nodes : List NodeView) (v : ℕ) (scope : NodeSet) → ((u : ℕ) → IsIn scope u ↔ Contains (parents_of nodes v) u) → (u : ℕ) → holds scope u ≡ parents_test nodes v u
parents_told nodes v scope is u = same_test _ _ (λ m. (has_contains (parents_of nodes v) u).1 ((is u).0 m)) (λ e. (is u).1 ((has_contains (parents_of nodes v) u).0 e))

-- ---- rising lists
-- with the same members they are one
pub rising_same : (xs ys : List ℕ) → Rising xs → Rising ys → ((v : ℕ) → SomeOf (λ x. x ≡ v) xs → SomeOf (λ x. x ≡ v) ys) → ((v : ℕ) → SomeOf (λ x. x ≡ v) ys → SomeOf (λ x. x ≡ v) xs) → xs ≡ ys
rising_same [] [] r s f g = refl
rising_same [] (y ∷ ys) r s f g = absurd (g y (inl refl))
rising_same (x ∷ xs) [] r s f g = absurd (f x (inl refl))
rising_same (x ∷ xs) (y ∷ ys) r s f g =
    let heads : x ≡ y = same (f x (inl refl)) (g y (inl refl)) in
    let tails : xs ≡ ys = rising_same xs ys r.1 s.1
    (λ v m. elim (f v (inr m)) as (λ _. SomeOf (λ x. x ≡ v) ys) [ inl e ↦ absurd (above x v xs r.0 m (heads ∙ e)) | inr k ↦ k ])
    (λ v m. elim (g v (inr m)) as (λ _. SomeOf (λ x. x ≡ v) xs) [ inl e ↦ absurd (above y v ys s.0 m (sym heads ∙ e)) | inr k ↦ k ]) in
    cc
  where
    above : (a v : ℕ) (zs : List ℕ) → HoldsOfEach (λ z. a < z) zs → SomeOf (λ z. z ≡ v) zs → a ≡ v → ⊥
    above a v zs h m e = some_never (λ z. (a < z) × (z ≡ v)) zs (λ z k. let l = k.0 in let f = k.1 in absurd (omega arith)) (each_some (λ z. a < z) (λ z. z ≡ v) zs h m)

    less : (a v : ℕ) (zs : List ℕ) → HoldsOfEach (λ z. a < z) zs → SomeOf (λ z. z ≡ v) zs → a < v
    less a v zs h m = pick zs (each_some (λ z. a < z) (λ z. z ≡ v) zs h m)
      where
        pick : (ws : List ℕ) → SomeOf (λ z. (a < z) × (z ≡ v)) ws → a < v
        pick [] k = absurd k
        pick (w ∷ ws) (inl k) = let l = k.0 in let f = k.1 in omega arith
        pick (w ∷ ws) (inr k) = pick ws k

    same : SomeOf (λ z. z ≡ x) (y ∷ ys) → SomeOf (λ z. z ≡ y) (x ∷ xs) → x ≡ y
    same (inl e) k = sym e
    same (inr m) (inl e) = e
    same (inr m) (inr k) = let a = less y x ys s.0 m in let b = less x y xs r.0 k in absurd (omega arith)

abbrev pub tags_of : List Table → List ℕ
tags_of tables = map (λ t. t.tag) tables

each_tag : (P : ℕ → Type 0) (tables : List Table) → HoldsOfEach P (tags_of tables) → HoldsOfEach (λ t. P t.tag) tables
each_tag P [] h = tt
each_tag P (t ∷ ts) h = (h.0, each_tag P ts h.1)

differ_rising : (tables : List Table) → Rising (tags_of tables) → TagsDiffer tables
differ_rising [] r = tt
differ_rising (t ∷ ts) r = (
  (λ s. some_never (λ u. (t.tag < u.tag) × (u.tag ≡ t.tag)) ts (λ u k. let l = k.0 in let e = k.1 in absurd (omega arith)) (each_some (λ u. t.tag < u.tag) (λ u. u.tag ≡ t.tag) ts (each_tag (λ x. t.tag < x) ts r.0) s)),
  differ_rising ts r.1,
)

-- what a slice of a vector writes back
pub back_written : {X : Type 0} (len : ℕ) (xs ys : List X) → length xs ≡ length ys → len ≡ length ys → take len (xs ++ drop (length xs) ys) ≡ xs
back_written len xs ys same is =
    let whole : len ≡ length xs = omega arith in
    ap (λ n. take n (xs ++ drop (length xs) ys)) whole ∙ take-append-le (length xs) xs (drop (length xs) ys) (omega arith) ∙ take_all (length xs) xs (omega arith)

-- ---- the tables so far
pub record Put (nodes : List NodeView) (ruled : NodeSet) (from live cells : ℕ) : Type 0 where
  pub list : List ℕ
  pub listed : IsListTo ruled from list
  pub tables : List Table
  pub tags : tags_of tables ≡ list
  pub scopes : tests_of tables ≡ map (family_test nodes) list
  pub of_family : HoldsOfEach (λ t. (u : ℕ) → IsIn t.scope u ↔ IsOfFamily nodes t.tag u) tables
  pub live_is : live ≡ length tables
  pub cells_are : cells ≡ stopped (sum_by (λ s. counted_cells nodes s) (tests_of tables))

pub put_none : (nodes : List NodeView) (ruled : NodeSet) → Put nodes ruled 0 0 0
put_none nodes ruled = record {
  list = [];
  listed = record { inside = tt; all = λ v l _. absurd (omega arith); rising = tt };
  tables = [];
  tags = refl;
  scopes = refl;
  of_family = tt;
  live_is = refl;
  cells_are = refl;
}

-- a sum with one scope more
sum_more : (nodes : List NodeView) (tables : List Table) (table : Table) (before now cells : ℕ) → before ≡ stopped (sum_by (λ s. counted_cells nodes s) (tests_of tables)) → cells ≡ counted_cells nodes (holds table.scope)
    → now ≡ stopped (before + cells) → now ≡ stopped (sum_by (λ s. counted_cells nodes s) (tests_of (tables ++ table ∷ [])))
sum_more nodes tables table before now cells is here next =
    let so_far = sum_by (λ s. counted_cells nodes s) (tests_of tables) in
    next
    ∙ ap (λ n. stopped (n + cells)) is
    ∙ stop_part COUNT_END so_far cells
    ∙ ap (λ n. stopped (so_far + n)) here
    ∙ ap (λ n. stopped n) (sym (sum_by_push (λ s. counted_cells nodes s) (tests_of tables) (holds table.scope)) ∙ ap (λ (ss : List (ℕ → Bool)). sum_by (λ s. counted_cells nodes s) ss) (sym (map_append (λ (t : Table). holds t.scope) tables (table ∷ []))))

pub put_more : (nodes : List NodeView) (states : List ℕ) (ruled : NodeSet) (from v : ℕ) (live cells now counted : ℕ) (table : Table) → AreStateCounts nodes states
    → IsFirstFrom ruled from v → table.tag ≡ v → ((u : ℕ) → IsIn table.scope u ↔ IsOfFamily nodes v u)
    → counted ≡ counted_over states (holds table.scope) → now ≡ stopped (cells + counted)
    → Put nodes ruled from live cells → Put nodes ruled (v + 1) (live + 1) now
put_more nodes states ruled from v live cells now counted table are first tag scope counted_is now_is h =
    let told = family_told nodes v table.scope scope in
    record {
      list = h.list ++ v ∷ [];
      listed = list_more ruled from v h.list first h.listed;
      tables = h.tables ++ table ∷ [];
      tags = map_append (λ (t : Table). t.tag) h.tables (table ∷ []) ∙ ap (λ (xs : List ℕ). xs ++ table.tag ∷ []) h.tags ∙ ap (λ x. h.list ++ x ∷ []) tag;
      scopes = map_append (λ (t : Table). holds t.scope) h.tables (table ∷ []) ∙ ap (λ (ss : List (ℕ → Bool)). ss ++ holds table.scope ∷ []) h.scopes
          ∙ ap (λ (s : ℕ → Bool). map (family_test nodes) h.list ++ s ∷ []) (fun_ext told) ∙ sym (map_append (family_test nodes) h.list (v ∷ []));
      of_family = each_push (λ t. (u : ℕ) → IsIn t.scope u ↔ IsOfFamily nodes t.tag u) h.tables table h.of_family (subst (λ x. (u : ℕ) → IsIn table.scope u ↔ IsOfFamily nodes x u) (sym tag) scope);
      live_is = ap (λ n. n + 1) h.live_is ∙ sym (length_push h.tables table);
      cells_are = sum_more nodes h.tables table cells now counted h.cells_are (counted_is ∙ cells_counted nodes states table.scope (holds table.scope) are (λ u. refl)) now_is;
    }

some_one : (P : Table → Type 0) (ts : List Table) → SomeOf P ts → (t : Table) × P t
some_one P [] s = absurd s
some_one P (t ∷ ts) (inl p) = (t, p)
some_one P (t ∷ ts) (inr s) = some_one P ts s

module _ (nodes : List NodeView) (states : List ℕ) (ruled waiting : NodeSet) (from : ℕ) (few : from ≤ 256) (none : (v : ℕ) → from ≤ v → IsIn ruled v → ⊥) (are : AreStateCounts nodes states)
    (known : Known) (joined : (y : ℕ) → IsIn waiting y → IsJointAmong nodes (IsIn ruled) y (joint_in known y)) (counted_at : (y : ℕ) → IsIn waiting y → IsCountedIn states known y)
    (live cells : ℕ) (h : Put nodes ruled from live cells) (other : List ℕ) (listed : IsListOf ruled other) where
  one_list : h.list ≡ other
  one_list =
      let done = list_done ruled from h.list h.listed none in
      rising_same h.list other done.rising listed.rising
      (λ v m. listed.all v (inside v h.list done.inside m))
      (λ v m. done.all v (inside v other listed.inside m))
    where
      inside : (v : ℕ) (list : List ℕ) → HoldsOfEach (IsIn ruled) list → SomeOf (λ x. x ≡ v) list → IsIn ruled v
      inside v [] e m = absurd m
      inside v (x ∷ xs) e (inl f) = subst (IsIn ruled) f e.0
      inside v (x ∷ xs) e (inr m) = inside v xs e.1 m

  all_small : HoldsOfEach (λ t. IsIn ruled t.tag × (t.tag < from)) h.tables
  all_small = each_tag (λ x. IsIn ruled x × (x < from)) h.tables (subst (λ (xs : List ℕ). HoldsOfEach (λ x. IsIn ruled x × (x < from)) xs) (sym h.tags) h.listed.inside)

  are_live : AreLive (IsIn waiting) h.tables
  are_live = record {
    small = each_map (λ t. IsIn ruled t.tag × (t.tag < from)) (λ t. t.tag < 256) (λ t k. small t.tag k.1) h.tables all_small;
    differ = differ_rising h.tables (subst Rising (sym h.tags) h.listed.rising);
    own = each_map (λ t. (u : ℕ) → IsIn t.scope u ↔ IsOfFamily nodes t.tag u) (λ t. IsIn waiting t.tag → IsIn t.scope t.tag) (λ t k _. (k t.tag).1 (inl refl)) h.tables h.of_family;
  }
    where
      small : (x : ℕ) → x < from → x < 256
      small x l = omega arith

  abbrev Ruled : Table → Type 0
  Ruled t = IsIn ruled t.tag × ((u : ℕ) → IsIn t.scope u ↔ IsOfFamily nodes t.tag u)

  all_known : HoldsOfEach Ruled h.tables
  all_known = both h.tables all_small h.of_family
    where
      both : (ts : List Table) → HoldsOfEach (λ t. IsIn ruled t.tag × (t.tag < from)) ts → HoldsOfEach (λ t. (u : ℕ) → IsIn t.scope u ↔ IsOfFamily nodes t.tag u) ts → HoldsOfEach Ruled ts
      both [] a b = tt
      both (t ∷ ts) a b = ((a.0.0, b.0), both ts a.1 b.1)

  with_tag : (x : ℕ) → IsIn ruled x → SomeOf (λ t. Ruled t × (t.tag ≡ x)) h.tables
  with_tag x m = each_some Ruled (λ t. t.tag ≡ x) h.tables all_known
      (some_mapped (λ y. y ≡ x) (λ (t : Table). t.tag) h.tables (subst (λ (xs : List ℕ). SomeOf (λ y. y ≡ x) xs) (sym h.tags) (h.listed.all x (early x m) m)))
    where
      early : (x : ℕ) → IsIn ruled x → x < from
      early x m = elim (cases_lt x from) as (λ _. x < from) [ inl l ↦ l | inr g ↦ absurd (none x g m) ]

  told : (y : ℕ) → IsIn waiting y → Tells h.tables y (joint_in known y)
  told y waits = record {
    set = λ u. (
      (λ m.
          let k = ((joined y waits).set u).0 m in
          some_map (λ t. Ruled t × (t.tag ≡ k.0)) (λ t. IsIn t.scope y × IsIn t.scope u)
          (λ t h. ((h.0.1 y).1 (subst (λ z. IsOfFamily nodes z y) (sym h.1) k.2), (h.0.1 u).1 (subst (λ z. IsOfFamily nodes z u) (sym h.1) k.3))) h.tables (with_tag k.0 k.1)),
      (λ s.
          let k = some_one (λ t. Ruled t × (IsIn t.scope y × IsIn t.scope u)) h.tables (each_some Ruled (λ t. IsIn t.scope y × IsIn t.scope u) h.tables all_known s) in
          ((joined y waits).set u).1 (k.0.tag, k.1.0.0, (k.1.0.1 y).0 k.1.1.0, (k.1.0.1 u).0 k.1.1.1)),
    );
    tables = λ x. (
      (λ m.
          let k = ((joined y waits).tables x).0 m in
          some_map (λ t. Ruled t × (t.tag ≡ x)) (λ t. (t.tag ≡ x) × IsIn t.scope y)
          (λ t h. (h.1, (h.0.1 y).1 (subst (λ z. IsOfFamily nodes z y) (sym h.1) k.1))) h.tables (with_tag x k.0)),
      (λ s.
          let k = some_one (λ t. Ruled t × ((t.tag ≡ x) × IsIn t.scope y)) h.tables (each_some Ruled (λ t. (t.tag ≡ x) × IsIn t.scope y) h.tables all_known s) in
          ((joined y waits).tables x).1 (subst (IsIn ruled) k.1.1.0 k.1.0.0, subst (λ z. IsOfFamily nodes z y) k.1.1.0 ((k.1.0.1 y).0 k.1.1.1))),
    );
  }

  tests_are : tests_of h.tables ≡ map (family_test nodes) other
  tests_are = h.scopes ∙ ap (λ (xs : List ℕ). map (family_test nodes) xs) one_list

  -- with no utility
  pub started_without : (start : Start) → start.known ≡ known → start.live ≡ live → start.cells ≡ cells → IsGreedyStart nodes states (IsIn waiting) (map (family_test nodes) other ++ []) start
  started_without start known_is live_are cells_are =
      let whole : map (family_test nodes) other ++ [] ≡ map (family_test nodes) other = append_none (map (family_test nodes) other) in
      let scopes_are : tests_of h.tables ≡ map (family_test nodes) other ++ [] = tests_are ∙ sym whole in
      record {
        are_states = are;
        tables = h.tables;
        are_live = are_live;
        tells = λ y m. subst (λ (k : Known). Tells h.tables y (joint_in k y)) (sym known_is) (told y m);
        counted = λ y m. subst (λ (k : Known). IsCountedIn states k y) (sym known_is) (counted_at y m);
        scopes_are = scopes_are;
        live = live_are ∙ h.live_is ∙ sym (length_tests h.tables) ∙ ap (λ (ss : List (ℕ → Bool)). length ss) scopes_are;
        cells = cells_are ∙ h.cells_are ∙ ap (λ (ss : List (ℕ → Bool)). stopped (sum_by (λ s. counted_cells nodes s) ss)) scopes_are;
      }
    where
      append_none : (ss : List (ℕ → Bool)) → ss ++ [] ≡ ss
      append_none [] = refl
      append_none (s ∷ ss) = ap (λ (rest : List (ℕ → Bool)). s ∷ rest) (append_none ss)

      length_tests : (ts : List Table) → length (tests_of ts) ≡ length ts
      length_tests [] = refl
      length_tests (t ∷ ts) = ap suc (length_tests ts)

  -- with one
  pub started_with : (u : ℕ) (table : Table) (known' : Known) (counted : ℕ) (start : Start) → u < 256 → (IsIn ruled u → ⊥) → (IsIn waiting u → ⊥)
      → table.tag ≡ u → ((x : ℕ) → IsIn table.scope x ↔ Contains (parents_of nodes u) x)
      → TellsOneMore waiting table known known' → AllStayCounted states waiting known known'
      → counted ≡ counted_over states (holds table.scope)
      → start.known ≡ known' → start.live ≡ live + 1 → start.cells ≡ stopped (cells + counted)
      → IsGreedyStart nodes states (IsIn waiting) (map (family_test nodes) other ++ parents_test nodes u ∷ []) start
  started_with u table known' counted start small unruled kept tag scope puts recounted counted_is known_is live_are cells_are =
      let all = h.tables ++ table ∷ [] in
      let scopes_are : tests_of all ≡ map (family_test nodes) other ++ parents_test nodes u ∷ [] =
      map_append (λ (t : Table). holds t.scope) h.tables (table ∷ [])
      ∙ ap (λ (ss : List (ℕ → Bool)). ss ++ holds table.scope ∷ []) tests_are
      ∙ ap (λ (s : ℕ → Bool). map (family_test nodes) other ++ s ∷ []) (fun_ext (parents_told nodes u table.scope scope)) in
      record {
        are_states = are;
        tables = all;
        are_live = record {
          small = each_push (λ t. t.tag < 256) h.tables table are_live.small (subst (λ x. x < 256) (sym tag) small);
          differ = differ_push h.tables table are_live.differ
              (λ s. some_never (λ t. (IsIn ruled t.tag × (t.tag < from)) × (t.tag ≡ table.tag)) h.tables (λ t k. unruled (subst (IsIn ruled) (k.1 ∙ tag) k.0.0)) (each_some (λ t. IsIn ruled t.tag × (t.tag < from)) (λ t. t.tag ≡ table.tag) h.tables all_small s));
          own = each_push (λ t. IsIn waiting t.tag → IsIn t.scope t.tag) h.tables table are_live.own (λ w. absurd (kept (subst (IsIn waiting) tag w)));
        };
        tells = λ y m. subst (λ (k : Known). Tells all y (joint_in k y)) (sym known_is) (puts h.tables y m (told y m));
        counted = λ y m. subst (λ (k : Known). IsCountedIn states k y) (sym known_is) (recounted y m (counted_at y m));
        scopes_are = scopes_are;
        live = live_are ∙ ap (λ n. n + 1) h.live_is ∙ sym (length_push h.tables table) ∙ sym (length_tests all) ∙ ap (λ (ss : List (ℕ → Bool)). length ss) scopes_are;
        cells = sum_more nodes h.tables table cells start.cells counted h.cells_are (counted_is ∙ cells_counted nodes states table.scope (holds table.scope) are (λ u. refl)) cells_are
            ∙ ap (λ (ss : List (ℕ → Bool)). stopped (sum_by (λ s. counted_cells nodes s) ss)) scopes_are;
      }
    where
      length_tests : (ts : List Table) → length (tests_of ts) ≡ length ts
      length_tests [] = refl
      length_tests (t ∷ ts) = ap suc (length_tests ts)
