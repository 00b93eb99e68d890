-- Classes of equal cells, as a node leaves or comes.
use Rattle.std.proofs.Common.{◌≡◌, ◌∙◌, ◌⊎◌, ◌↔◌, ℕ, zero, suc, eqb, ltb, cond, ◌&&◌, ◌+◌, ◌-◌, ◌<◌, ◌≤◌, Bool, true, false, List, [], length, get_or, Option, Some, None, refl, sym, ap, subst, inl, inr, arith}
use Rattle.std.specs.Prelude.{MatchOption}
use Rattle.std.specs.List.{insert, remove}
use Rattle.std.proofs.Math.Path.{fun_ext}
use Rattle.std.proofs.lemmas.Bool.{cases_lt, cases_eq}
use Rattle.std.proofs.lemmas.List.Edits.{get_or-insert_at, get_or-insert_below, get_or-insert_above, length-insert, get_or-remove_below, get_or-remove_above, length-remove}
use Rattle.node_sets.specs.Sets.{holds, IsIn, IsFirstFrom}
use Rattle.node_sets.specs.declared.sets.NodeSet.{NodeSet}
use Rattle.size_precheck.specs.declared.classes.Class.{Class}
use Rattle.std.proofs.lemmas.Bool.Decides.{nat_tests}
use Rattle.size_precheck.specs.Joints.{member_count, members_below}
use Rattle.size_precheck.proofs.Somewhere.{same_test, and_both}
use Rattle.size_precheck.specs.Classes.{class_at, no_class, AreClasses, IsFewest, IsLess, IsRecounted}

-- ---- the next
pub next_found : (counts : ℕ → ℕ) (waits : ℕ → Bool) (classes : List Class) (i v : ℕ) → AreClasses counts waits classes → i < length classes → ((k : ℕ) → k < i → (w : ℕ) → IsIn (class_at classes k).nodes w → ⊥)
    → IsFirstFrom (class_at classes i).nodes 0 v → IsFewest counts waits v
next_found counts waits classes i v are within empty found = record {
  waiting = here.0;
  fewest = λ w m. let a = place w m in low w m (not_before w m);
  first = λ w m less. strict w m less;
}
  where
    here : (waits v ≡ true) × (counts v ≡ (class_at classes i).cells)
    here = (are.nodes i within v).0 found.inside

    place : (w : ℕ) → waits w ≡ true → (k : ℕ) × (k < length classes) × ((class_at classes k).cells ≡ counts w)
    place w m = are.all w m

    not_before : (w : ℕ) → (m : waits w ≡ true) → i ≤ (place w m).0
    not_before w m = elim (cases_lt (place w m).0 i) as (λ _. i ≤ (place w m).0) [
      | inl l ↦ absurd (empty (place w m).0 l w ((are.nodes (place w m).0 (place w m).1 w).1 (m, sym (place w m).2)))
      | inr g ↦ g
    ]

    low : (w : ℕ) → (m : waits w ≡ true) → i ≤ (place w m).0 → counts v ≤ counts w
    low w m l = elim (cases_eq i (place w m).0) as (λ _. counts v ≤ counts w) [
      | inl e ↦
          let a : (class_at classes i).cells ≡ (class_at classes (place w m).0).cells = ap (λ k. (class_at classes k).cells) e in
          let b = here.1 in
          let c = (place w m).2 in
          omega arith
      | inr n ↦
          let a = are.rising i (place w m).0 (apart i (place w m).0 l n) (place w m).1 in
          let b = here.1 in
          let c = (place w m).2 in
          omega arith
    ]
      where
        apart : (a b : ℕ) → a ≤ b → (a ≡ b → ⊥) → a < b
        apart a b l n = grind arith

    strict : (w : ℕ) → waits w ≡ true → w < v → counts v < counts w
    strict w m less = elim (cases_eq (counts v) (counts w)) as (λ _. counts v < counts w) [
      | inl e ↦ absurd (found.first w (omega arith) less ((are.nodes i within w).1 (m, sym e ∙ here.1)))
      | inr n ↦ apart _ _ (low w m (not_before w m)) n
    ]
      where
        apart : (a b : ℕ) → a ≤ b → (a ≡ b → ⊥) → a < b
        apart a b l n = grind arith

pub next_none : (counts : ℕ → ℕ) (waits : ℕ → Bool) (classes : List Class) → AreClasses counts waits classes → ((k : ℕ) → k < length classes → (w : ℕ) → IsIn (class_at classes k).nodes w → ⊥) → (v : ℕ) → waits v ≡ true → ⊥
next_none counts waits classes are empty v m =
    let a = are.all v m in
    empty a.0 a.1 v ((are.nodes a.0 a.1 v).1 (m, sym a.2))

-- what stands at a place after a class was put in
abbrev Where : List Class → List Class → ℕ → Class → ℕ → Type 0
Where classes classes' place class i = ((i < place) × (class_at classes' i ≡ class_at classes i)) ⊎ (((i ≡ place) × (class_at classes' i ≡ class)) ⊎ ((k : ℕ) × (place ≤ k) × (k < length classes) × (i ≡ k + 1) × (class_at classes' i ≡ class_at classes k)))

-- ---- with and without v
module _ (counts : ℕ → ℕ) (waits fewer : ℕ → Bool) (v cells : ℕ) (less : IsLess waits fewer v) (counted : counts v ≡ cells) where
  other : (x : ℕ) → fewer x ≡ true → x ≡ v → ⊥
  other x m e = less.own (subst (λ y. fewer y ≡ true) e m)

  more : (x : ℕ) → fewer x ≡ true → waits x ≡ true
  more x m = sym (less.others x (other x m)) ∙ m

  fewer_too : (x : ℕ) → (x ≡ v → ⊥) → waits x ≡ true → fewer x ≡ true
  fewer_too x n m = less.others x n ∙ m

  -- v leaves
  pub taken : (classes classes' : List Class) (place : ℕ) → length classes' ≡ length classes → ((i : ℕ) → i < place → (class_at classes i).cells < cells) → (place < length classes → cells ≤ (class_at classes place).cells)
      → (place < length classes → (class_at classes' place).cells ≡ (class_at classes place).cells)
      → (place < length classes → (x : ℕ) → IsIn (class_at classes' place).nodes x ↔ (IsIn (class_at classes place).nodes x × (x ≡ v → ⊥)))
      → ((i : ℕ) → (i ≡ place → ⊥) → class_at classes' i ≡ class_at classes i)
      → AreClasses counts waits classes → AreClasses counts fewer classes'
  taken classes classes' place len before past cells_same removed same are = record {
    rising = λ i j l m.
        let k : j < length classes = omega arith in
        let a = are.rising i j l k in
        let b = cells_at i (omega arith) in
        let d = cells_at j k in
        omega arith;
    nodes = λ i l x. at i (omega arith) x (cases_eq i place);
    all = λ x m. let a = are.all x (more x m) in let l = a.1 in (a.0, omega arith, cells_at a.0 a.1 ∙ a.2);
  }
    where
      cells_at : (i : ℕ) → i < length classes → (class_at classes' i).cells ≡ (class_at classes i).cells
      cells_at i l = elim (cases_eq i place) as (λ _. (class_at classes' i).cells ≡ (class_at classes i).cells) [
        | inl e ↦
            ap (λ k. (class_at classes' k).cells) e ∙ cells_same (omega arith) ∙ ap (λ k. (class_at classes k).cells) (sym e)
        | inr n ↦ ap (λ (c : Class). c.cells) (same i n)
      ]

      elsewhere : (i x : ℕ) → i < length classes → (i ≡ place → ⊥) → counts x ≡ (class_at classes i).cells → x ≡ v → ⊥
      elsewhere i x l n is e = elim (cases_lt i place) as (λ _. ⊥) [
        | inl b ↦
            let a = before i b in
            let c = ap counts e in
            absurd (omega (arith, is, counted))
        | inr g ↦
            let within : place < length classes = omega arith in
            let a = past within in
            let b = are.rising place i (apart place i g n) l in
            let c = ap counts e in
            absurd (omega (arith, is, counted))
      ]
        where
          apart : (a b : ℕ) → a ≤ b → (b ≡ a → ⊥) → a < b
          apart a b l n = grind arith

      at : (i : ℕ) → i < length classes → (x : ℕ) → (i ≡ place) ⊎ (i ≡ place → ⊥) → IsIn (class_at classes' i).nodes x ↔ ((fewer x ≡ true) × (counts x ≡ (class_at classes' i).cells))
      at i l x (inl e) =
          let within : place < length classes = omega arith in
          subst (λ k. IsIn (class_at classes' k).nodes x ↔ ((fewer x ≡ true) × (counts x ≡ (class_at classes' k).cells))) (sym e) (
            (λ m. let h = (removed within x).0 m in let k = (are.nodes place within x).0 h.0 in (fewer_too x h.1 k.0, k.1 ∙ sym (cells_same within))),
            (λ h. (removed within x).1 ((are.nodes place within x).1 (more x h.0, h.1 ∙ cells_same within), other x h.0)),
          )
      at i l x (inr n) =
          subst (λ (c : Class). IsIn c.nodes x ↔ ((fewer x ≡ true) × (counts x ≡ c.cells))) (sym (same i n)) (
            (λ m. let k = (are.nodes i l x).0 m in (fewer_too x (elsewhere i x l n k.1) k.0, k.1)),
            (λ h. (are.nodes i l x).1 (more x h.0, h.1)),
          )

  -- v leaves, and its class with it
  pub dropped : (classes classes' : List Class) (place : ℕ) → classes' ≡ remove classes place → place < length classes → ((i : ℕ) → i < place → (class_at classes i).cells < cells)
      → cells ≤ (class_at classes place).cells → ((x : ℕ) → IsIn (class_at classes place).nodes x → x ≡ v)
      → AreClasses counts waits classes → AreClasses counts fewer classes'
  dropped classes classes' place made within before past alone are = record {
    rising = λ i j l m.
        let a = from i (omega arith) in
        let b = from j m in
        let k = are.rising a.0 b.0 (in_order i j a.0 b.0 l a.4 b.4) b.1 in
        let x = ap (λ (c : Class). c.cells) a.3 in
        let y = ap (λ (c : Class). c.cells) b.3 in
        omega arith;
    nodes = λ i l x. let a = from i l in subst (λ (c : Class). IsIn c.nodes x ↔ ((fewer x ≡ true) × (counts x ≡ c.cells))) (sym a.3) (old a.0 x a.1 a.2);
    all = λ x m. let a = are.all x (more x m) in found x m a.0 a.1 a.2 (cases_eq a.0 place) (cases_lt a.0 place);
  }
    where
      long : length classes' + 1 ≡ length classes
      long = ap (λ n. n + 1) (ap length made) ∙ length-remove classes place within

      below : (k : ℕ) → k < place → class_at classes' k ≡ class_at classes k
      below k l = ap (λ (cs : List Class). get_or cs k no_class) made ∙ get_or-remove_below classes place no_class k l within

      above : (k : ℕ) → place ≤ k → class_at classes' k ≡ class_at classes (k + 1)
      above k l = ap (λ (cs : List Class). get_or cs k no_class) made ∙ get_or-remove_above classes place no_class k l within

      from : (i : ℕ) → i < length classes' → (k : ℕ) × (k < length classes) × (k ≡ place → ⊥) × (class_at classes' i ≡ class_at classes k) × (((i < place) × (k ≡ i)) ⊎ ((place ≤ i) × (k ≡ i + 1)))
      from i l = elim (cases_lt i place) as (λ _. (k : ℕ) × (k < length classes) × (k ≡ place → ⊥) × (class_at classes' i ≡ class_at classes k) × (((i < place) × (k ≡ i)) ⊎ ((place ≤ i) × (k ≡ i + 1)))) [
        | inl b ↦ (i, omega (arith, long), (λ e. absurd (omega arith)), below i b, inl (b, refl))
        | inr g ↦ (i + 1, omega (arith, long), (λ e. absurd (omega arith)), above i g, inr (g, refl))
      ]

      in_order : (i j k m : ℕ) → i < j → ((i < place) × (k ≡ i)) ⊎ ((place ≤ i) × (k ≡ i + 1)) → ((j < place) × (m ≡ j)) ⊎ ((place ≤ j) × (m ≡ j + 1)) → k < m
      in_order i j k m l (inl a) (inl b) = let e = a.1 in let f = b.1 in omega arith
      in_order i j k m l (inl a) (inr b) = let e = a.1 in let f = b.1 in omega arith
      in_order i j k m l (inr a) (inl b) = let g = a.0 in let h = b.0 in absurd (omega arith)
      in_order i j k m l (inr a) (inr b) = let e = a.1 in let f = b.1 in omega arith

      apart : (a b : ℕ) → a ≤ b → (b ≡ a → ⊥) → a < b
      apart a b l n = grind arith

      elsewhere : (i x : ℕ) → i < length classes → (i ≡ place → ⊥) → counts x ≡ (class_at classes i).cells → x ≡ v → ⊥
      elsewhere i x l n is e = elim (cases_lt i place) as (λ _. ⊥) [
        | inl b ↦
            let a = before i b in
            let c = ap counts e in
            absurd (omega (arith, is, counted))
        | inr g ↦
            let b = are.rising place i (apart place i g n) l in
            let c = ap counts e in
            absurd (omega (arith, is, counted, past))
      ]

      old : (k x : ℕ) → k < length classes → (k ≡ place → ⊥) → IsIn (class_at classes k).nodes x ↔ ((fewer x ≡ true) × (counts x ≡ (class_at classes k).cells))
      old k x l n = (
        (λ m. let h = (are.nodes k l x).0 m in (fewer_too x (elsewhere k x l n h.1) h.0, h.1)),
        (λ h. (are.nodes k l x).1 (more x h.0, h.1)),
      )

      found : (x : ℕ) → fewer x ≡ true → (k : ℕ) → k < length classes → (class_at classes k).cells ≡ counts x → (k ≡ place) ⊎ (k ≡ place → ⊥) → (k < place) ⊎ (place ≤ k)
          → (i : ℕ) × (i < length classes') × ((class_at classes' i).cells ≡ counts x)
      found x m k l e (inl s) o = absurd (other x m (alone x ((are.nodes place within x).1 (more x m, sym e ∙ ap (λ i. (class_at classes i).cells) s))))
      found x m k l e (inr n) (inl b) = (k, omega (arith, long), ap (λ (c : Class). c.cells) (below k b) ∙ e)
      found x m k l e (inr n) (inr g) =
          let b : place < k = apart place k g n in
          let s : (k - 1) + 1 ≡ k = omega arith in
          (k - 1, omega (arith, long), ap (λ (c : Class). c.cells) (above (k - 1) (omega arith)) ∙ ap (λ i. (class_at classes i).cells) s ∙ e)

  module _ (waiting : waits v ≡ true) (classes classes' : List Class) (place : ℕ) (are : AreClasses counts fewer classes) where
    -- v comes to a class that is there
    pub put_known : length classes' ≡ length classes → place < length classes → (class_at classes place).cells ≡ cells
        → (class_at classes' place).cells ≡ (class_at classes place).cells
        → ((x : ℕ) → IsIn (class_at classes' place).nodes x ↔ (IsIn (class_at classes place).nodes x ⊎ (x ≡ v)))
        → ((i : ℕ) → (i ≡ place → ⊥) → class_at classes' i ≡ class_at classes i)
        → AreClasses counts waits classes'
    put_known len within here cells_same added same = record {
      rising = λ i j l m.
          let k : j < length classes = omega arith in
          let a = are.rising i j l k in
          let b = cells_at i (omega arith) in
          let d = cells_at j k in
          omega arith;
      nodes = λ i l x. at i (omega arith) x (cases_eq i place);
      all = λ x m. elim (cases_eq x v) as (λ _. (i : ℕ) × (i < length classes') × ((class_at classes' i).cells ≡ counts x)) [
        | inl e ↦ (place, omega arith, cells_same ∙ here ∙ sym counted ∙ ap counts (sym e))
        | inr n ↦ let a = are.all x (fewer_too x n m) in let l = a.1 in (a.0, omega arith, cells_at a.0 a.1 ∙ a.2)
      ];
    }
      where
        cells_at : (i : ℕ) → i < length classes → (class_at classes' i).cells ≡ (class_at classes i).cells
        cells_at i l = elim (cases_eq i place) as (λ _. (class_at classes' i).cells ≡ (class_at classes i).cells) [
          | inl e ↦ ap (λ k. (class_at classes' k).cells) e ∙ cells_same ∙ ap (λ k. (class_at classes k).cells) (sym e)
          | inr n ↦ ap (λ (c : Class). c.cells) (same i n)
        ]

        elsewhere : (i x : ℕ) → i < length classes → (i ≡ place → ⊥) → counts x ≡ (class_at classes i).cells → x ≡ v → ⊥
        elsewhere i x l n is e =
            let c = ap counts e in
            elim (cases_lt i place) as (λ _. ⊥) [
              | inl b ↦ let a = are.rising i place b within in absurd (omega (arith, is, counted, here))
              | inr g ↦ let a = are.rising place i (apart place i g n) l in absurd (omega (arith, is, counted, here))
            ]
          where
            apart : (a b : ℕ) → a ≤ b → (b ≡ a → ⊥) → a < b
            apart a b l n = grind arith

        at : (i : ℕ) → i < length classes → (x : ℕ) → (i ≡ place) ⊎ (i ≡ place → ⊥) → IsIn (class_at classes' i).nodes x ↔ ((waits x ≡ true) × (counts x ≡ (class_at classes' i).cells))
        at i l x (inl e) =
            subst (λ k. IsIn (class_at classes' k).nodes x ↔ ((waits x ≡ true) × (counts x ≡ (class_at classes' k).cells))) (sym e) (
              (λ m. elim ((added x).0 m) as (λ _. (waits x ≡ true) × (counts x ≡ (class_at classes' place).cells)) [
                | inl o ↦ let k = (are.nodes place within x).0 o in (more x k.0, k.1 ∙ sym cells_same)
                | inr f ↦ (ap waits f ∙ waiting, ap counts f ∙ counted ∙ sym here ∙ sym cells_same)
              ]),
              (λ h. (added x).1 (elim (cases_eq x v) as (λ _. IsIn (class_at classes place).nodes x ⊎ (x ≡ v)) [
                | inl f ↦ inr f
                | inr n ↦ inl ((are.nodes place within x).1 (fewer_too x n h.0, h.1 ∙ cells_same))
              ])),
            )
        at i l x (inr n) =
            subst (λ (c : Class). IsIn c.nodes x ↔ ((waits x ≡ true) × (counts x ≡ c.cells))) (sym (same i n)) (
              (λ m. let k = (are.nodes i l x).0 m in (more x k.0, k.1)),
              (λ h. (are.nodes i l x).1 (fewer_too x (elsewhere i x l n h.1) h.0, h.1)),
            )

    -- v comes to a class of its own
    pub put_new : (class : Class) → classes' ≡ insert classes place class → class.cells ≡ cells → ((x : ℕ) → IsIn class.nodes x ↔ (x ≡ v)) → place ≤ length classes
        → ((i : ℕ) → i < place → (class_at classes i).cells < cells) → (place < length classes → cells < (class_at classes place).cells)
        → AreClasses counts waits classes'
    put_new class made class_cells own within before past = record {
      rising = λ i j l m. rises i j l (where_is i (omega arith)) (where_is j m);
      nodes = λ i l x. at i x (where_is i l);
      all = λ x m. elim (cases_eq x v) as (λ _. (i : ℕ) × (i < length classes') × ((class_at classes' i).cells ≡ counts x)) [
        | inl e ↦ (place, omega (arith, long, within), ap (λ (c : Class). c.cells) here ∙ class_cells ∙ sym counted ∙ ap counts (sym e))
        | inr n ↦ let a = are.all x (fewer_too x n m) in found x a.0 a.1 a.2 (cases_lt a.0 place)
      ];
    }
      where
        long : length classes' ≡ length classes + 1
        long = ap length made ∙ length-insert classes place class within

        here : class_at classes' place ≡ class
        here = ap (λ (cs : List Class). get_or cs place no_class) made ∙ get_or-insert_at classes place class no_class within

        below : (k : ℕ) → k < place → class_at classes' k ≡ class_at classes k
        below k l = ap (λ (cs : List Class). get_or cs k no_class) made ∙ get_or-insert_below classes place class no_class k l within

        above : (k : ℕ) → place ≤ k → class_at classes' (k + 1) ≡ class_at classes k
        above k l = ap (λ (cs : List Class). get_or cs (k + 1) no_class) made ∙ get_or-insert_above classes place class no_class k l within

        where_is : (i : ℕ) → i < length classes' → Where classes classes' place class i
        where_is i l = elim (cases_lt i place) as (λ _. Where classes classes' place class i) [
          | inl b ↦ inl (b, below i b)
          | inr g ↦ elim (cases_eq i place) as (λ _. Where classes classes' place class i) [
            | inl e ↦ inr (inl (e, ap (λ k. class_at classes' k) e ∙ here))
            | inr n ↦ let b : place < i = apart place i g n in let e : i ≡ (i - 1) + 1 = omega arith in inr (inr (i - 1, omega arith, omega (arith, long), e, ap (λ k. class_at classes' k) e ∙ above (i - 1) (omega arith)))
          ]
        ]
          where
            apart : (a b : ℕ) → a ≤ b → (b ≡ a → ⊥) → a < b
            apart a b l n = grind arith

        after : (k : ℕ) → place ≤ k → k < length classes → cells < (class_at classes k).cells
        after k g l = elim (cases_eq place k) as (λ _. cells < (class_at classes k).cells) [
          | inl e ↦ let a = past (omega arith) in let b = ap (λ i. (class_at classes i).cells) e in omega arith
          | inr n ↦ let a = past (omega arith) in let b = are.rising place k (apart place k g n) l in omega arith
        ]
          where
            apart : (a b : ℕ) → a ≤ b → (a ≡ b → ⊥) → a < b
            apart a b l n = grind arith

        in_cells : (i : ℕ) (c : Class) → class_at classes' i ≡ c → (class_at classes' i).cells ≡ c.cells
        in_cells i c e = ap (λ (d : Class). d.cells) e

        rises : (i j : ℕ) → i < j → Where classes classes' place class i → Where classes classes' place class j → (class_at classes' i).cells < (class_at classes' j).cells
        rises i j l (inl a) (inl b) = let k = b.0 in let x = in_cells i _ a.1 in let y = in_cells j _ b.1 in let z = are.rising i j l (omega arith) in omega arith
        rises i j l (inl a) (inr (inl b)) = let x = in_cells i _ a.1 in let y = in_cells j _ b.1 in let z = before i a.0 in omega (arith, class_cells)
        rises i j l (inl a) (inr (inr b)) = let k = a.0 in let g = b.1 in let x = in_cells i _ a.1 in let y = in_cells j _ b.4 in let z = are.rising i b.0 (omega arith) b.2 in omega arith
        rises i j l (inr (inl a)) (inl b) = let k = b.0 in let e = a.0 in absurd (omega arith)
        rises i j l (inr (inl a)) (inr (inl b)) = let e = a.0 in let f = b.0 in absurd (omega arith)
        rises i j l (inr (inl a)) (inr (inr b)) = let x = in_cells i _ a.1 in let y = in_cells j _ b.4 in let z = after b.0 b.1 b.2 in omega (arith, class_cells)
        rises i j l (inr (inr a)) (inl b) = let k = b.0 in let g = a.1 in let e = a.3 in absurd (omega arith)
        rises i j l (inr (inr a)) (inr (inl b)) = let g = a.1 in let e = a.3 in let f = b.0 in absurd (omega arith)
        rises i j l (inr (inr a)) (inr (inr b)) = let e = a.3 in let f = b.3 in let x = in_cells i _ a.4 in let y = in_cells j _ b.4 in let z = are.rising a.0 b.0 (omega arith) b.2 in omega arith

        -- an old class, which is not that of v's cells
        old : (k x : ℕ) → k < length classes → ((class_at classes k).cells ≡ cells → ⊥) → IsIn (class_at classes k).nodes x ↔ ((waits x ≡ true) × (counts x ≡ (class_at classes k).cells))
        old k x l n = (
          (λ m. let h = (are.nodes k l x).0 m in (more x h.0, h.1)),
          (λ h. (are.nodes k l x).1 (fewer_too x (λ e. n (sym h.1 ∙ ap counts e ∙ counted)) h.0, h.1)),
        )

        apart_below : (k : ℕ) → k < place → (class_at classes k).cells ≡ cells → ⊥
        apart_below k l e = let a = before k l in absurd (omega arith)

        apart_after : (k : ℕ) → place ≤ k → k < length classes → (class_at classes k).cells ≡ cells → ⊥
        apart_after k g l e = let a = after k g l in absurd (omega arith)

        new : (x : ℕ) → IsIn class.nodes x ↔ ((waits x ≡ true) × (counts x ≡ class.cells))
        new x = (
          (λ m. let e = (own x).0 m in (ap waits e ∙ waiting, ap counts e ∙ counted ∙ sym class_cells)),
          (λ h. (own x).1 (elim (cases_eq x v) as (λ _. x ≡ v) [
            | inl e ↦ e
            | inr n ↦
                let a = are.all x (fewer_too x n h.0) in
                let e : (class_at classes a.0).cells ≡ cells = a.2 ∙ h.1 ∙ class_cells in
                absurd (elim (cases_lt a.0 place) as (λ _. ⊥) [ inl b ↦ apart_below a.0 b e | inr g ↦ apart_after a.0 g a.1 e ])
          ])),
        )

        at : (i x : ℕ) → Where classes classes' place class i → IsIn (class_at classes' i).nodes x ↔ ((waits x ≡ true) × (counts x ≡ (class_at classes' i).cells))
        at i x (inl a) = let l = a.0 in subst (λ (c : Class). IsIn c.nodes x ↔ ((waits x ≡ true) × (counts x ≡ c.cells))) (sym a.1) (old i x (omega arith) (apart_below i a.0))
        at i x (inr (inl a)) = subst (λ (c : Class). IsIn c.nodes x ↔ ((waits x ≡ true) × (counts x ≡ c.cells))) (sym a.1) (new x)
        at i x (inr (inr a)) = subst (λ (c : Class). IsIn c.nodes x ↔ ((waits x ≡ true) × (counts x ≡ c.cells))) (sym a.4) (old a.0 x a.2 (apart_after a.0 a.1 a.2))

        found : (x k : ℕ) → k < length classes → (class_at classes k).cells ≡ counts x → (k < place) ⊎ (place ≤ k) → (i : ℕ) × (i < length classes') × ((class_at classes' i).cells ≡ counts x)
        found x k l e (inl b) = (k, omega (arith, long), in_cells k _ (below k b) ∙ e)
        found x k l e (inr g) = (k + 1, omega (arith, long), in_cells (k + 1) _ (above k g) ∙ e)

-- ---- counts, and what waits
-- counts of nodes that do not wait say nothing
pub recounted : (counts counts' : ℕ → ℕ) (waits : ℕ → Bool) (classes : List Class) → ((x : ℕ) → waits x ≡ true → counts' x ≡ counts x) → AreClasses counts waits classes → AreClasses counts' waits classes
recounted counts counts' waits classes same are = record {
  rising = are.rising;
  nodes = λ i l v. (
    (λ m. let h = (are.nodes i l v).0 m in (h.0, same v h.0 ∙ h.1)),
    (λ h. (are.nodes i l v).1 (h.0, sym (same v h.0) ∙ h.1)),
  );
  all = λ v m. let a = are.all v m in (a.0, a.1, a.2 ∙ sym (same v m));
}

-- all that wait but v
abbrev pub but : ℕ → (ℕ → Bool) → ℕ → Bool
but v waits x = cond (eqb x v) false (waits x)

pub but_less : (waits : ℕ → Bool) (v : ℕ) → IsLess waits (but v waits) v
but_less waits v = record {
  own = λ e. let s : eqb v v ≡ true = same_numbers v v refl in let f : false ≡ true = ap (λ b. cond b false (waits v)) (sym s) ∙ e in absurd (cc);
  others = λ x n. ap (λ b. cond b false (waits x)) (apart_numbers x v n);
}
  where
    same_numbers : (a b : ℕ) → a ≡ b → eqb a b ≡ true
    same_numbers a b e = grind (arith, nat_tests)

    apart_numbers : (a b : ℕ) → (a ≡ b → ⊥) → eqb a b ≡ false
    apart_numbers a b n = grind (arith, nat_tests)

pub removed_less : (rest later : NodeSet) (v : ℕ) → ((x : ℕ) → IsIn later x ↔ (IsIn rest x × (x ≡ v → ⊥))) → IsLess (holds rest) (holds later) v
removed_less rest later v is = record {
  own = λ m. ((is v).0 m).1 refl;
  others = λ x n. same_test _ _ (λ m. ((is x).0 m).0) (λ m. (is x).1 (m, n));
}

-- with one member less
members_without : (f g : ℕ → Bool) (v n : ℕ) → v < n → f v ≡ true → g v ≡ false → ((x : ℕ) → (x ≡ v → ⊥) → g x ≡ f x) → members_below f n ≡ members_below g n + 1
members_without f g v zero l here gone same = absurd (omega arith)
members_without f g v (suc n) l here gone same = go (cases_eq v n) (λ k. members_without f g v n k here gone same)
  where
    alike : (m : ℕ) → m ≤ v → members_below f m ≡ members_below g m
    alike zero k = refl
    alike (suc m) k = let a = alike m (omega arith) in let b = same m (λ e. absurd (omega arith)) in ap (λ t. members_below f m + cond t 1 0) (sym b) ∙ ap (λ n. n + cond (g m) 1 0) a

    below : (v n : ℕ) → v < suc n → (v ≡ n → ⊥) → v < n
    below v n l m = omega arith

    go : (v ≡ n) ⊎ (v ≡ n → ⊥) → (v < n → members_below f n ≡ members_below g n + 1) → members_below f (suc n) ≡ members_below g (suc n) + 1
    go (inl e) rec =
        let a = alike n (omega arith) in
        let b : f n ≡ true = ap f (sym e) ∙ here in
        let c : g n ≡ false = ap g (sym e) ∙ gone in
        let d : members_below f n + cond (f n) 1 0 ≡ members_below f n + 1 = ap (λ t. members_below f n + cond t 1 0) b in
        let h : members_below g n + cond (g n) 1 0 ≡ members_below g n + 0 = ap (λ t. members_below g n + cond t 1 0) c in
        omega arith
    go (inr n_is) rec =
        let a = rec (below v n l n_is) in
        let b : members_below f n + cond (f n) 1 0 ≡ members_below f n + cond (g n) 1 0 = ap (λ t. members_below f n + cond t 1 0) (sym (same n (λ e. n_is (sym e)))) in
        omega arith

pub removed_fewer : (rest later : NodeSet) (v : ℕ) → v < 256 → IsIn rest v → ((x : ℕ) → IsIn later x ↔ (IsIn rest x × (x ≡ v → ⊥))) → member_count later < member_count rest
unfolding member_count
removed_fewer rest later v small here is =
    let less = removed_less rest later v is in
    less_by_one _ _ (members_without (holds rest) (holds later) v 256 small here (not_own (holds later v) less.own) less.others)
  where
    less_by_one : (a b : ℕ) → a ≡ b + 1 → b < a
    less_by_one a b e = omega arith

    not_own : (b : Bool) → (b ≡ true → ⊥) → b ≡ false
    not_own true n = absurd (n refl)
    not_own false n = refl

-- ---- along a walk
-- the members before a number
abbrev pub before_number : NodeSet → ℕ → ℕ → Bool
before_number nodes from x = holds nodes x && ltb x from

both_true : (a b : Bool) → (a && b) ≡ true → (a ≡ true) × (b ≡ true)
both_true true b e = (refl, e)
both_true false b e = absurd (cc)

number_less : (x n : ℕ) → ltb x n ≡ true → x < n
number_less x n e = grind (arith, nat_tests)

less_number : (x n : ℕ) → x < n → ltb x n ≡ true
less_number x n l = grind (arith, nat_tests)

pub no_classes : (counts : ℕ → ℕ) (nodes : NodeSet) → AreClasses counts (before_number nodes 0) []
no_classes counts nodes = record {
  rising = λ i j l m. absurd (omega arith);
  nodes = λ i l v. absurd (omega arith);
  all = λ v m. let l = number_less v 0 (both_true (holds nodes v) (ltb v 0) m).1 in absurd (omega arith);
}

pub walked_less : (nodes : NodeSet) (from v : ℕ) → IsFirstFrom nodes from v → IsLess (before_number nodes (v + 1)) (before_number nodes from) v
walked_less nodes from v first = record {
  own = λ m. let l = number_less v from (both_true (holds nodes v) (ltb v from) m).1 in let a = first.not_before in absurd (omega arith);
  others = λ x n. same_test _ _
      (λ m.
      let h = both_true (holds nodes x) (ltb x from) m in
      let l = number_less x from h.1 in
      let a = first.not_before in
      and_both (holds nodes x) (ltb x (v + 1)) h.0 (less_number x (v + 1) (omega arith)))
      (λ m.
      let h = both_true (holds nodes x) (ltb x (v + 1)) m in
      and_both (holds nodes x) (ltb x from) h.0 (less_number x from (early x n h.0 (number_less x (v + 1) h.1) (cases_lt x from))));
}
  where
    less : (x : ℕ) → (x ≡ v → ⊥) → x < v + 1 → x < v
    less x n l = grind arith

    early : (x : ℕ) → (x ≡ v → ⊥) → IsIn nodes x → x < v + 1 → (x < from) ⊎ (from ≤ x) → x < from
    early x n m l (inl b) = b
    early x n m l (inr g) = absurd (first.first x g (less x n l) m)

pub walked_here : (nodes : NodeSet) (v : ℕ) → IsIn nodes v → before_number nodes (v + 1) v ≡ true
walked_here nodes v m = and_both (holds nodes v) (ltb v (v + 1)) m (less_number v (v + 1) (omega arith))

pub walked_all : (counts : ℕ → ℕ) (nodes : NodeSet) (from : ℕ) (classes : List Class) → ((v : ℕ) → from ≤ v → IsIn nodes v → ⊥) → AreClasses counts (before_number nodes from) classes → AreClasses counts (holds nodes) classes
walked_all counts nodes from classes none are = subst (λ (waits : ℕ → Bool). AreClasses counts waits classes) (fun_ext same) are
  where
    early : (x : ℕ) → IsIn nodes x → (x < from) ⊎ (from ≤ x) → x < from
    early x m (inl b) = b
    early x m (inr g) = absurd (none x g m)

    same : (x : ℕ) → before_number nodes from x ≡ holds nodes x
    same x = same_test _ _ (λ m. (both_true (holds nodes x) (ltb x from) m).0) (λ m. and_both (holds nodes x) (ltb x from) m (less_number x from (early x m (cases_lt x from))))

-- ---- what the search for the next tells
pub found_next : (counts : ℕ → ℕ) (waits : ℕ → Bool) (classes : List Class) (result : Option ℕ) (v : ℕ)
    → ((counts : ℕ → ℕ) (waits : ℕ → Bool) → AreClasses counts waits classes → MatchOption result ((v : ℕ) → waits v ≡ true → ⊥) (IsFewest counts waits)) → result ≡ Some v → AreClasses counts waits classes → IsFewest counts waits v
found_next counts waits classes result v tells is are = subst (λ (o : Option ℕ). MatchOption o ((v : ℕ) → waits v ≡ true → ⊥) (IsFewest counts waits)) is (tells counts waits are)

pub none_next : (counts : ℕ → ℕ) (waits : ℕ → Bool) (classes : List Class) (result : Option ℕ)
    → ((counts : ℕ → ℕ) (waits : ℕ → Bool) → AreClasses counts waits classes → MatchOption result ((v : ℕ) → waits v ≡ true → ⊥) (IsFewest counts waits)) → result ≡ None → AreClasses counts waits classes → (v : ℕ) → waits v ≡ true → ⊥
none_next counts waits classes result tells is are = subst (λ (o : Option ℕ). MatchOption o ((v : ℕ) → waits v ≡ true → ⊥) (IsFewest counts waits)) is (tells counts waits are)

-- ---- a node moves
pub moved : (counts counts' : ℕ → ℕ) (waits : ℕ → Bool) (classes taken_out put_in : List Class) (v before after : ℕ)
    → ((counts : ℕ → ℕ) (waits fewer : ℕ → Bool) → IsLess waits fewer v → counts v ≡ before → AreClasses counts waits classes → AreClasses counts fewer taken_out)
    → ((counts : ℕ → ℕ) (waits fewer : ℕ → Bool) → IsLess waits fewer v → waits v ≡ true → counts v ≡ after → AreClasses counts fewer taken_out → AreClasses counts waits put_in)
    → waits v ≡ true → IsRecounted counts counts' waits v before after → AreClasses counts waits classes → AreClasses counts' waits put_in
moved counts counts' waits classes taken_out put_in v before after takes puts waiting new are =
    let less = but_less waits v in
    puts counts' waits (but v waits) less waiting new.is
    (recounted counts counts' (but v waits) taken_out (λ x m. let n : x ≡ v → ⊥ = λ e. less.own (subst (λ y. but v waits y ≡ true) e m) in new.others x (sym (less.others x n) ∙ m) n) (takes counts waits (but v waits) less new.was are))
