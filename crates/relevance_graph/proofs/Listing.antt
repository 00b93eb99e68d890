-- Lists of numbers in rising order, one number more at a time.
use Rattle.std.proofs.Common.{◌≡◌, ℕ, ◌+◌, ◌<◌, ◌≤◌, List, [], ◌∷◌, ◌++◌, length, get_or, ◌⊎◌, inl, inr, subst, sym, arith, ◌↔◌, ◌∙◌, refl}
use Rattle.std.specs.Prelude.{Contains, Result, Ok, Err, IsTrue, is_ok}
use Rattle.std.specs.Ordering.{nat_cmp}
use Rattle.std.specs.List.Sorted.{IsBinarySearchResult}
use Rattle.std.proofs.lemmas.List.Sorted.{searched}
use Rattle.std.proofs.lemmas.Bool.{cases_eq, cases_lt, false≢true}
use Rattle.std.proofs.lemmas.List.{get_or_append_left, get_or_at, length_push, get_or_past, get_or_default}
use Rattle.std.proofs.lemmas.List.Elements.{Contains-push, Contains-push_cases, Contains-append_left, Contains-get_or}
use Rattle.maid_model.specs.Views.{NodeView}
use Rattle.maid_model.specs.Relevance.{ReliesOn}
use Rattle.diagram_graph.specs.Needs.{needs_of}
use Rattle.relevance_graph.specs.Steps.{ListsBelow, TellsReliance}
use Rattle.relevance_graph.specs.Views.{IsRising}

module _ (P : ℕ → Type 0) where
  -- the next number has the property, and is added at the end
  pub lists_push : (n : ℕ) (list : List ℕ) → ListsBelow P n list → P n → ListsBelow P (n + 1) (list ++ n ∷ [])
  lists_push n list h p = record {
    members = λ v. (
      (λ c. elim (Contains-push_cases list n v c) as (λ _. P v × (v < n + 1)) [
        | inl t ↦ let q = (h.members v).0 t in let l = q.1 in (q.0, omega arith)
        | inr e ↦ subst (λ x. P x × (x < n + 1)) e (p, omega arith)
      ]),
      (λ q. elim (cases_eq v n) as (λ _. Contains (list ++ n ∷ []) v) [
        | inl e ↦ subst (λ x. Contains (list ++ n ∷ []) x) (sym e) (Contains-push list n)
        | inr ne ↦ let l = q.1 in Contains-append_left list (n ∷ []) v ((h.members v).1 (q.0, omega arith))
      ]),
    );
    rising = λ i j l m. rise i j l m (cases_lt j (length list));
  }
    where
      rise : (i j : ℕ) → i < j → j < length (list ++ n ∷ []) → (j < length list) ⊎ (length list ≤ j) → get_or (list ++ n ∷ []) i 0 < get_or (list ++ n ∷ []) j 0
      rise i j l m (inl a) = rw (get_or_append_left list (n ∷ []) 0 i (omega arith), get_or_append_left list (n ∷ []) 0 j a) (h.rising i j l a)
      rise i j l m (inr b) =
          let e : length list ≡ j = let k = length_push list n in omega arith in
          let inside : i < length list = omega arith in
          rw (get_or_append_left list (n ∷ []) 0 i inside, get_or_at list n [] 0 j e) ((h.members (get_or list i 0)).0 (Contains-get_or list i 0 inside)).1

  -- the next number does not have it
  pub lists_skip : (n : ℕ) (list : List ℕ) → ListsBelow P n list → (P n → ⊥) → ListsBelow P (n + 1) list
  lists_skip n list h never = record {
    members = λ v. (
      (λ c. let q = (h.members v).0 c in let l = q.1 in (q.0, omega arith)),
      (λ q. elim (cases_eq v n) as (λ _. Contains list v) [
        | inl e ↦ absurd (never (subst P e q.0))
        | inr ne ↦ let l = q.1 in (h.members v).1 (q.0, omega arith)
      ]),
    );
    rising = h.rising;
  }

  -- of two members the smaller stands first
  pub earlier : (n : ℕ) (list : List ℕ) → ListsBelow P n list → (i j : ℕ) → i < length list → j < length list → get_or list i 0 < get_or list j 0 → i < j
  earlier n list h i j li lj less = elim (cases_lt i j) as (λ _. i < j) [
    | inl l ↦ l
    | inr g ↦ elim (cases_eq i j) as (λ _. i < j) [
      | inl e ↦ let same : get_or list i 0 < get_or list i 0 = subst (λ k. get_or list i 0 < get_or list k 0) (sym e) less in absurd (omega arith)
      | inr ne ↦ let r = h.rising j i (omega arith) li in absurd (omega arith)
    ]
  ]

-- what one node more relies on
pub tells_push : (nodes : List NodeView) (n : ℕ) (lists : List (List ℕ)) (list : List ℕ) → TellsReliance nodes n lists → ListsBelow (ReliesOn nodes n) (length nodes) list → TellsReliance nodes (n + 1) (lists ++ list ∷ [])
tells_push nodes n lists list h more = record {
  count = let l = length_push lists list in let m = h.count in omega arith;
  each = λ d l. elim (cases_lt d n) as (λ _. ListsBelow (ReliesOn nodes d) (length nodes) (needs_of (lists ++ list ∷ []) d)) [
    | inl less ↦ rw (get_or_append_left lists (list ∷ []) [] d (let m = h.count in omega arith)) (h.each d less)
    | inr g ↦
        let same : n ≡ d = omega arith in
        let e : length lists ≡ d = let m = h.count in omega arith in
        rw (get_or_at lists list [] [] d e) (subst (λ x. ListsBelow (ReliesOn nodes x) (length nodes) list) same more)
  ];
}

-- what lists of reliance have rises
pub tells_rising : (nodes : List NodeView) (lists : List (List ℕ)) → TellsReliance nodes (length nodes) lists → (d : ℕ) → IsRising (needs_of lists d)
tells_rising nodes lists h d = elim (cases_lt d (length nodes)) as (λ _. IsRising (needs_of lists d)) [
  | inl l ↦ (h.each d l).rising
  | inr g ↦ rw (get_or_past lists d [] (let m = h.count in omega arith)) (λ i j l m. absurd (omega arith))
]

rising_le : (list : List ℕ) → IsRising list → (i j : ℕ) → i ≤ j → j < length list → get_or list i 0 ≤ get_or list j 0
rising_le list h i j l m = elim (cases_eq i j) as (λ _. get_or list i 0 ≤ get_or list j 0) [
  | inl e ↦ subst (λ k. get_or list i 0 ≤ get_or list k 0) e (omega arith)
  | inr ne ↦ let r = h i j (omega arith) m in omega arith
]

-- a search by halves finds what a rising list has
pub search_finds : (list : List ℕ) (x : ℕ) (r : Result ℕ ℕ) → IsRising list → IsBinarySearchResult (λ y. nat_cmp y x) list r → IsTrue (is_ok r) ↔ Contains list x
search_finds list x (Ok i) h s =
    let f = searched list x (Ok i) s (rising_le list h) in ((λ _. (i, f.0, get_or_default list i x 0 f.0 ∙ f.1)), (λ _. refl))
search_finds list x (Err i) h s =
    let f = searched list x (Err i) s (rising_le list h) in (
      (λ t. absurd (false≢true t)),
      (λ c.
          let at : get_or list c.0 0 ≡ x = get_or_default list c.0 0 x c.1 ∙ c.2 in
          absurd (elim (cases_lt c.0 i) as (λ _. ⊥) [ inl l ↦ let k = f.1 c.0 l in absurd (omega arith) | inr g ↦ let k = f.2 c.0 g c.1 in absurd (omega arith) ])),
    )
