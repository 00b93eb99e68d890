-- Placing by marks, one item more at a time.
use Rattle.std.proofs.Common.{refl, ◌≡◌, ℕ, ◌<◌, Bool, true, false, List, [], ◌∷◌, ◌++◌, length, take, get_or, ◌↔◌, inl, inr, subst, sym, ◌∙◌, arith, zero, suc, replicate, ap, cond}
use Rattle.std.specs.Prelude.{Contains}
use Rattle.std.proofs.lemmas.Bool.{cases_lt, cases_eq, true_from_ne_false, both_ways}
use Rattle.std.proofs.lemmas.List.{get_or_read, get_or_past, take-append-le, get_or_append_left, take_at, get_or_at, length_push, get_or-set_same, get_or-set_other}
use Rattle.std.proofs.lemmas.List.Elements.{Contains-push, Contains-push_cases, Contains-append_left}
use Rattle.std.specs.Prelude.{set}
use Rattle.maid_model.specs.Placing.{IsLeast, Remains, CanPlace, IsPlacing}
use Rattle.std.specs.Prelude.{count_by, not}
use Rattle.std.proofs.lemmas.List.Sums.{sum_by-set}
use Rattle.diagram_graph.specs.Needs.{IsMarkedIn, NeedsItem}
use Rattle.diagram_graph.specs.Free.{IsFree, IsReady}

pub in_within : (xs : List Bool) (v : ℕ) → IsMarkedIn xs v → v < length xs
in_within xs v h = elim (cases_lt v (length xs)) as (λ _. v < length xs) [ inl l ↦ l | inr g ↦ let e = get_or_past xs v false g in cc ]

pub placing_push : (Item : ℕ → Type 0) (Needs : ℕ → ℕ → Type 0) (order : List ℕ) (v : ℕ) → IsPlacing Item Needs order → IsLeast (CanPlace Item Needs order) v → IsPlacing Item Needs (order ++ v ∷ [])
placing_push Item Needs order v h least k l = elim (cases_lt k (length order)) as (λ _. IsLeast (CanPlace Item Needs (take k (order ++ v ∷ []))) (get_or (order ++ v ∷ []) k 0)) [
  | inl lt ↦ rw (take-append-le k order (v ∷ []) (omega arith), get_or_append_left order (v ∷ []) 0 k lt) (h k lt)
  | inr g ↦
      let e : length order ≡ k = let m = length_push order v in omega arith in
      rw (take_at order (v ∷ []) k e, get_or_at order v [] 0 k e) least
]

-- two sets with the same members have the same least one
pub least_same : (P Q : ℕ → Type 0) → ((x : ℕ) → P x ↔ Q x) → (v : ℕ) → IsLeast P v → IsLeast Q v
least_same P Q f v h = ((f v).0 h.0, λ w l q. h.1 w l ((f w).1 q))

pub free_remains : (items placed : List Bool) (order : List ℕ) → ((v : ℕ) → IsMarkedIn placed v ↔ Contains order v) → (v : ℕ) → IsFree items placed v ↔ Remains (IsMarkedIn items) order v
free_remains items placed order same v = ((λ h. (h.0, λ c. h.1 ((same v).1 c))), (λ h. (h.0, λ c. h.1 ((same v).0 c))))

pub ready_can : (lists : List (List ℕ)) (items placed : List Bool) (order : List ℕ) → ((v : ℕ) → IsMarkedIn placed v ↔ Contains order v) → (v : ℕ) →
    IsReady lists items placed v ↔ CanPlace (IsMarkedIn items) (NeedsItem lists) order v
ready_can lists items placed order same v =
    let f = free_remains items placed order same v in
    ((λ h. (f.0 h.0, λ e n. (same e).0 (h.1 e n))), (λ h. (f.1 h.0, λ e n. (same e).1 (h.1 e n))))

pub marks_push : (placed : List Bool) (order : List ℕ) (u : ℕ) → u < length placed → ((v : ℕ) → IsMarkedIn placed v ↔ Contains order v) → (v : ℕ) →
    IsMarkedIn (set placed u true) v ↔ Contains (order ++ u ∷ []) v
marks_push placed order u lt same v = elim (cases_eq v u) as (λ _. IsMarkedIn (set placed u true) v ↔ Contains (order ++ u ∷ []) v) [
  | inl e ↦ (
    (λ _. subst (λ x. Contains (order ++ u ∷ []) x) (sym e) (Contains-push order u)),
    (λ _. subst (λ x. IsMarkedIn (set placed u true) x) (sym e) (get_or-set_same placed u true false lt)),
  )
  | inr ne ↦
      let other = get_or-set_other placed u v true false ne in (
        (λ m. Contains-append_left order (u ∷ []) v ((same v).0 (sym other ∙ m))),
        (λ c. elim (Contains-push_cases order u v c) as (λ _. IsMarkedIn (set placed u true) v) [ inl h ↦ other ∙ (same v).1 h | inr s ↦ absurd (ne (sym s)) ]),
      )
]

pub marks_none : (placed : List Bool) → ((v : ℕ) → IsMarkedIn placed v → ⊥) → (v : ℕ) → IsMarkedIn placed v ↔ Contains [] v
marks_none placed none v = ((λ h. absurd (none v h)), (λ c. let l = c.1 in absurd (omega arith)))

pub in_unless_free : (items placed : List Bool) (e : ℕ) → IsMarkedIn items e → (IsFree items placed e → ⊥) → IsMarkedIn placed e
in_unless_free items placed e i n = true_from_ne_false (get_or placed e false) (λ f. n (i, λ t. both_ways (get_or placed e false) f t))

-- what a read of a mark says
pub read_mark : (xs : List Bool) (i : ℕ) (x : Bool) → i < length xs → x ≡ get_or xs i x → get_or xs i false ≡ x
read_mark xs i x l e = sym (get_or_read xs i x l e false)

-- nothing is marked at first
pub none_marked : (n v : ℕ) → IsMarkedIn (replicate n false) v → ⊥
none_marked zero v h = cc
none_marked (suc n) zero h = cc
none_marked (suc n) (suc v) h = none_marked n v h

-- a mark leaves fewer without one
abbrev no_mark : Bool → ℕ
no_mark b = cond (not b) 1 0

pub fewer_unmarked : (xs : List Bool) (i : ℕ) → i < length xs → get_or xs i false ≡ false → count_by not (set xs i true) < count_by not xs
fewer_unmarked xs i l h =
    let one : no_mark (get_or xs i false) ≡ 1 = ap no_mark h in
    omega (arith, sum_by-set no_mark xs i true false l, one)

pub unmarked : (b : Bool) → (b ≡ true → ⊥) → b ≡ false
unmarked false n = refl
unmarked true n = absurd (n refl)
