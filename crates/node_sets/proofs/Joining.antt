-- Sets of parents and of children, while arcs are added.
use Rattle.std.proofs.Common.{◌≡◌, ℕ, ◌+◌, ◌/◌, ◌%◌, ◌<◌, ◌≤◌, Bool, List, [], length, take, get_or, set, replicate, ◌⊎◌, ◌↔◌, inl, inr, sym, ap, subst, ◌∙◌, arith}
use Rattle.std.specs.Prelude.{Contains}
use Rattle.std.specs.Int.{bit_at}
use Rattle.std.proofs.lemmas.Bool.{cases_eq, cases_lt}
use Rattle.std.proofs.lemmas.List.{get_or-set_same, get_or-set_other, get_or_past, get_or-replicate, length-replicate}
use Rattle.std.proofs.lemmas.Nat.Bits.{bit_at-zero}
use Rattle.node_sets.specs.declared.sets.NodeSet.{NodeSet}
use Rattle.node_sets.specs.Sets.{holds, IsIn, Adds, no_nodes}
use Rattle.node_sets.proofs.Bits.{is_set}
use Rattle.node_sets.proofs.Growing.{first_more}

no_nodes_hold : (x : ℕ) → IsIn no_nodes x → ⊥
unfolding holds
no_nodes_hold x m =
    let past : length {A = ℕ} [] ≤ x / 64 = omega arith in
    let one = is_set _ m in
    let nought = ap (λ word. bit_at word (x % 64)) (get_or_past {X = ℕ} [] (x / 64) 0 past) ∙ bit_at-zero (x % 64) in
    absurd (omega arith)

-- of many empty sets none holds a node
pub none_hold : (n : ℕ) (s : NodeSet) → ((x : ℕ) → IsIn s x → ⊥) → (i x : ℕ) → IsIn (get_or (replicate n s) i no_nodes) x → ⊥
none_hold n s empty i x m = elim (cases_lt i n) as (λ _. ⊥) [
  | inl l ↦ empty x (subst (λ t. IsIn t x) (get_or-replicate n i s no_nodes l) m)
  | inr l ↦ no_nodes_hold x (subst (λ t. IsIn t x) (get_or_past (replicate n s) i no_nodes (let k = length-replicate n s in omega arith)) m)
]

-- the sets are those from before, and v in each of the list besides
abbrev pub GainsFrom : (ℕ → ℕ → Type 0) → List ℕ → ℕ → List NodeSet → Type 0
GainsFrom Before list v sets = (u w : ℕ) → IsIn (get_or sets u no_nodes) w ↔ (Before u w ⊎ (Contains list u × (w ≡ v)))

pub gains_none : (sets : List NodeSet) (list : List ℕ) (v : ℕ) → GainsFrom (λ u w. IsIn (get_or sets u no_nodes) w) (take 0 list) v sets
gains_none sets list v u w = ((λ m. inl m), elim [ inl m ↦ m | inr a ↦ let l = a.0.1 in absurd (omega arith) ])

-- one element more of the list
pub gains_more : (Before : ℕ → ℕ → Type 0) (list : List ℕ) (i v : ℕ) (sets : List NodeSet) (new : NodeSet) (changed : Bool) → i < length list → get_or list i 0 < length sets →
    Adds (λ x. x ≡ v) (get_or sets (get_or list i 0) no_nodes) new changed → GainsFrom Before (take i list) v sets → GainsFrom Before (take (i + 1) list) v (set sets (get_or list i 0) new)
gains_more Before list i v sets new changed within small adds h u w = elim (cases_eq u (get_or list i 0)) as (λ _. IsIn (get_or (set sets (get_or list i 0) new) u no_nodes) w ↔ (Before u w ⊎ (Contains (take (i + 1) list) u × (w ≡ v)))) [
  | inl e ↦
      let same : get_or (set sets (get_or list i 0) new) u no_nodes ≡ new = ap (λ k. get_or (set sets (get_or list i 0) new) k no_nodes) e ∙ get_or-set_same sets (get_or list i 0) new no_nodes small in
      let old : get_or sets u no_nodes ≡ get_or sets (get_or list i 0) no_nodes = ap (λ k. get_or sets k no_nodes) e in (
        (λ m. elim ((adds.all w).0 (subst (λ s. IsIn s w) same m)) as (λ _. Before u w ⊎ (Contains (take (i + 1) list) u × (w ≡ v))) [
          | inl o ↦ elim ((h u w).0 (subst (λ s. IsIn s w) (sym old) o)) as (λ _. Before u w ⊎ (Contains (take (i + 1) list) u × (w ≡ v))) [
            | inl b ↦ inl b
            | inr a ↦ inr ((first_more list i u within).1 (inl a.0), a.1)
          ]
          | inr f ↦ inr ((first_more list i u within).1 (inr e), f)
        ]),
        elim [
          | inl b ↦ subst (λ s. IsIn s w) (sym same) ((adds.all w).1 (inl (subst (λ s. IsIn s w) old ((h u w).1 (inl b)))))
          | inr a ↦ subst (λ s. IsIn s w) (sym same) ((adds.all w).1 (inr a.1))
        ],
      )
  | inr n ↦
      let same : get_or (set sets (get_or list i 0) new) u no_nodes ≡ get_or sets u no_nodes = get_or-set_other sets (get_or list i 0) u new no_nodes n in (
        (λ m. elim ((h u w).0 (subst (λ s. IsIn s w) same m)) as (λ _. Before u w ⊎ (Contains (take (i + 1) list) u × (w ≡ v))) [
          | inl b ↦ inl b
          | inr a ↦ inr ((first_more list i u within).1 (inl a.0), a.1)
        ]),
        elim [
          | inl b ↦ subst (λ s. IsIn s w) (sym same) ((h u w).1 (inl b))
          | inr a ↦ elim ((first_more list i u within).0 a.0) as (λ _. IsIn (get_or (set sets (get_or list i 0) new) u no_nodes) w) [
            | inl t ↦ subst (λ s. IsIn s w) (sym same) ((h u w).1 (inr (t, a.1)))
            | inr e ↦ absurd (n e)
          ]
        ],
      )
]

-- one of the sets gains a list
pub one_gains : (sets : List NodeSet) (v : ℕ) (list : List ℕ) (new : NodeSet) (changed : Bool) → v < length sets → Adds (Contains list) (get_or sets v no_nodes) new changed →
    (u w : ℕ) → IsIn (get_or (set sets v new) w no_nodes) u ↔ (IsIn (get_or sets w no_nodes) u ⊎ (Contains list u × (w ≡ v)))
one_gains sets v list new changed small adds u w = elim (cases_eq w v) as (λ _. IsIn (get_or (set sets v new) w no_nodes) u ↔ (IsIn (get_or sets w no_nodes) u ⊎ (Contains list u × (w ≡ v)))) [
  | inl e ↦
      let same : get_or (set sets v new) w no_nodes ≡ new = ap (λ k. get_or (set sets v new) k no_nodes) e ∙ get_or-set_same sets v new no_nodes small in
      let old : get_or sets w no_nodes ≡ get_or sets v no_nodes = ap (λ k. get_or sets k no_nodes) e in (
        (λ m. elim ((adds.all u).0 (subst (λ s. IsIn s u) same m)) as (λ _. IsIn (get_or sets w no_nodes) u ⊎ (Contains list u × (w ≡ v))) [
          | inl o ↦ inl (subst (λ s. IsIn s u) (sym old) o)
          | inr a ↦ inr (a, e)
        ]),
        elim [
          | inl o ↦ subst (λ s. IsIn s u) (sym same) ((adds.all u).1 (inl (subst (λ s. IsIn s u) old o)))
          | inr a ↦ subst (λ s. IsIn s u) (sym same) ((adds.all u).1 (inr a.0))
        ],
      )
  | inr n ↦
      let same : get_or (set sets v new) w no_nodes ≡ get_or sets w no_nodes = get_or-set_other sets v w new no_nodes n in (
        (λ m. inl (subst (λ s. IsIn s u) same m)),
        elim [ inl o ↦ subst (λ s. IsIn s u) (sym same) o | inr a ↦ absurd (n a.1) ],
      )
]
