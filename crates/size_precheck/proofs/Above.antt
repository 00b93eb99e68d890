-- From where paths lead to a node, by its parents.
use Rattle.std.proofs.Common.{◌≡◌, ◌∙◌, ◌⊎◌, ◌↔◌, ℕ, ◌+◌, ◌<◌, ◌≤◌, List, [], ◌∷◌, ◌++◌, length, get_or, refl, sym, ap, subst, inl, inr, arith}
use Rattle.std.specs.Prelude.{Contains, slice_set}
use Rattle.std.proofs.lemmas.Bool.{cases_lt, cases_eq}
use Rattle.std.proofs.lemmas.List.{get_or-set_same, get_or-set_other, get_or_append_left, get_or_at, length_push, get_or_default}
use Rattle.maid_model.specs.Graph.{Arc, IsPath, Here, Along}
use Rattle.maid_model.specs.Nodes.{parents_of}
use Rattle.maid_model.specs.Views.{NodeView}
use Rattle.node_sets.specs.Sets.{IsIn}
use Rattle.node_sets.specs.declared.sets.NodeSet.{NodeSet}
use Rattle.size_precheck.specs.declared.planners.Family.{Family}
use Rattle.size_precheck.specs.Above.{IsAbove, set_at}
use Rattle.size_precheck.specs.Families.{family_at, no_family, AreAbove, AreFamilies, IsFamily}

-- the last arc of a path
pub last_arc : (nodes : List NodeView) (v x : ℕ) → IsPath (Arc nodes) x v → (x ≡ v) ⊎ ((p : ℕ) × Arc nodes p v × IsPath (Arc nodes) x p)
last_arc nodes v x Here = inl refl
last_arc nodes v x (Along {v = next} a p) = elim (last_arc nodes v next p) as (λ _. (x ≡ v) ⊎ ((p : ℕ) × Arc nodes p v × IsPath (Arc nodes) x p)) [
  | inl e ↦ inr (x, subst (λ y. Arc nodes x y) e a, Here)
  | inr h ↦ inr (h.0, h.1, Along a h.2)
]

pub one_arc_more : (nodes : List NodeView) (p v x : ℕ) → IsPath (Arc nodes) x p → Arc nodes p v → IsPath (Arc nodes) x v
one_arc_more nodes p v x Here a = Along a Here
one_arc_more nodes p v x (Along {v = next} b q) a = Along b (one_arc_more nodes p v next q a)

-- the node and what leads to its parents so far
pub record IsAboveTo (nodes : List NodeView) (v : ℕ) (parents : List ℕ) (i : ℕ) (above : NodeSet) : Type 0 where
  pub sound : (x : ℕ) → IsIn above x → IsPath (Arc nodes) x v
  pub own : IsIn above v
  pub done : (k : ℕ) → k < i → (x : ℕ) → IsPath (Arc nodes) x (get_or parents k 0) → IsIn above x

pub above_own : (nodes : List NodeView) (v : ℕ) (parents : List ℕ) (own : NodeSet) → ((x : ℕ) → IsIn own x ↔ (x ≡ v)) → IsAboveTo nodes v parents 0 own
above_own nodes v parents own is = record {
  sound = λ x m. subst (λ y. IsPath (Arc nodes) y v) (sym ((is x).0 m)) Here;
  own = (is v).1 refl;
  done = λ k l. absurd (omega arith);
}

pub above_more : (nodes : List NodeView) (v p : ℕ) (parents : List ℕ) (i : ℕ) (above of_parent after : NodeSet) → i < length parents → p ≡ get_or parents i 0 → parents ≡ parents_of nodes v
    → ((x : ℕ) → IsIn of_parent x ↔ IsPath (Arc nodes) x p) → ((x : ℕ) → IsIn after x ↔ (IsIn above x ⊎ IsIn of_parent x)) → IsAboveTo nodes v parents i above → IsAboveTo nodes v parents (i + 1) after
above_more nodes v p parents i above of_parent after within at are leads joined h = record {
  sound = λ x m. elim ((joined x).0 m) as (λ _. IsPath (Arc nodes) x v) [ inl b ↦ h.sound x b | inr q ↦ one_arc_more nodes p v x ((leads x).0 q) arc ];
  own = (joined v).1 (inl h.own);
  done = λ k l x path. elim (cases_lt k i) as (λ _. IsIn after x) [
    | inl before ↦ (joined x).1 (inl (h.done k before x path))
    | inr from ↦
        let same : k ≡ i = omega arith in
        (joined x).1 (inr ((leads x).1 (subst (λ y. IsPath (Arc nodes) x y) (ap (λ n. get_or parents n 0) same ∙ sym at) path)))
  ];
}
  where
    arc : Arc nodes p v
    arc = subst (λ (xs : List ℕ). Contains xs p) are (i, within, get_or_default parents i p 0 within ∙ sym at)

-- what stands in the list of parents is a parent
pub parent_there : (nodes : List NodeView) (v : ℕ) (parents : List ℕ) (i : ℕ) → i < length parents → parents ≡ parents_of nodes v → Arc nodes (get_or parents i 0) v
parent_there nodes v parents i within are =
    subst (λ (xs : List ℕ). Contains xs (get_or parents i 0)) are (i, within, get_or_default parents i (get_or parents i 0) 0 within)

pub above_all : (nodes : List NodeView) (v : ℕ) (parents : List ℕ) (i : ℕ) (above : NodeSet) → length parents ≤ i → parents ≡ parents_of nodes v → IsAboveTo nodes v parents i above → (x : ℕ) → IsIn above x ↔ IsPath (Arc nodes) x v
above_all nodes v parents i above past are h x = (
  h.sound x,
  (λ path. elim (last_arc nodes v x path) as (λ _. IsIn above x) [
    | inl e ↦ subst (IsIn above) (sym e) h.own
    | inr a ↦
        let there : Contains parents a.0 = subst (λ (xs : List ℕ). Contains xs a.0) (sym are) a.1 in
        let l : there.0 < length parents = there.1 in
        let at : get_or parents there.0 0 ≡ a.0 = get_or_default parents there.0 0 a.0 l ∙ there.2 in
        h.done there.0 (omega arith) x (subst (λ y. IsPath (Arc nodes) x y) (sym at) a.2)
  ]),
)

-- the node alone is the end
pub above_by_search : (nodes : List NodeView) (v : ℕ) (own above : NodeSet) → ((x : ℕ) → IsIn own x ↔ (x ≡ v)) → ((x : ℕ) → IsIn above x ↔ ((to : ℕ) × IsIn own to × IsPath (Arc nodes) x to)) → (x : ℕ) → IsIn above x ↔ IsPath (Arc nodes) x v
above_by_search nodes v own above is leads x = (
  (λ m. let h = (leads x).0 m in subst (λ y. IsPath (Arc nodes) x y) ((is h.0).0 h.1) h.2),
  (λ path. (leads x).1 (v, (is v).1 refl, path)),
)

-- a node's set comes to its place
pub above_put : (nodes : List NodeView) (sets : List NodeSet) (v : ℕ) (set : NodeSet) → v < length sets → IsAbove nodes v set → (x : ℕ) → ((x ≡ v → ⊥) → IsAbove nodes x (set_at sets x)) → IsAbove nodes x (set_at (slice_set sets v set) x)
above_put nodes sets v set within is x others = elim (cases_eq x v) as (λ _. IsAbove nodes x (set_at (slice_set sets v set) x)) [
  | inl e ↦ subst (λ y. IsAbove nodes y (set_at (slice_set sets v set) y)) (sym e) (subst (IsAbove nodes v) (sym (get_or-set_same sets v set none within)) is)
  | inr n ↦ subst (IsAbove nodes x) (sym (get_or-set_other sets v x set none n)) (others n)
]
  where
    none : NodeSet
    none = record { words = [] }

-- one family more
pub families_push : (nodes : List NodeView) (states : List ℕ) (families : List Family) (v : ℕ) (family : Family) → length families ≡ v → IsFamily nodes states v family → AreFamilies nodes states families → AreFamilies nodes states (families ++ family ∷ [])
families_push nodes states families v family long is h k l = elim (cases_lt k (length families)) as (λ _. IsFamily nodes states k (family_at (families ++ family ∷ []) k)) [
  | inl lt ↦ rw (get_or_append_left families (family ∷ []) no_family k lt) (h k lt)
  | inr g ↦
      let e : length families ≡ k = let m = length_push families family in omega arith in
      rw (get_or_at families family [] no_family k e) (subst (λ n. IsFamily nodes states n family) (sym long ∙ e) is)
]

-- what leads to one of some ends
pub leads_by : (nodes : List NodeView) (families : List Family) (ends result : NodeSet) → ((t : ℕ) → IsIn ends t → t < length families) → AreAbove nodes families
    → ((v : ℕ) → IsIn result v ↔ ((to : ℕ) × IsIn ends to × IsIn (family_at families to).above v)) → (v : ℕ) → IsIn result v ↔ ((to : ℕ) × IsIn ends to × IsPath (Arc nodes) v to)
leads_by nodes families ends result within above is v = (
  (λ m. let h = (is v).0 m in (h.0, h.1, (above h.0 (within h.0 h.1) v).0 h.2)),
  (λ h. (is v).1 (h.0, h.1, (above h.0 (within h.0 h.1) v).1 h.2)),
)
