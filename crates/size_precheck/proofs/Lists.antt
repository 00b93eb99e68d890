-- Lists of the members of a set, along a walk.
use Rattle.std.proofs.Common.{◌≡◌, ◌⊎◌, ℕ, zero, suc, ◌+◌, ◌<◌, ◌≤◌, List, [], ◌∷◌, ◌++◌, length, get_or, inl, inr, arith}
use Rattle.node_sets.specs.declared.sets.NodeSet.{NodeSet}
use Rattle.node_sets.specs.Sets.{IsIn, IsFirstFrom}
use Rattle.size_precheck.specs.Joints.{SomeOf, HoldsOfEach, Rising, IsListOf}
use Rattle.size_precheck.proofs.Somewhere.{push_some, each_push, each_map}

-- by place
pub each_at : (P : ℕ → Type 0) (list : List ℕ) (i d : ℕ) → HoldsOfEach P list → i < length list → P (get_or list i d)
each_at P [] i d h l = absurd (omega arith)
each_at P (x ∷ xs) zero d h l = h.0
each_at P (x ∷ xs) (suc i) d h l = each_at P xs i d h.1 (omega arith)

pub some_at : (v : ℕ) (list : List ℕ) → SomeOf (λ x. x ≡ v) list → (i : ℕ) × (i < length list) × (get_or list i 0 ≡ v)
some_at v [] h = absurd h
some_at v (x ∷ xs) (inl e) = (0, omega arith, e)
some_at v (x ∷ xs) (inr s) = let a = some_at v xs s in let l = a.1 in (suc a.0, omega arith, a.2)

-- ---- one more at the end
pub rising_push : (list : List ℕ) (v : ℕ) → Rising list → HoldsOfEach (λ x. x < v) list → Rising (list ++ v ∷ [])
rising_push [] v r h = (tt, tt)
rising_push (x ∷ xs) v r h = (each_push (λ y. x < y) xs v r.0 h.0, rising_push xs v r.1 h.1)

-- the members so far, along a walk
pub record IsListTo (set : NodeSet) (from : ℕ) (list : List ℕ) : Type 0 where
  pub inside : HoldsOfEach (λ v. IsIn set v × (v < from)) list
  pub all : (v : ℕ) → v < from → IsIn set v → SomeOf (λ x. x ≡ v) list
  pub rising : Rising list

pub list_more : (set : NodeSet) (from v : ℕ) (list : List ℕ) → IsFirstFrom set from v → IsListTo set from list → IsListTo set (v + 1) (list ++ v ∷ [])
list_more set from v list f h = record {
  inside = each_push (λ x. IsIn set x × (x < v + 1)) list v (each_map (λ x. IsIn set x × (x < from)) (λ x. IsIn set x × (x < v + 1)) (λ x k. (k.0, further x k.1)) list h.inside) (f.inside, here v);
  all = λ x l m. push_some (λ y. y ≡ x) list v (elim (old_or_new x l) as (λ _. SomeOf (λ y. y ≡ x) list ⊎ (v ≡ x)) [
    | inl o ↦ elim (before_or_from x) as (λ _. SomeOf (λ y. y ≡ x) list ⊎ (v ≡ x)) [ inl b ↦ inl (h.all x b m) | inr a ↦ absurd (f.first x a o m) ]
    | inr e ↦ inr e
  ]);
  rising = rising_push list v h.rising (each_map (λ x. IsIn set x × (x < from)) (λ x. x < v) (λ x k. less x k.1) list h.inside);
}
  where
    further : (x : ℕ) → x < from → x < v + 1
    further x l = let a = f.not_before in omega arith

    less : (x : ℕ) → x < from → x < v
    less x l = let a = f.not_before in omega arith

    here : (v : ℕ) → v < v + 1
    here v = omega arith

    old_or_new : (x : ℕ) → x < v + 1 → (x < v) ⊎ (v ≡ x)
    old_or_new x l = grind arith

    before_or_from : (x : ℕ) → (x < from) ⊎ (from ≤ x)
    before_or_from x = grind arith

pub list_done : (set : NodeSet) (from : ℕ) (list : List ℕ) → IsListTo set from list → ((v : ℕ) → from ≤ v → IsIn set v → ⊥) → IsListOf set list
list_done set from list h none = record {
  inside = each_map (λ x. IsIn set x × (x < from)) (λ x. IsIn set x) (λ x k. k.0) list h.inside;
  all = λ v m. elim (before_or_from v) as (λ _. SomeOf (λ y. y ≡ v) list) [ inl b ↦ h.all v b m | inr a ↦ absurd (none v a m) ];
  rising = h.rising;
}
  where
    before_or_from : (x : ℕ) → (x < from) ⊎ (from ≤ x)
    before_or_from x = grind arith
