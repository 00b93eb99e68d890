-- Members of lists by cases and by place.
use Rattle.std.proofs.Common.{◌≡◌, ◌↔◌, ℕ, zero, suc, ◌<◌, List, [], ◌∷◌, length, slice_index, slice_index_or, refl, sym, inl, inr, arith}
use Rattle.std.specs.Prelude.{Contains}
use Rattle.maid_model.specs.Views.{NodeView}
use Rattle.maid_model.specs.Nodes.{parents_of}
use Rattle.maid_model.specs.Graph.{Arc, AllDifferent}
use Rattle.maid_model.specs.Relevance.{IsInFamily}
use Rattle.finite_sums.specs.Members.{Among}
use Rattle.finite_sums.specs.Members.{Avoids}
use Rattle.finite_sums.proofs.Lists.{avoids}
use Rattle.maid_laws.proofs.Notions.{IsParent}
use Rattle.maid_laws.proofs.Collapse.{Apart}

-- from cases to places
pub contains_of : (x : ℕ) (xs : List ℕ) → Among x xs → Contains xs x
contains_of x [] m = absurd m
contains_of x (y ∷ ys) (inl e) = (0, omega arith, sym e)
contains_of x (y ∷ ys) (inr m) = let r = contains_of x ys m in let l : r.0 < length ys = r.1 in (suc r.0, omega arith, r.2)

-- by induction over the list
among_at : (x : ℕ) (xs : List ℕ) (k : ℕ) → k < length xs → slice_index_or xs k x ≡ x → Among x xs
among_at x [] k l e = absurd (omega arith)
among_at x (y ∷ ys) zero l e = inl (sym e)
among_at x (y ∷ ys) (suc k) l e = inr (among_at x ys k (omega arith) e)

-- from places to cases
pub among_of : (x : ℕ) (xs : List ℕ) → Contains xs x → Among x xs
among_of x xs h = among_at x xs h.0 h.1 h.2

-- the member at a place
pub among_index : (xs : List ℕ) (k : ℕ) → k < length xs → Among (slice_index xs k) xs
among_index [] k l = absurd (omega arith)
among_index (y ∷ ys) zero l = inl refl
among_index (y ∷ ys) (suc k) l = inr (among_index ys k (omega arith))

-- the place of a member
pub index_of : (x : ℕ) (xs : List ℕ) → Among x xs → (k : ℕ) × (k < length xs) × (slice_index xs k ≡ x)
index_of x [] m = absurd m
index_of x (y ∷ ys) (inl e) = (0, omega arith, sym e)
index_of x (y ∷ ys) (inr m) = let r = index_of x ys m in let l : r.0 < length ys = r.1 in (suc r.0, omega arith, r.2)

-- what a list avoids is no member
pub not_among : (u : ℕ) (xs : List ℕ) → Avoids u xs → ¬ (Among u xs)
not_among u [] a m = m
not_among u (x ∷ xs) a (inl e) = a.0 (sym e)
not_among u (x ∷ xs) a (inr m) = not_among u xs a.1 m

-- no repetition, either way
pub apart_of : (xs : List ℕ) → AllDifferent xs → Apart xs
apart_of [] h = tt
apart_of (x ∷ xs) h = (avoids x xs (λ m. h.0 (contains_of x xs m)), apart_of xs h.1)

pub different_of : (xs : List ℕ) → Apart xs → AllDifferent xs
different_of [] h = tt
different_of (x ∷ xs) h = ((λ c. not_among x xs h.0 (among_of x xs c)), different_of xs h.1)

-- arcs, either way
pub arc_of : (nodes : List NodeView) (u v : ℕ) → IsParent nodes u v → Arc nodes u v
arc_of nodes u v a = contains_of u (parents_of nodes v) a

pub parent_of : (nodes : List NodeView) (u v : ℕ) → Arc nodes u v → IsParent nodes u v
parent_of nodes u v a = among_of u (parents_of nodes v) a

-- d and its parents, either way
pub fixed_same : (nodes : List NodeView) (d x : ℕ) → IsInFamily (IsParent nodes) d x ↔ IsInFamily (Arc nodes) d x
fixed_same nodes d x = (there, back)
  where
    there : IsInFamily (IsParent nodes) d x → IsInFamily (Arc nodes) d x
    there (inl e) = inl e
    there (inr a) = inr (arc_of nodes x d a)

    back : IsInFamily (Arc nodes) d x → IsInFamily (IsParent nodes) d x
    back (inl e) = inl e
    back (inr a) = inr (parent_of nodes x d a)
