-- The nodes of a scope in another order: they are shuffled, so sums and products over them are the
-- same.
use Rattle.std.proofs.Common.{◌≡◌, ◌∙◌, ◌↔◌, ℕ, suc, ◌+◌, ◌*◌, ◌<◌, Bool, true, List, [], ◌∷◌, ◌++◌, length, get_or, refl, sym, ap, arith, All, Contains}
use Rattle.std.proofs.lemmas.List.{get_or_default}
use Rattle.finite_sums.specs.Sums.{World}
use Rattle.finite_sums.specs.Members.{Shuffled, none, put}
use Rattle.finite_sums.proofs.Lists.{among_filter}
use Rattle.maid_laws.proofs.Basis.{among_filter_in}
use Rattle.maid_laws.proofs.Members.{among_of, contains_of, apart_of}
use Rattle.maid_laws.proofs.Rearranged.{shuffled_of, apart_filter, range_apart, number}
use Rattle.maid_model.specs.Graph.{AllDifferent}
use Rattle.maid_model.specs.Views.{NodeView}
use Rattle.maid_model.specs.Nodes.{numbers_of, rows_under}
use Rattle.factor_core.specs.Slots.{nodes_in}
use Rattle.factor_core.specs.Tables.{out_place}
use Rattle.factor_core.proofs.Collapse.{AllOnce}

-- different nodes that are those of the scope
pub shuffled_nodes : (nodes : List NodeView) (h : ℕ → Bool) (vs : List ℕ) → AllDifferent vs → ((v : ℕ) → Contains vs v ↔ (h v ≡ true)) → ((v : ℕ) → h v ≡ true → v < length nodes) → Shuffled vs (nodes_in nodes h)
shuffled_nodes nodes h vs different are known =
    shuffled_of vs (nodes_in nodes h) (apart_of vs different) (apart_filter h (numbers_of nodes) (range_apart 0 (length nodes)))
    (λ v m. let t = (are v).0 (contains_of v vs m) in among_filter_in h v (numbers_of nodes) (number nodes v (known v t)) t)
    (λ v m. among_of v vs ((are v).1 (among_filter h v (numbers_of nodes) m).1))

pub out_shuffled : (f : ℕ → ℕ) (w : World) {xs ys : List ℕ} → Shuffled xs ys → out_place f xs w ≡ out_place f ys w
out_shuffled f w none = refl
out_shuffled f w (put {x} front back s) = let rest = out_shuffled f w s in ap (λ k. w x * f x + k) rest ∙ sym (first front)
  where
    first : (us : List ℕ) → out_place f (us ++ x ∷ back) w ≡ w x * f x + out_place f (us ++ back) w
    first [] = refl
    first (u ∷ us) = omega (arith, first us)

pub rows_shuffled : (count : ℕ → ℕ) {xs ys : List ℕ} → Shuffled xs ys → rows_under count xs ≡ rows_under count ys
rows_shuffled count none = refl
rows_shuffled count (put {x} front back s) = let rest = rows_shuffled count s in ap (λ k. count x * k) rest ∙ sym (first front)
  where
    swap : (a b c : ℕ) → a * (b * c) ≡ b * (a * c)
    swap a b c = omega arith

    first : (us : List ℕ) → rows_under count (us ++ x ∷ back) ≡ count x * rows_under count (us ++ back)
    first [] = refl
    first (u ∷ us) = ap (λ k. count u * k) (first us) ∙ swap (count u) (count x) (rows_under count (us ++ back))

pub length_shuffled : {xs ys : List ℕ} → Shuffled xs ys → length xs ≡ length ys
length_shuffled none = refl
length_shuffled (put {x} front back s) = let rest = length_shuffled s in ap suc rest ∙ sym (first front)
  where
    first : (us : List ℕ) → length (us ++ x ∷ back) ≡ suc (length (us ++ back))
    first [] = refl
    first (u ∷ us) = ap suc (first us)

pub once_of : (vs : List ℕ) → AllDifferent vs → AllOnce vs
once_of [] h = tt
once_of (v ∷ vs) h = (record { none = λ i l e. h.0 (i, l, get_or_default vs i v 0 l ∙ e) }, once_of vs h.1)

pub below_of : (n : ℕ) (vs : List ℕ) → ((v : ℕ) → Contains vs v → v < n) → All (λ v. v < n) vs
below_of n vs h = λ i d l. h (get_or vs i d) (i, l, get_or_default vs i (get_or vs i d) d l)
