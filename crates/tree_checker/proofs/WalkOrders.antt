-- A list of all nodes, each placed after its parents, can be walked down, and sums over it are sums
-- over all nodes.
use Rattle.std.proofs.Common.{◌≡◌, ◌≢◌, ◌∙◌, ◌⊎◌, ℕ, suc, ◌+◌, ◌*◌, ◌<◌, List, [], ◌∷◌, ◌++◌, length, take, slice_index, refl, sym, ap, subst, inl, inr, arith, ℤ, ◌+ℤ◌}
use Rattle.std.proofs.lemmas.Int.{ints}
use Rattle.finite_sums.specs.Members.{Among, Shuffled, none, put}
use Rattle.finite_sums.specs.Sums.{nat_product_over, nat_sum_over, sum_each}
use Rattle.finite_sums.proofs.Lists.{avoids}
use Rattle.maid_laws.proofs.Collapse.{Apart}
use Rattle.maid_laws.proofs.Members.{among_of, arc_of, contains_of, index_of}
use Rattle.maid_laws.proofs.Rearranged.{number, numbered, range_apart, shuffled_of}
use Rattle.maid_model.specs.Graph.{Arc}
use Rattle.maid_model.specs.Nodes.{numbers_of, parents_of}
use Rattle.maid_model.specs.Placing.{IsOrder}
use Rattle.maid_model.specs.Views.{NodeView}
use Rattle.tree_checker.specs.Walks.{IsDownward}

-- ---- placed after the parents
-- each member is a node, stands neither in front nor before in the list, and its parents stand in
-- one of these
record Placed (nodes : List NodeView) (Front : ℕ → Type 0) (vs : List ℕ) (k : ℕ) : Type 0 where
  within : slice_index vs k < length nodes
  not_front : Front (slice_index vs k) → ⊥
  not_before : Among (slice_index vs k) (take k vs) → ⊥
  parents : (e : ℕ) → Arc nodes e (slice_index vs k) → Front e ⊎ Among e (take k vs)

tail_placed : (nodes : List NodeView) (Front : ℕ → Type 0) (v : ℕ) (vs : List ℕ) (k : ℕ) → Placed nodes Front (v ∷ vs) (suc k) → Placed nodes (λ x. (x ≡ v) ⊎ Front x) vs k
tail_placed nodes Front v vs k s = record {
  within = s.within;
  not_front = λ h. elim h [ inl e ↦ s.not_before (inl e) | inr f ↦ s.not_front f ];
  not_before = λ m. s.not_before (inr m);
  parents = λ e a. go e (s.parents e a);
}
  where
    go : (e : ℕ) → Front e ⊎ ((e ≡ v) ⊎ Among e (take k vs)) → ((e ≡ v) ⊎ Front e) ⊎ Among e (take k vs)
    go e (inl f) = inl (inr f)
    go e (inr (inl f)) = inl (inl f)
    go e (inr (inr m)) = inr m

down_from : (nodes : List NodeView) (Front : ℕ → Type 0) (vs : List ℕ) → ((k : ℕ) → k < length vs → Placed nodes Front vs k) → IsDownward nodes vs
down_from nodes Front [] h = tt
down_from nodes Front (v ∷ vs) h = (
  (h 0 (omega arith)).within,
  (λ u m. later u (index_of u vs m)),
  down_from nodes (λ x. (x ≡ v) ⊎ Front x) vs (λ k l. tail_placed nodes Front v vs k (h (suc k) (omega arith))),
)
  where
    later : (u : ℕ) → (k : ℕ) × (k < length vs) × (slice_index vs k ≡ u) → (v ≢ u) × (Among u (parents_of nodes v) → ⊥)
    later u (k, l, e) =
        let s : Placed nodes Front (v ∷ vs) (suc k) = h (suc k) (omega arith) in (
          (λ f. s.not_before (inl (e ∙ sym f))),
          (λ a. s.not_front (subst Front (sym e) (in_front ((h 0 (omega arith)).parents u (arc_of nodes u v a))))),
        )
      where
        in_front : Front u ⊎ Among u [] → Front u
        in_front (inl f) = f
        in_front (inr m) = absurd m

module _ (nodes : List NodeView) (order : List ℕ) (is : IsOrder (λ v. v < length nodes) (λ v p. Arc nodes p v) order) where
  pub order_down : IsDownward nodes order
  order_down = down_from nodes (λ x. ⊥) order (λ k l.
      let s = (is.placing k l).0 in
      record {
        within = s.0.0;
        not_front = λ h. h;
        not_before = λ m. s.0.1 (contains_of (slice_index order k) (take k order) m);
        parents = λ e a. inr (among_of e (take k order) (s.1 e a));
      })

  apart : (vs : List ℕ) → IsDownward nodes vs → Apart vs
  apart [] h = tt
  apart (v ∷ vs) h = (avoids v vs (λ m. (h.1 v m).0 refl), apart vs h.2)

  inside : (vs : List ℕ) → IsDownward nodes vs → (v : ℕ) → Among v vs → v < length nodes
  inside [] h v m = absurd m
  inside (u ∷ us) h v (inl e) = subst (λ x. x < length nodes) (sym e) h.0
  inside (u ∷ us) h v (inr m) = inside us h.2 v m

  pub order_shuffled : Shuffled (numbers_of nodes) order
  order_shuffled =
      shuffled_of (numbers_of nodes) order (range_apart 0 (length nodes)) (apart order order_down)
      (λ v m. among_of v order (is.complete v (numbered nodes v m)))
      (λ v m. number nodes v (inside order order_down v m))

-- ---- sums and products over shuffled lists
pub each_shuffled : (f : ℕ → ℤ) {xs ys : List ℕ} → Shuffled xs ys → sum_each f xs ≡ sum_each f ys
each_shuffled f none = refl
each_shuffled f (put {x} front back s) = let rest = each_shuffled f s in ap (λ k. f x +ℤ k) rest ∙ sym (first front)
  where
    first : (us : List ℕ) → sum_each f (us ++ x ∷ back) ≡ f x +ℤ sum_each f (us ++ back)
    first [] = refl
    first (u ∷ us) = omega (arith, ints, first us)

pub nat_sum_shuffled : (f : ℕ → ℕ) {xs ys : List ℕ} → Shuffled xs ys → nat_sum_over f xs ≡ nat_sum_over f ys
nat_sum_shuffled f none = refl
nat_sum_shuffled f (put {x} front back s) = let rest = nat_sum_shuffled f s in ap (λ k. f x + k) rest ∙ sym (first front)
  where
    first : (us : List ℕ) → nat_sum_over f (us ++ x ∷ back) ≡ f x + nat_sum_over f (us ++ back)
    first [] = refl
    first (u ∷ us) = omega (arith, first us)

pub nat_product_shuffled : (f : ℕ → ℕ) {xs ys : List ℕ} → Shuffled xs ys → nat_product_over f xs ≡ nat_product_over f ys
nat_product_shuffled f none = refl
nat_product_shuffled f (put {x} front back s) = let rest = nat_product_shuffled f s in ap (λ k. f x * k) rest ∙ sym (first front)
  where
    swap : (a b c : ℕ) → a * (b * c) ≡ b * (a * c)
    swap a b c = omega arith

    first : (us : List ℕ) → nat_product_over f (us ++ x ∷ back) ≡ f x * nat_product_over f (us ++ back)
    first [] = refl
    first (u ∷ us) = ap (λ k. f u * k) (first us) ∙ swap (f u) (f x) (nat_product_over f (us ++ back))
