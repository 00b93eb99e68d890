-- The order is gone through decision by decision, with the set of those passed.
use Rattle.std.proofs.Common.{◌≡◌, ◌⊎◌, ◌↔◌, ℕ, ◌+◌, ◌<◌, ◌≤◌, List, [], ◌∷◌, ◌++◌, take, length, get_or, slice_index, sym, subst, inl, inr, arith}
use Rattle.std.proofs.Math.Decide.{ℕ_discrete}
use Rattle.std.proofs.lemmas.List.{take_more}
use Rattle.std.proofs.lemmas.List.Elements.{Contains-append_left, Contains-push, Contains-push_cases}
use Rattle.std.specs.Prelude.{Contains}
use Rattle.node_sets.specs.declared.sets.NodeSet.{NodeSet}
use Rattle.node_sets.specs.Sets.{IsIn}
use Rattle.maid_model.specs.Accepted.{IsReliedFirst}
use Rattle.maid_model.specs.Relevance.{ReliesOn}
use Rattle.maid_model.specs.Views.{NodeView}

-- the set has the first n decisions of the order, each of which stands after those that it relies
-- on
pub record PlacedSoFar (nodes : List NodeView) (order : List ℕ) (n : ℕ) (placed : NodeSet) : Type 0 where
  pub passed : (v : ℕ) → IsIn placed v ↔ Contains (take n order) v
  pub relied : (i e : ℕ) → i < n → ReliesOn nodes (slice_index order i) e → Contains (take i order) e

pub placed_start : (nodes : List NodeView) (order : List ℕ) (set : NodeSet) → ((v : ℕ) → IsIn set v → ⊥) → PlacedSoFar nodes order 0 set
placed_start nodes order set none = record { passed = λ v. ((λ h. absurd (none v h)), (λ c. absurd (nothing order v c))); relied = λ i e l. absurd (omega arith) }
  where
    nothing : (xs : List ℕ) (v : ℕ) → Contains (take 0 xs) v → ⊥
    nothing [] v c = omega (arith, c.1)
    nothing (x ∷ xs) v c = omega (arith, c.1)

module _ (nodes : List NodeView) (order : List ℕ) (n : ℕ) (placed : NodeSet) (so : PlacedSoFar nodes order n placed) where
  pub placed_next : (more : NodeSet) → n < length order → ((v : ℕ) → IsIn more v ↔ (IsIn placed v ⊎ (v ≡ get_or order n 0))) → ((e : ℕ) → ReliesOn nodes (get_or order n 0) e → IsIn placed e) → PlacedSoFar nodes order (n + 1) more
  placed_next more l adds relied = record {
    passed = λ v. ((λ h. there v ((adds v).0 h)), (λ c. (adds v).1 (was v (Contains-push_cases (take n order) (get_or order n 0) v (subst (λ xs. Contains xs v) one_more c)))));
    relied = λ i e k r. last i e k r (ℕ_discrete i n);
  }
    where
      one_more : take (n + 1) order ≡ take n order ++ get_or order n 0 ∷ []
      one_more = take_more order n 0 l

      there : (v : ℕ) → IsIn placed v ⊎ (v ≡ get_or order n 0) → Contains (take (n + 1) order) v
      there v (inl h) = subst (λ xs. Contains xs v) (sym one_more) (Contains-append_left (take n order) (get_or order n 0 ∷ []) v ((so.passed v).0 h))
      there v (inr e) = subst (λ xs. Contains xs v) (sym one_more) (subst (Contains (take n order ++ get_or order n 0 ∷ [])) (sym e) (Contains-push (take n order) (get_or order n 0)))

      was : (v : ℕ) → Contains (take n order) v ⊎ (get_or order n 0 ≡ v) → IsIn placed v ⊎ (v ≡ get_or order n 0)
      was v (inl c) = inl ((so.passed v).1 c)
      was v (inr e) = inr (sym e)

      earlier : (i : ℕ) → i < n + 1 → (i ≡ n → ⊥) → i < n
      earlier i k m = omega arith

      last : (i e : ℕ) → i < n + 1 → ReliesOn nodes (slice_index order i) e → Dec (i ≡ n) → Contains (take i order) e
      last i e k r (yes f) = subst (λ j. Contains (take j order) e) (sym f) ((so.passed e).0 (relied e (subst (λ j. ReliesOn nodes (slice_index order j) e) f r)))
      last i e k r (no m) = so.relied i e (earlier i k m) r

  -- in an order that is right, the relied-on decisions are in the set
  pub placed_if : n < length order → IsReliedFirst nodes order → (e : ℕ) → ReliesOn nodes (get_or order n 0) e → IsIn placed e
  placed_if l right e r = (so.passed e).1 (right n e l r)

  pub placed_end : length order ≤ n → IsReliedFirst nodes order
  placed_end h i e l r = so.relied i e (omega arith) r
