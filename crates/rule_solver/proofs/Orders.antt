-- An order of solving: its first decisions rely on one another alone, and its decisions differ.
use Rattle.std.proofs.Common.{◌∙◌, ℕ, zero, suc, ◌<◌, ◌≤◌, List, [], ◌∷◌, Contains, length, take, slice_index, sym, subst, arith}
use Rattle.std.proofs.lemmas.List.{get_or_default}
use Rattle.maid_model.specs.Graph.{AllDifferent}
use Rattle.maid_model.specs.Nodes.{IsDecision}
use Rattle.maid_model.specs.Placing.{IsRelianceOrder}
use Rattle.maid_model.specs.Relevance.{ReliesOn}
use Rattle.maid_model.specs.Views.{NodeView}
use Rattle.rule_solver.proofs.Members.{after, taken_more, taken_place}

-- the list has each decision that one of its members relies on
abbrev pub IsClosed : List NodeView → List ℕ → Type 0
IsClosed nodes placed = (v e : ℕ) → Contains placed v → ReliesOn nodes v e → Contains placed e

-- where no member stands among those before it, all differ
all_differ : (xs : List ℕ) → ((k : ℕ) → k < length xs → Contains (take k xs) (slice_index xs k) → ⊥) → AllDifferent xs
all_differ [] h = tt
all_differ (x ∷ xs) h = ((λ c. first c), all_differ xs (λ k l c. h (suc k) (omega arith) (after x (take k xs) (slice_index xs k) c)))
  where
    first : Contains xs x → ⊥
    first c = h (suc c.0) (omega (arith, c.1)) (0, some c.0, sym (get_or_default xs c.0 0 x c.1 ∙ c.2))
      where
        some : (k : ℕ) → 0 < length (x ∷ take k xs)
        some k = omega arith

taken_differ : (xs : List ℕ) (n : ℕ) → AllDifferent xs → AllDifferent (take n xs)
taken_differ xs zero d = tt
taken_differ [] (suc n) d = tt
taken_differ (x ∷ xs) (suc n) d = ((λ c. d.0 (whole c)), taken_differ xs n d.1)
  where
    whole : Contains (take n xs) x → Contains xs x
    whole c = let p = taken_place xs n x c in (p.0, p.2, get_or_default xs p.0 x 0 p.2 ∙ p.3)

module _ (nodes : List NodeView) (order : List ℕ) (is : IsRelianceOrder nodes order) where
  pub placed_decision : (i : ℕ) → i < length order → IsDecision nodes (slice_index order i)
  placed_decision i h = (is.placing i h).0.0.0

  pub relied_before : (i : ℕ) → i < length order → (e : ℕ) → ReliesOn nodes (slice_index order i) e → Contains (take i order) e
  relied_before i h e r = (is.placing i h).0.1 e r

  pub order_differs : AllDifferent order
  order_differs = all_differ order (λ k h c. (is.placing k h).0.0.1 c)

  pub first_differ : (i : ℕ) → AllDifferent (take i order)
  first_differ i = taken_differ order i order_differs

  pub first_closed : (i : ℕ) → IsClosed nodes (take i order)
  first_closed i v e c r =
      let p = taken_place order i v c in
      taken_more order p.0 i e (less p.0 i p.1) (relied_before p.0 p.2 e (subst (λ u. ReliesOn nodes u e) (sym p.3) r))
    where
      less : (a b : ℕ) → a < b → a ≤ b
      less a b h = omega arith
