-- The place at which the first scope that fails does so: there is one, and one alone.
use Rattle.std.proofs.Common.{◌≡◌, ◌⊎◌, ℕ, zero, suc, ◌+◌, ◌*◌, ◌^◌, ◌<◌, ◌≤◌, max, ltb, List, ◌∷◌, refl, sym, ap, subst, inl, inr, arith}
use Rattle.finite_sums.specs.Sums.{nat_product_over}
use Rattle.maid_model.specs.declared.diagrams.Kind.{Kind}
use Rattle.maid_model.specs.declared.diagrams.Kind.TheVariants.{Chance, Decision, Utility}
use Rattle.maid_model.specs.Views.{DiagramView}
use Rattle.maid_model.specs.Nodes.{IsDecision, node_at, states_of}
use Rattle.maid_model.specs.Tables.{chance_total}
use Rattle.maid_model.specs.Bounds.{bound_by, bound_factor}
use Rattle.maid_model.specs.Diagrams.{IsDiagram, greatest_number}
use Rattle.maid_model.specs.Scopes.{goals_of, utilities_for, scope_of, scope_for, scope_product, scope_product_for, chance_factor, chance_factor_by, greatest_of, scope_bound, scope_bound_for, product_before, KeepsScopedBounds, PassesInScope, FailsFirst, FailsFirstFor}
use Rattle.part_laws.proofs.ScopePlaces.{failure_law, passing_law}
use Rattle.weight_scale.proofs.Bounding.{filter_within}
use Rattle.weight_scale.specs.Bound.{IsPassedAt, IsPassedByUtilities, IsBoundPlace}
use Rattle.weight_scale.specs.Laws.{HasBoundPlace, OneBoundPlace}
use Rattle.weight_scale.specs.ScopePlaces.{factor_by, members_of, IsScope, IsPlaceIn, IsPlaceInScope, IsPlaceOfDecisions}
use Rattle.weight_scale.specs.declared.scopes.Scope.{Scope}
use Rattle.weight_scale.specs.declared.scopes.Counted.{Counted}
use Rattle.weight_scale.specs.declared.scopes.Counted.TheVariants.{ChanceAndDecisions, ChanceAlone}
use Rattle.weight_scale.specs.declared.weight_bound.BoundPlace.{BoundPlace}
use Rattle.weight_scale.specs.declared.weight_bound.BoundPlace.TheVariants.{Within, Node, Utilities}

here_or_before : (a b : ℕ) → a < b + 1 → (a ≡ b) ⊎ (a < b)
here_or_before a b l = grind arith

-- a node counts with a number above nought
pub factor_positive : (d : DiagramView) → IsDiagram d → (counted : Counted) (v : ℕ) → 0 < factor_by counted d.nodes v
factor_positive d is ChanceAndDecisions v = go (node_at d.nodes v).kind (is.tables.positive v) (is.graph.has_state v)
  where
    go : (k : Kind) → (k ≡ Chance → 0 < chance_total d.nodes v) → 0 < states_of d.nodes v → 0 < bound_by k (chance_total d.nodes v) (states_of d.nodes v)
    go Chance total states = total refl
    go Decision total states = states
    go Utility total states = omega arith
factor_positive d is ChanceAlone v = go (node_at d.nodes v).kind (is.tables.positive v)
  where
    go : (k : Kind) → (k ≡ Chance → 0 < chance_total d.nodes v) → 0 < chance_factor_by k (chance_total d.nodes v)
    go Chance total = total refl
    go Decision total = omega arith
    go Utility total = omega arith

-- the place of a scope, by what its definition lists
pub place_is : (d : DiagramView) (s : Scope) (counted : Counted) (members us : List ℕ) (place : BoundPlace) → IsScope d.nodes counted members us s
    → IsPlaceIn d s place → IsPlaceInScope d (factor_by counted d.nodes) members us place
place_is d s counted members us place is h =
    subst (λ c. IsPlaceInScope d (factor_by c d.nodes) members us place) is.counts
    (subst (λ m. IsPlaceInScope d (factor_by s.counted d.nodes) m us place) is.members_are
    (subst (λ m. IsPlaceInScope d (factor_by s.counted d.nodes) (members_of d.nodes s.nodes) m place) is.utilities_are h))

-- the first decision that fails gives the place
pub place_of_decision : (d : DiagramView) (place : BoundPlace) → ¬ (place ≡ Within) → IsPlaceOfDecisions d place → IsBoundPlace d place
place_of_decision d Within n h = absurd (n refl)
place_of_decision d (Node v) n h = inl h
place_of_decision d Utilities n h = inl h

-- and where none does, the first agent
pub place_of_agent : (d : DiagramView) (a : ℕ) (place : BoundPlace) → ¬ (place ≡ Within) → a < d.agents → ((v : ℕ) → IsDecision d.nodes v → scope_bound d v ≤ greatest_number)
    → ((other : ℕ) → other < a → scope_bound_for d other ≤ greatest_number) → IsPlaceInScope d (chance_factor d.nodes) (scope_for d.nodes a) (utilities_for d.nodes a) place → IsBoundPlace d place
place_of_agent d a Within n l decisions before h = absurd (n refl)
place_of_agent d a (Node v) n l decisions before h = inr (a, record { within = l; fails = h.0; decisions = decisions; first = before }, h.1)
place_of_agent d a Utilities n l decisions before h = inr (a, record { within = l; fails = h.0; decisions = decisions; first = before }, h.1)

-- one decision or agent more whose bound holds
pub one_more_decision : (d : DiagramView) (v : ℕ) → ((e : ℕ) → IsDecision d.nodes e → e < v → scope_bound d e ≤ greatest_number) → (IsDecision d.nodes v → scope_bound d v ≤ greatest_number)
    → (e : ℕ) → IsDecision d.nodes e → e < v + 1 → scope_bound d e ≤ greatest_number
one_more_decision d v before here e is l = go (here_or_before e v l)
  where
    go : (e ≡ v) ⊎ (e < v) → scope_bound d e ≤ greatest_number
    go (inl k) = subst (λ x. scope_bound d x ≤ greatest_number) (sym k) (here (subst (IsDecision d.nodes) k is))
    go (inr k) = before e is k

pub one_more_agent : (d : DiagramView) (a : ℕ) → ((other : ℕ) → other < a → scope_bound_for d other ≤ greatest_number) → scope_bound_for d a ≤ greatest_number → (other : ℕ) → other < a + 1 → scope_bound_for d other ≤ greatest_number
one_more_agent d a before here other l = go (here_or_before other a l)
  where
    go : (other ≡ a) ⊎ (other < a) → scope_bound_for d other ≤ greatest_number
    go (inl k) = subst (λ x. scope_bound_for d x ≤ greatest_number) (sym k) here
    go (inr k) = before other k

-- ---- there is a place
pub has_place : HasBoundPlace
has_place d = go (failure_law d)
  where
    of_decision : (e : ℕ) → FailsFirst d e → (scope_product d.nodes e ≤ greatest_number) ⊎ ((v : ℕ) × PassesInScope (bound_factor d.nodes) (scope_of d.nodes e) v) → (place : BoundPlace) × IsBoundPlace d place
    of_decision e h (inl small) = (Utilities, inl (e, h, small))
    of_decision e h (inr r) = (Node r.0, inl (e, h, r.1))

    of_agent : (a : ℕ) → FailsFirstFor d a → (scope_product_for d.nodes a ≤ greatest_number) ⊎ ((v : ℕ) × PassesInScope (chance_factor d.nodes) (scope_for d.nodes a) v) → (place : BoundPlace) × IsBoundPlace d place
    of_agent a h (inl small) = (Utilities, inr (a, h, small))
    of_agent a h (inr r) = (Node r.0, inr (a, h, r.1))

    go : KeepsScopedBounds d ⊎ (((v : ℕ) × FailsFirst d v) ⊎ ((agent : ℕ) × FailsFirstFor d agent)) → (place : BoundPlace) × IsBoundPlace d place
    go (inl keeps) = (Within, keeps)
    go (inr (inl r)) = of_decision r.0 r.1 (passing_law d.nodes (r.0 ∷ goals_of d.nodes r.0) (bound_factor d.nodes))
    go (inr (inr r)) = of_agent r.0 r.1 (passing_law d.nodes (utilities_for d.nodes r.0) (chance_factor d.nodes))

-- ---- and one alone
-- numbers neither of which is less
equal_by : (a b : ℕ) → ¬ (a < b) → ¬ (b < a) → a ≡ b
equal_by a b n m = omega arith

both : (a most : ℕ) → most < a → ¬ (a ≤ most)
both a most l k = omega arith

-- a bound beyond the range has a product above nought
product_positive : (a b most : ℕ) → most < a * b → 0 < a
product_positive zero b most l = absurd (omega (arith, l))
product_positive (suc a) b most l = omega arith

module _ (d : DiagramView) where
  same_decision : (e f : ℕ) → FailsFirst d e → FailsFirst d f → e ≡ f
  same_decision e f h k = equal_by e f (λ l. both (scope_bound d e) greatest_number h.fails (k.first e h.decision l)) (λ l. both (scope_bound d f) greatest_number k.fails (h.first f k.decision l))

  same_agent : (a b : ℕ) → FailsFirstFor d a → FailsFirstFor d b → a ≡ b
  same_agent a b h k = equal_by a b (λ l. both (scope_bound_for d a) greatest_number h.fails (k.first a l)) (λ l. both (scope_bound_for d b) greatest_number k.fails (h.first b l))

  not_both : (e a : ℕ) → FailsFirst d e → ¬ (FailsFirstFor d a)
  not_both e a h k = both (scope_bound d e) greatest_number h.fails (k.decisions e h.decision)

-- a product passes at one node
one_node : (f : ℕ → ℕ) (scope : List ℕ) (u v : ℕ) → PassesInScope f scope u → PassesInScope f scope v → u ≡ v
one_node f scope u v h k = equal_by u v (λ l. both (product_before f scope (u + 1)) greatest_number h.passes (k.first (u + 1) (up l))) (λ l. both (product_before f scope (v + 1)) greatest_number k.passes (h.first (v + 1) (up l)))
  where
    up : {a b : ℕ} → a < b → a + 1 ≤ b
    up l = omega arith

-- where the bound fails and the product is within the range, it passes nowhere
passes_nowhere : (f : ℕ → ℕ) (scope : List ℕ) (v most : ℕ) → greatest_number < nat_product_over f scope * most → nat_product_over f scope ≤ greatest_number → ¬ (PassesInScope f scope v)
passes_nowhere f scope v most fails small h =
    let part = filter_within f (λ u. ltb u (v + 1)) scope (product_positive (nat_product_over f scope) most greatest_number fails) in
    both (product_before f scope (v + 1)) greatest_number h.passes (omega (arith, part, small))

module _ (d : DiagramView) where
  passed_fails : (v : ℕ) → IsPassedAt d v → ¬ (KeepsScopedBounds d)
  passed_fails v (inl (e, h, p)) keeps = both (scope_bound d e) greatest_number h.fails (keeps.decisions e h.decision)
  passed_fails v (inr (a, h, p)) keeps = both (scope_bound_for d a) greatest_number h.fails (keeps.agents a h.within)

  utilities_fail : IsPassedByUtilities d → ¬ (KeepsScopedBounds d)
  utilities_fail (inl (e, h, p)) keeps = both (scope_bound d e) greatest_number h.fails (keeps.decisions e h.decision)
  utilities_fail (inr (a, h, p)) keeps = both (scope_bound_for d a) greatest_number h.fails (keeps.agents a h.within)

  one_place : (u v : ℕ) → IsPassedAt d u → IsPassedAt d v → u ≡ v
  one_place u v (inl (e, h, p)) (inl (f, k, q)) = one_node (bound_factor d.nodes) (scope_of d.nodes e) u v p (subst (λ x. PassesInScope (bound_factor d.nodes) (scope_of d.nodes x) v) (same_decision d f e k h) q)
  one_place u v (inr (a, h, p)) (inr (b, k, q)) = one_node (chance_factor d.nodes) (scope_for d.nodes a) u v p (subst (λ x. PassesInScope (chance_factor d.nodes) (scope_for d.nodes x) v) (same_agent d b a k h) q)
  one_place u v (inl (e, h, p)) (inr (a, k, q)) = absurd (not_both d e a h k)
  one_place u v (inr (a, k, q)) (inl (e, h, p)) = absurd (not_both d e a h k)

  node_or_utilities : (v : ℕ) → IsPassedAt d v → ¬ (IsPassedByUtilities d)
  node_or_utilities v (inl (e, h, p)) (inl (f, k, small)) = passes_nowhere (bound_factor d.nodes) (scope_of d.nodes e) v (max (10 ^ d.decimals) (greatest_of d.nodes (goals_of d.nodes e))) h.fails (subst (λ x. scope_product d.nodes x ≤ greatest_number) (same_decision d f e k h) small) p
  node_or_utilities v (inr (a, h, p)) (inr (b, k, small)) = passes_nowhere (chance_factor d.nodes) (scope_for d.nodes a) v (max (10 ^ d.decimals) (greatest_of d.nodes (utilities_for d.nodes a))) h.fails (subst (λ x. scope_product_for d.nodes x ≤ greatest_number) (same_agent d b a k h) small) p
  node_or_utilities v (inl (e, h, p)) (inr (a, k, q)) = not_both d e a h k
  node_or_utilities v (inr (a, k, q)) (inl (e, h, p)) = not_both d e a h k

pub one_bound_place : OneBoundPlace
one_bound_place d Within Within p q = refl
one_bound_place d Within (Node v) p q = absurd (passed_fails d v q p)
one_bound_place d Within Utilities p q = absurd (utilities_fail d q p)
one_bound_place d (Node u) Within p q = absurd (passed_fails d u p q)
one_bound_place d (Node u) (Node v) p q = ap Node (one_place d u v p q)
one_bound_place d (Node u) Utilities p q = absurd (node_or_utilities d u p q)
one_bound_place d Utilities Within p q = absurd (utilities_fail d p q)
one_bound_place d Utilities (Node v) p q = absurd (node_or_utilities d v q p)
one_bound_place d Utilities Utilities p q = refl
