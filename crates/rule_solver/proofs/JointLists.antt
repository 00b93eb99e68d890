-- Goals of a decision, the first ones and the others.
use Rattle.std.proofs.Common.{◌≡◌, ◌≢◌, ◌∙◌, ℕ, zero, suc, ◌*◌, ◌<◌, ◌≤◌, Bool, true, false, ◌&&◌, ◌||◌, Contains, List, [], ◌∷◌, ◌++◌, drop, length, length-drop, eqb, sym, ap, subst, take, inl, inr, arith}
use Rattle.std.specs.List.{IsDistinct, list_any}
use Rattle.std.specs.Prelude.{AllPairs}
use Rattle.std.proofs.Math.Decide.{ℕ_discrete}
use Rattle.std.proofs.Math.Nat.{mul_assoc}
use Rattle.std.proofs.lemmas.Bool.Decides.{Decides-eqb}
use Rattle.std.proofs.lemmas.List.{get_or_default, take-append-drop}
use Rattle.std.proofs.lemmas.List.Elements.{Contains-append_left, Contains-append_right}
use Rattle.std.proofs.lemmas.Map.Made.{IsDistinct-from_AllPairs}
use Rattle.std.proofs.lemmas.Nat.{mul-le}
use Rattle.std.proofs.lemmas.Map.Steps.{length-le_from_distinct_below}
use Rattle.finite_sums.specs.Members.{Among}
use Rattle.finite_sums.specs.Sums.{nat_product_over}
use Rattle.joint_sums.specs.Joint.{AreGoals}
use Rattle.maid_laws.proofs.Booleans.{eqb_no}
use Rattle.maid_laws.proofs.Collapse.{Apart}
use Rattle.maid_laws.proofs.Members.{different_of}
use Rattle.maid_laws.proofs.OrderLaws.{one_place}
use Rattle.maid_laws.proofs.Rearranged.{apart_filter, range_apart}
use Rattle.maid_model.specs.Graph.{AllDifferent, IsGraph, descends}
use Rattle.maid_model.specs.Nodes.{IsDecision, agent_of, is_utility_of, numbers_of}
use Rattle.maid_model.specs.Scopes.{goals_of}
use Rattle.maid_model.specs.Views.{NodeView}
use Rattle.rule_solver.proofs.JointNodes.{goal_listed_is}

-- ---- parts of a list
pub first_in : (k : ℕ) (us : List ℕ) (u : ℕ) → Contains (take k us) u → Contains us u
first_in k us u c = subst (λ l. Contains l u) (take-append-drop k us) (Contains-append_left (take k us) (drop k us) u c)

pub other_in : (k : ℕ) (us : List ℕ) (u : ℕ) → Contains (drop k us) u → Contains us u
other_in k us u c = subst (λ l. Contains l u) (take-append-drop k us) (Contains-append_right (take k us) (drop k us) u c)

first_differ : (k : ℕ) (us : List ℕ) → AllDifferent us → AllDifferent (take k us)
first_differ zero us h = tt
first_differ (suc k) [] h = tt
first_differ (suc k) (u ∷ us) h = ((λ c. h.0 (first_in k us u c)), first_differ k us h.1)

other_differ : (k : ℕ) (us : List ℕ) → AllDifferent us → AllDifferent (drop k us)
other_differ zero us h = h
other_differ (suc k) [] h = tt
other_differ (suc k) (u ∷ us) h = other_differ k us h.1

first_some : (k : ℕ) (us : List ℕ) → 0 < k → 0 < length us → 0 < length (take k us)
first_some zero us h l = h
first_some (suc k) [] h l = l
first_some (suc k) (u ∷ us) h l = omega arith

other_some : (k : ℕ) (us : List ℕ) → k < length us → 0 < length (drop k us)
other_some k us l = let left = length-drop k us in omega (arith, l, left)

module _ (nodes : List NodeView) (d : ℕ) where
  -- all goals of the decision
  pub all_goals : IsGraph nodes → IsDecision nodes d → 0 < length (goals_of nodes d) → AreGoals nodes d (goals_of nodes d)
  all_goals graph is some = record {
    some = some;
    different = different_of (goals_of nodes d) (apart_filter (λ u. is_utility_of nodes (agent_of nodes d) u && descends nodes d u) (numbers_of nodes) (range_apart 0 (length nodes)));
    each = goal_listed_is nodes graph d is;
  }

  pub first_goals : (k : ℕ) (us : List ℕ) → 0 < k → AreGoals nodes d us → AreGoals nodes d (take k us)
  first_goals k us h are = record { some = first_some k us h are.some; different = first_differ k us are.different; each = λ u c. are.each u (first_in k us u c) }

  pub other_goals : (k : ℕ) (us : List ℕ) → k < length us → AreGoals nodes d us → AreGoals nodes d (drop k us)
  other_goals k us h are = record { some = other_some k us h; different = other_differ k us are.different; each = λ u c. are.each u (other_in k us u c) }

-- a product with one factor more
pub product_push : (f : ℕ → ℕ) (us : List ℕ) (u m : ℕ) → m * nat_product_over f (us ++ u ∷ []) ≡ m * nat_product_over f us * f u
product_push f [] u m = one m (f u)
  where
    one : (m x : ℕ) → m * (x * 1) ≡ m * 1 * x
    one m x = omega arith
product_push f (v ∷ us) u m = sym (mul_assoc m (f v) (nat_product_over f (us ++ u ∷ []))) ∙ product_push f us u (m * f v) ∙ ap (λ n. n * f u) (mul_assoc m (f v) (nat_product_over f us))

-- a product of positive factors is at least each of them, and at least 1
pub product_some : (f : ℕ → ℕ) → ((v : ℕ) → 0 < f v) → (us : List ℕ) → 1 ≤ nat_product_over f us
product_some f h [] = omega arith
product_some f h (u ∷ us) = mul-le 1 1 (f u) (nat_product_over f us) (h u) (product_some f h us)

pub factor_at_most : (f : ℕ → ℕ) → ((v : ℕ) → 0 < f v) → (us : List ℕ) (v : ℕ) → Among v us → f v ≤ nat_product_over f us
factor_at_most f h [] v m = absurd m
factor_at_most f h (u ∷ us) v (inl e) =
    let l : f u * 1 ≤ f u * nat_product_over f us = mul-le (f u) 1 (f u) (nat_product_over f us) (omega arith) (product_some f h us) in
    subst (λ x. f x ≤ f u * nat_product_over f us) (sym e) (omega (arith, l))
factor_at_most f h (u ∷ us) v (inr m) =
    let l : 1 * f v ≤ f u * nat_product_over f us = mul-le 1 (f v) (f u) (nat_product_over f us) (h u) (factor_at_most f h us v m) in
    omega arith

-- ---- numbers that differ and are below n are at most n
distinct : (xs : List ℕ) → Apart xs → IsDistinct eqb xs
distinct xs h = IsDistinct-from_AllPairs (λ a b. Decides-eqb a b) xs pairs
  where
    pairs : AllPairs (λ x y. x ≢ y) xs
    pairs i j n l m e =
        let same : i ≡ j = one_place xs h i j (omega arith) m (get_or_default xs i 0 n (omega arith) ∙ e ∙ sym (get_or_default xs j 0 n m)) in
        omega (arith, same)

below : (xs : List ℕ) (n : ℕ) → ((v : ℕ) → Among v xs → v < n) → (q : ℕ) → list_any (eqb q) xs ≡ true → q < n
below [] n h q e = absurd (none e)
  where
    none : false ≡ true → ⊥
    none e = cc
below (x ∷ xs) n h q e = go (ℕ_discrete q x) (below xs n (λ v k. h v (inr k)) q)
  where
    rest : (b : Bool) → b ≡ false → (b || list_any (eqb q) xs) ≡ true → list_any (eqb q) xs ≡ true
    rest true f g = absurd (cc)
    rest false f g = g

    go : Dec (q ≡ x) → (list_any (eqb q) xs ≡ true → q < n) → q < n
    go (yes f) r = h q (inl f)
    go (no m) r = r (rest (eqb q x) (eqb_no q x m) e)

pub few : (xs : List ℕ) (n : ℕ) → Apart xs → ((v : ℕ) → Among v xs → v < n) → length xs ≤ n
few xs n a h = length-le_from_distinct_below xs n (distinct xs a) (below xs n h)
