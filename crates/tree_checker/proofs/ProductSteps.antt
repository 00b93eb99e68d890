-- Products over nodes, made node by node: what is multiplied so far and what is still to come are
-- the whole.
use Rattle.std.proofs.Common.{◌≡◌, ◌∙◌, ℕ, zero, suc, ◌+◌, ◌-◌, ◌*◌, ◌<◌, ◌≤◌, List, length, refl, sym, ap, arith, min}
use Rattle.std.proofs.Math.Nat.{mul-le-mul_left, mul-le-mul_right, mul-pos, mul_assoc}
use Rattle.std.proofs.Math.Decide.{dec_lt}
use Rattle.std.specs.List.{range_with_len}
use Rattle.finite_sums.specs.Sums.{nat_product_over}
use Rattle.maid_model.specs.declared.limits.TheConstants.{COUNT_END}
use Rattle.maid_model.specs.declared.diagrams.Kind.{Kind}
use Rattle.maid_model.specs.declared.diagrams.Kind.TheVariants.{Chance, Decision, Utility}
use Rattle.maid_model.specs.Bounds.{stopped, world_count}
use Rattle.maid_model.specs.Gains.{mass}
use Rattle.maid_model.specs.Nodes.{node_at, states_of}
use Rattle.maid_model.specs.Profiles.{IsProfile}
use Rattle.maid_model.specs.Tables.{HasChanceTables, chance_total, rule_total, total_by, weight_total}
use Rattle.maid_model.specs.Views.{NodeView, RuleView}
use Rattle.maid_laws.proofs.Tied.{decision_of}

-- the product over the numbers from v to before n
abbrev pub product_from : (ℕ → ℕ) → ℕ → ℕ → ℕ
product_from f n v = nat_product_over f (range_with_len v (n - v))

-- positive factors have a positive product
positive_product : (f : ℕ → ℕ) (k n : ℕ) → ((v : ℕ) → 0 < f v) → 0 < nat_product_over f (range_with_len k n)
positive_product f k zero h = omega arith
positive_product f k (suc n) h = mul-pos (h k) (positive_product f (k + 1) n h)

-- one factor more on the left is one fewer on the right
pub next_factor : (f : ℕ → ℕ) (n v m : ℕ) → v < n → m * f v * product_from f n (v + 1) ≡ m * product_from f n v
next_factor f n v m h = group m (f v) (product_from f n (v + 1)) ∙ ap (λ k. m * nat_product_over f (range_with_len v k)) (sym (one n v h))
  where
    one : (n v : ℕ) → v < n → n - v ≡ suc (n - (v + 1))
    one n v l = omega arith

    group : (a b c : ℕ) → a * b * c ≡ a * (b * c)
    group a b c = simp mul_assoc

-- nothing is left in the end
pub last_factor : (f : ℕ → ℕ) (n v m : ℕ) → n ≤ v → m * product_from f n v ≡ m
last_factor f n v m h = ap (λ k. m * nat_product_over f (range_with_len v k)) (none n v h) ∙ times_one m
  where
    none : (n v : ℕ) → n ≤ v → n - v ≡ 0
    none n v h = omega arith

    times_one : (m : ℕ) → m * 1 ≡ m
    times_one m = omega arith

-- what is multiplied so far is at most the whole
pub so_far : (f : ℕ → ℕ) (n v m : ℕ) → ((v : ℕ) → 0 < f v) → m ≤ m * product_from f n v
so_far f n v m h = chain m (m * product_from f n v) (mul-le-mul_left m (positive_product f v (n - v) h))
  where
    chain : (a b : ℕ) → a * 1 ≤ b → a ≤ b
    chain a b h = omega arith

-- ---- the mass
abbrev pub mass_from : List NodeView → List RuleView → ℕ → ℕ
mass_from nodes p v = product_from (weight_total nodes p) (length nodes) v

-- ---- worlds
-- the count so far is at most the end, and with the nodes still to come it stops where the whole
-- count does
pub record CountedSoFar (nodes : List NodeView) (count v : ℕ) : Type 0 where
  pub small : count ≤ COUNT_END
  pub rest : stopped (count * product_from (states_of nodes) (length nodes) v) ≡ stopped (world_count nodes)

-- a product stops where the product of what stopped does
stop_first : (a r e : ℕ) → 0 < r → min (min a e * r) e ≡ min (a * r) e
stop_first a r e h = go (dec_lt e a)
  where
    whole : (m : ℕ) → m ≤ m * r
    whole m = chain m (m * r) (mul-le-mul_left m h)
      where
        chain : (a b : ℕ) → a * 1 ≤ b → a ≤ b
        chain a b h = omega arith

    stops : (x y e : ℕ) → e ≤ x → e ≤ y → min x e ≡ min y e
    stops x y e h k = omega arith

    least : (a e : ℕ) → e ≤ a → min a e ≡ e
    least a e h = omega arith

    own : (a e : ℕ) → a ≤ e → min a e ≡ a
    own a e h = omega arith

    go : Dec (e < a) → min (min a e * r) e ≡ min (a * r) e
    go (yes l) =
        let w = whole e in
        let more : e * r ≤ a * r = mul-le-mul_right r (omega arith) in
        ap (λ m. min (m * r) e) (least a e (omega arith)) ∙ stops (e * r) (a * r) e w (omega arith)
    go (no m) = ap (λ n. min (n * r) e) (own a e (omega arith))

pub count_start : (nodes : List NodeView) → CountedSoFar nodes 1 0
count_start nodes = record { small = omega arith; rest = ap (λ n. stopped (1 * nat_product_over (states_of nodes) (range_with_len 0 n))) (none (length nodes)) ∙ ap stopped (once (world_count nodes)) }
  where
    none : (n : ℕ) → n - 0 ≡ n
    none n = omega arith

    once : (n : ℕ) → 1 * n ≡ n
    once n = omega arith

module _ (nodes : List NodeView) (has : (v : ℕ) → 0 < states_of nodes v) (count v : ℕ) (so : CountedSoFar nodes count v) where
  pub count_step : v < length nodes → CountedSoFar nodes (stopped (count * states_of nodes v)) (v + 1)
  count_step h = record {
    small = at_most (count * states_of nodes v) COUNT_END;
    rest = stop_first (count * states_of nodes v) (product_from (states_of nodes) (length nodes) (v + 1)) COUNT_END (positive_product (states_of nodes) (v + 1) (length nodes - (v + 1)) has)
        ∙ ap stopped (next_factor (states_of nodes) (length nodes) v count h) ∙ so.rest;
  }
    where
      at_most : (a e : ℕ) → min a e ≤ e
      at_most a e = omega arith

  pub count_end : length nodes ≤ v → count ≡ stopped (world_count nodes)
  count_end h = sym (own count COUNT_END so.small) ∙ ap stopped (sym (last_factor (states_of nodes) (length nodes) v count h)) ∙ so.rest
    where
      own : (a e : ℕ) → a ≤ e → min a e ≡ a
      own a e h = omega arith

-- ---- totals
-- tables and rules have positive totals
pub totals_positive : (nodes : List NodeView) (p : List RuleView) → HasChanceTables nodes → IsProfile nodes p → (v : ℕ) → 0 < weight_total nodes p v
totals_positive nodes p c h v = by_kind (node_at nodes v).kind refl
  where
    by_kind : (k : Kind) → (node_at nodes v).kind ≡ k → 0 < total_by k (chance_total nodes v) (rule_total p v)
    by_kind Chance e = c.positive v e
    by_kind Decision e = (h.rule v (decision_of nodes v e)).positive
    by_kind Utility e = omega arith

pub mass_positive : (nodes : List NodeView) (p : List RuleView) → HasChanceTables nodes → IsProfile nodes p → 0 < mass nodes p
mass_positive nodes p c h = positive_product (weight_total nodes p) 0 (length nodes) (totals_positive nodes p c h)
