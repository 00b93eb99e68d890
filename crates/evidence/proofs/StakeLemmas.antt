-- What an agent's utilities give to its gain, and the gain itself, in 128 bits.
use Rattle.std.proofs.Common.{◌≡◌, ℕ, ◌+◌, ◌*◌, ◌^◌, ◌<◌, ◌≤◌, max, Bool, true, false, not, cond, List, length, slice_index_or, Option, Some, None, refl, sym, ap, subst, arith, ℤ, pos, ◌*ℤ◌, nat_abs}
use Rattle.std.specs.List.{range_with_len}
use Rattle.std.proofs.Math.Nat.{mul-le-mul_left, mul-pos}
use Rattle.cell_rings.specs.RingLaws.{mass_is_ring}
use Rattle.finite_sums.specs.Members.{Among}
use Rattle.finite_sums.specs.Sums.{nat_sum_over, sum_each}
use Rattle.finite_sums.proofs.Members.{filter_has}
use Rattle.maid_model.specs.Diagrams.{greatest_number}
use Rattle.maid_model.specs.Gains.{greatest_abs}
use Rattle.maid_model.specs.Nodes.{is_utility_of, node_at, numbers_of}
use Rattle.maid_model.specs.Scopes.{chance_factor, greatest_of, utilities_for}
use Rattle.maid_model.specs.Views.{DiagramView}
use Rattle.maid_model.proofs.Weighing.{product_positive}
use Rattle.maid_laws.proofs.Rearranged.{among_range, number}
use Rattle.node_sets.specs.declared.sets.NodeSet.{NodeSet}
use Rattle.part_laws.proofs.NaturalSums.{some_factors_le}
use Rattle.part_laws.proofs.ScopeBounds.{chances_positive}
use Rattle.plan_sums.specs.Plans.{in_plan}
use Rattle.scope_sums.specs.Missing.{lacking_in}
use Rattle.scope_sums.proofs.Shares.{first_terms, one_of_greatest, part_of_product, passing_sizes, scale_some, sum_within}
use Rattle.weight_scale.specs.Given.{product_given, scope_given}
use Rattle.evidence.specs.Sizes.{plan_given}
use Rattle.evidence.specs.Stakes.{IsGivenStake, chances_lacking, share_given, scope_mass_given}

-- ---- an agent
module _ (d : DiagramView) (x agent mass : ℕ) (worths : List ℤ) (scope : NodeSet) (is : IsGivenStake d x agent mass worths scope) where
  abbrev product : ℕ
  product = product_given d.nodes x agent

  abbrev values : ℕ
  values = greatest_of d.nodes (utilities_for d.nodes agent)

  abbrev pub lacking : Option ℕ → ℕ
  lacking utility = chances_lacking d.nodes x agent utility

  abbrev pub worth_times : ℕ → ℤ
  worth_times u = slice_index_or worths u (pos 0) *ℤ pos (lacking (Some u))

  abbrev given_at : ℕ → ℤ
  given_at u = share_given d.nodes x agent worths u

  lacking_some : (utility : Option ℕ) → 0 < lacking utility
  lacking_some utility = product_positive (chance_factor d.nodes) (lacking_in d.nodes (scope_given d.nodes x agent) (plan_given x utility)) (chances_positive d.nodes is.is_diagram.tables)

  -- P within the bound, alone, with the scale and with the utilities
  scale_max : 0 < max (10 ^ d.decimals) values
  scale_max = greater (10 ^ d.decimals) values (scale_some d.decimals)
    where
      greater : (s a : ℕ) → 0 < s → 0 < max s a
      greater s a h = omega (arith, h)

  product_small : product ≤ greatest_number
  product_small = part_of_product product (max (10 ^ d.decimals) values) greatest_number scale_max is.bound

  all_small : (z : ℤ) (a : ℕ) → nat_abs z ≤ product * a → a ≤ values → nat_abs z ≤ greatest_number
  all_small z a h l = chain (nat_abs z) _ _ h (mul-le-mul_left product (below a (10 ^ d.decimals) values l)) is.bound
    where
      below : (a s g : ℕ) → a ≤ g → a ≤ max s g
      below a s g h = omega (arith, h)

      chain : (n a b : ℕ) → n ≤ a → a ≤ b → b ≤ greatest_number → n ≤ greatest_number
      chain n a b h k l = omega (arith, h, k, l)

  -- ---- the weight
  pub mass_positive : 0 < scope_mass_given d.nodes x agent mass
  mass_positive = mul-pos is.positive (lacking_some None)

  pub mass_small : scope_mass_given d.nodes x agent mass ≤ greatest_number
  mass_small = chain _ _ is.mass_fits product_small
    where
      chain : (a b : ℕ) → a ≤ b → b ≤ greatest_number → a ≤ greatest_number
      chain a b h k = omega (arith, h, k)

  -- with the scale too
  pub scaled_small : scope_mass_given d.nodes x agent mass * 10 ^ d.decimals ≤ greatest_number
  scaled_small = chain _ _ _ (scaled (10 ^ d.decimals) _ _ is.mass_fits) (mul-le-mul_left product (left (10 ^ d.decimals) values)) is.bound
    where
      left : (a b : ℕ) → a ≤ max a b
      left a b = omega arith

      scaled : (s a b : ℕ) → a ≤ b → a * s ≤ b * s
      scaled s a b h = subst (λ n. n ≤ b * s) (mass_is_ring.times_comm s a) (subst (λ n. s * a ≤ n) (mass_is_ring.times_comm s b) (mul-le-mul_left s h))

      chain : (a b c : ℕ) → a ≤ b → b ≤ c → c ≤ greatest_number → a ≤ greatest_number
      chain a b c h k l = omega (arith, h, k, l)

  -- what a plan lacks is part of P
  pub lacking_small : (utility : Option ℕ) → lacking utility ≤ greatest_number
  lacking_small utility = chain _ _ (some_factors_le (chance_factor d.nodes) (λ v. not (in_plan d.nodes (plan_given x utility) v)) (scope_given d.nodes x agent) (chances_positive d.nodes is.is_diagram.tables)) product_small
    where
      chain : (a b : ℕ) → a ≤ b → b ≤ greatest_number → a ≤ greatest_number
      chain a b h k = omega (arith, h, k)

  -- ---- utilities
  -- another node gives nothing
  pub gives_none : (u : ℕ) → is_utility_of d.nodes agent u ≡ false → pos 0 ≡ given_at u
  gives_none u e = ap (λ b. cond b (worth_times u) (pos 0)) (sym e)

  pub gives : (u : ℕ) → is_utility_of d.nodes agent u ≡ true → worth_times u ≡ given_at u
  gives u e = ap (λ b. cond b (worth_times u) (pos 0)) (sym e)

  listed : (u : ℕ) → u < length d.nodes → is_utility_of d.nodes agent u ≡ true → Among u (utilities_for d.nodes agent)
  listed u l e = filter_has (is_utility_of d.nodes agent) u (numbers_of d.nodes) (number d.nodes u l) e

  -- the product is in range
  pub times_small : (u : ℕ) → u < length d.nodes → is_utility_of d.nodes agent u ≡ true → nat_abs (worth_times u) ≤ greatest_number
  times_small u l e = all_small (worth_times u) (greatest_abs (node_at d.nodes u).cells) (is.worth_fits u l e) (one_of_greatest d.nodes (utilities_for d.nodes agent) u (listed u l e))

  -- ---- the gain
  abbrev size_at : ℕ → ℕ
  size_at v = cond (is_utility_of d.nodes agent v) (greatest_abs (node_at d.nodes v).cells) 0

  -- what the first nodes give is in range
  pub sum_small : (n : ℕ) → n ≤ length d.nodes → nat_abs (sum_each given_at (range_with_len 0 n)) ≤ greatest_number
  sum_small n h = all_small (sum_each given_at (range_with_len 0 n)) (nat_sum_over size_at (range_with_len 0 n))
      (sum_within given_at size_at product (range_with_len 0 n) (λ v m. each v (inside v n (among_range 0 n v m) h) (is_utility_of d.nodes agent v) refl))
      (subst (λ s. nat_sum_over size_at (range_with_len 0 n) ≤ s) (passing_sizes (is_utility_of d.nodes agent) (λ v. greatest_abs (node_at d.nodes v).cells) (numbers_of d.nodes)) (first_terms size_at 0 n (length d.nodes) h))
    where
      inside : (v n : ℕ) {m : ℕ} → v < 0 + n → n ≤ m → v < m
      inside v n h k = omega (arith, h, k)

      each : (v : ℕ) → v < length d.nodes → (b : Bool) → is_utility_of d.nodes agent v ≡ b → nat_abs (cond b (worth_times v) (pos 0)) ≤ product * cond b (greatest_abs (node_at d.nodes v).cells) 0
      each v l true e = is.worth_fits v l e
      each v l false e = omega arith
