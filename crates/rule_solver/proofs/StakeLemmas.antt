-- What an agent's utilities give to its gain, and the gain itself.
use Rattle.std.proofs.Common.{◌≡◌, ◌∙◌, ◌↔◌, ℕ, ◌+◌, ◌*◌, ◌^◌, ◌<◌, ◌≤◌, max, Bool, true, false, cond, filter, List, [], ◌∷◌, length, slice_index_or, refl, sym, ap, subst, inl, inr, arith, ℤ, pos, ◌+ℤ◌, ◌*ℤ◌, nat_abs}
use Rattle.std.specs.List.{range_with_len}
use Rattle.std.proofs.lemmas.Int.{ints}
use Rattle.std.proofs.Math.Nat.{mul-le-mul_left, mul-pos, one-le-pow}
use Rattle.finite_sums.specs.Members.{Among}
use Rattle.finite_sums.specs.Sums.{World, InRange, nat_product_over, nat_sum_over, sum_each}
use Rattle.finite_sums.proofs.Lists.{among_filter}
use Rattle.finite_sums.proofs.Members.{any_is}
use Rattle.maid_model.specs.declared.answers.Ratio.{Ratio}
use Rattle.maid_model.specs.Answers.{IsExpectedUtility, IsFraction}
use Rattle.maid_model.specs.Diagrams.{greatest_number}
use Rattle.maid_model.specs.Gains.{greatest_abs, mass}
use Rattle.maid_model.specs.Graph.{Arc, IsPath}
use Rattle.maid_model.specs.Laws.{TestsDescent}
use Rattle.maid_model.specs.Nodes.{is_utility, is_utility_of, node_at, numbers_of, owners_of, owns, states_of}
use Rattle.maid_model.specs.Parts.{leads_to}
use Rattle.maid_model.specs.Scopes.{greatest_of, rules_in_scope_for, scope_for, scope_part_for, scope_product_for, utilities_for}
use Rattle.maid_model.specs.Views.{NodeView, DiagramView, RuleView}
use Rattle.maid_laws.proofs.Proportions.{kind_of_utility, sum_each_cong}
use Rattle.maid_laws.proofs.Rearranged.{among_range, numbered}
use Rattle.node_sets.specs.declared.sets.NodeSet.{NodeSet}
use Rattle.node_sets.specs.Sets.{IsIn}
use Rattle.part_laws.specs.PartLaws.{WorthsOfParts}
use Rattle.part_laws.specs.ScopeLaws.{AgentsScopesAreParts}
use Rattle.part_laws.proofs.PartSums.{and_both}
use Rattle.plan_sums.specs.Plans.{gain_cells, plan_sum, worth_plan}
use Rattle.scope_sums.specs.Laws.{AgentsScopesFitPlans, GainsOfAgentsScopes, MassOfAgentsScopes, PlanFitsAgentsScope}
use Rattle.scope_sums.specs.Missing.{missing_in}
use Rattle.scope_sums.proofs.Shares.{first_terms, one_of_greatest, part_of_product, passing_sizes, sum_within}
use Rattle.rule_solver.specs.Totals.{product_in}
use Rattle.rule_solver.specs.Worths.{HasWorths, HasWorthsFor, IsStake, share_for, scope_gain_for}
use Rattle.rule_solver.proofs.Missing.{missing_product, scope_mass_is, totals_positive}
use Rattle.rule_solver.proofs.PlanLemmas.{within_bound}
use Rattle.rule_solver.proofs.ProductLemmas.{factor_in}
use Rattle.rule_solver.proofs.WorthLemmas.{utility_among, worth_nodes}

-- ---- sums and products
-- terms that count where a test holds
passing_terms : (a : ℕ → Bool) (f : ℕ → ℤ) (vs : List ℕ) → sum_each (λ v. cond (a v) (f v) (pos 0)) vs ≡ sum_each f (filter a vs)
passing_terms a f [] = refl
passing_terms a f (v ∷ vs) = go (a v) (passing_terms a f vs)
  where
    nought : (x y : ℤ) → x ≡ y → pos 0 +ℤ x ≡ y
    nought x y e = omega (arith, ints, e)

    go : (b : Bool) → sum_each (λ u. cond (a u) (f u) (pos 0)) vs ≡ sum_each f (filter a vs) → cond b (f v) (pos 0) +ℤ sum_each (λ u. cond (a u) (f u) (pos 0)) vs ≡ sum_each f (cond b (v ∷ filter a vs) (filter a vs))
    go true e = ap (λ x. f v +ℤ x) e
    go false e = nought _ _ e

-- a product of positive numbers is positive
all_positive : (f : ℕ → ℕ) (vs : List ℕ) → ((v : ℕ) → Among v vs → 0 < f v) → 0 < nat_product_over f vs
all_positive f [] h = omega arith
all_positive f (v ∷ vs) h = mul-pos (h v (inl refl)) (all_positive f vs (λ u m. h u (inr m)))

-- ---- worths
-- the worths of all utilities are those of the agent's
pub worths_for : (nodes : List NodeView) (p : List RuleView) (agent : ℕ) (worths : List ℤ) → HasWorths nodes p worths → HasWorthsFor nodes p agent worths
worths_for nodes p agent worths h = record {
  count = h.count;
  each = λ u l k own. h.each u l k;
}

-- ---- an agent
module _ (d : DiagramView) (p : List RuleView) (agent : ℕ) (totals : List ℕ) (worths : List ℤ) (scope : NodeSet) (is : IsStake d p agent totals worths scope) where
  -- a world
  abbrev first : World
  first v = 0

  first_in : InRange (states_of d.nodes) first
  first_in = record { state = is.is_diagram.graph.has_state }

  abbrev pub missing_at : ℕ → ℕ
  missing_at u = missing_in d.nodes p (scope_for d.nodes agent) (worth_plan u)

  abbrev pub worth_times : ℕ → ℤ
  worth_times u = slice_index_or worths u (pos 0) *ℤ pos (missing_at u)

  abbrev given_at : ℕ → ℤ
  given_at u = share_for d.nodes p agent worths u

  -- the totals of the scope's nodes that the utility's plan lacks
  pub left_product : TestsDescent → (u : ℕ) (own ancestors planned left : NodeSet) → ((v : ℕ) → IsIn own v ↔ (v ≡ u)) → ((v : ℕ) → IsIn ancestors v ↔ ((to : ℕ) × IsIn own to × IsPath (Arc d.nodes) v to))
      → ((v : ℕ) → IsIn planned v ↔ (IsIn ancestors v × (v ≡ u → ⊥))) → ((v : ℕ) → IsIn left v ↔ (IsIn scope v × (IsIn planned v → ⊥)))
      → product_in totals left ≡ missing_at u
  left_product tested u own ancestors planned left o a l r =
      missing_product d.nodes p totals is.has_totals (leads_to d.nodes (utilities_for d.nodes agent)) (worth_plan u) scope planned left is.is_scope (worth_nodes d.nodes is.is_diagram.graph tested u own ancestors planned o a l) r

  -- another node gives nothing
  pub gives_none : (u : ℕ) → is_utility_of d.nodes agent u ≡ false → pos 0 ≡ given_at u
  gives_none u e = ap (λ b. cond b (worth_times u) (pos 0)) (sym e)

  pub gives : (u : ℕ) → is_utility_of d.nodes agent u ≡ true → worth_times u ≡ given_at u
  gives u e = ap (λ b. cond b (worth_times u) (pos 0)) (sym e)

  -- P within the bound, alone and with the utilities
  scale_max : 0 < max (10 ^ d.decimals) (greatest_of d.nodes (utilities_for d.nodes agent))
  scale_max = greater (10 ^ d.decimals) (greatest_of d.nodes (utilities_for d.nodes agent)) (let ten : 0 < 10 = omega arith in one-le-pow d.decimals 10 ten)
    where
      greater : (s a : ℕ) → 0 < s → 0 < max s a
      greater s a h = omega (arith, h)

  pub product_small : scope_product_for d.nodes agent ≤ greatest_number
  product_small = part_of_product (scope_product_for d.nodes agent) (max (10 ^ d.decimals) (greatest_of d.nodes (utilities_for d.nodes agent))) greatest_number scale_max is.bound

  all_small : (z : ℤ) (a : ℕ) → nat_abs z ≤ scope_product_for d.nodes agent * a → a ≤ greatest_of d.nodes (utilities_for d.nodes agent) → nat_abs z ≤ greatest_number
  all_small z a h l =
      chain (nat_abs z) _ _ h (mul-le-mul_left (scope_product_for d.nodes agent) (below a (10 ^ d.decimals) (greatest_of d.nodes (utilities_for d.nodes agent)) l)) is.bound
    where
      below : (a s g : ℕ) → a ≤ g → a ≤ max s g
      below a s g h = omega (arith, h)

      chain : (n a b : ℕ) → n ≤ a → a ≤ b → b ≤ greatest_number → n ≤ greatest_number
      chain n a b h k l = omega (arith, h, k, l)

  module _ (fit : AgentsScopesFitPlans) where
    fits_at : (u : ℕ) → u < length d.nodes → is_utility_of d.nodes agent u ≡ true → PlanFitsAgentsScope d.nodes p agent u
    fits_at u l e =
        let t = and_both (is_utility (node_at d.nodes u).kind) (owns d.nodes agent u) e in
        fit d.nodes p agent u is.is_diagram.graph is.is_diagram.tables is.profile is.rules l (kind_of_utility (node_at d.nodes u).kind t.0) ((any_is agent (owners_of d.nodes u)).0 t.1)

    worth_at : (u : ℕ) → u < length d.nodes → is_utility_of d.nodes agent u ≡ true → slice_index_or worths u (pos 0) ≡ plan_sum gain_cells d.nodes p (worth_plan u) first
    worth_at u l e =
        let t = and_both (is_utility (node_at d.nodes u).kind) (owns d.nodes agent u) e in
        let k = kind_of_utility (node_at d.nodes u).kind t.0 in
        is.has_worths.each u l k (record { within = l; kind = inr k; owner = (any_is agent (owners_of d.nodes u)).0 t.1 }) first first_in

    -- what is missing of P is no more
    pub missing_small : (u : ℕ) → u < length d.nodes → is_utility_of d.nodes agent u ≡ true → missing_at u ≤ greatest_number
    missing_small u l e = chain (missing_at u) _ ((fits_at u l e).missing) product_small
      where
        chain : (a b : ℕ) → a ≤ b → b ≤ greatest_number → a ≤ greatest_number
        chain a b h k = omega (arith, h, k)

    times_within : (u : ℕ) → u < length d.nodes → is_utility_of d.nodes agent u ≡ true → nat_abs (worth_times u) ≤ scope_product_for d.nodes agent * greatest_abs (node_at d.nodes u).cells
    times_within u l e = subst (λ z. nat_abs (z *ℤ pos (missing_at u)) ≤ scope_product_for d.nodes agent * greatest_abs (node_at d.nodes u).cells) (sym (worth_at u l e)) ((fits_at u l e).gain first first_in)

    -- so the product is in range
    pub times_small : (u : ℕ) → u < length d.nodes → is_utility_of d.nodes agent u ≡ true → nat_abs (worth_times u) ≤ greatest_number
    times_small u l e = all_small (worth_times u) (greatest_abs (node_at d.nodes u).cells) (times_within u l e) (one_of_greatest d.nodes (utilities_for d.nodes agent) u (utility_among d.nodes agent u l e))

    -- ---- the gain
    abbrev size_at : ℕ → ℕ
    size_at v = cond (is_utility_of d.nodes agent v) (greatest_abs (node_at d.nodes v).cells) 0

    -- what the first nodes give is in range
    pub sum_small : (n : ℕ) → n ≤ length d.nodes → nat_abs (sum_each given_at (range_with_len 0 n)) ≤ greatest_number
    sum_small n h = all_small (sum_each given_at (range_with_len 0 n)) (nat_sum_over size_at (range_with_len 0 n))
        (sum_within given_at size_at (scope_product_for d.nodes agent) (range_with_len 0 n) (λ v m. each v (inside v n (among_range 0 n v m) h) (is_utility_of d.nodes agent v) refl))
        (subst (λ s. nat_sum_over size_at (range_with_len 0 n) ≤ s) (passing_sizes (is_utility_of d.nodes agent) (λ v. greatest_abs (node_at d.nodes v).cells) (numbers_of d.nodes)) (first_terms size_at 0 n (length d.nodes) h))
      where
        inside : (v n : ℕ) {m : ℕ} → v < 0 + n → n ≤ m → v < m
        inside v n h k = omega (arith, h, k)

        each : (v : ℕ) → v < length d.nodes → (b : Bool) → is_utility_of d.nodes agent v ≡ b → nat_abs (cond b (worth_times v) (pos 0)) ≤ scope_product_for d.nodes agent * cond b (greatest_abs (node_at d.nodes v).cells) 0
        each v l true e = times_within v l e
        each v l false e = omega arith

    -- what all give is the gain in the part of the scope
    pub sum_is : GainsOfAgentsScopes → sum_each given_at (numbers_of d.nodes) ≡ scope_gain_for d.nodes p agent
    sum_is gains =
        passing_terms (is_utility_of d.nodes agent) worth_times (numbers_of d.nodes)
        ∙ sum_each_cong worth_times (λ u. plan_sum gain_cells d.nodes p (worth_plan u) first *ℤ pos (missing_at u)) (utilities_for d.nodes agent)
        (λ u m. let r = among_filter (is_utility_of d.nodes agent) u (numbers_of d.nodes) m in ap (λ z. z *ℤ pos (missing_at u)) (worth_at u (numbered d.nodes u r.0) r.1))
        ∙ sym ((gains d.nodes p agent is.is_diagram.graph is.is_diagram.tables is.profile).gain first first_in)

  -- ---- the fraction
  -- the totals of the scope multiply to its mass
  pub scope_total : product_in totals scope ≡ scope_product_for d.nodes agent
  scope_total = scope_mass_is d.nodes p totals is.has_totals is.rules agent scope is.is_scope

  pub total_positive : 0 < product_in totals scope
  total_positive = all_positive (factor_in totals scope) (range_with_len 0 (length totals)) (λ v m. positive v (inside v (among_range 0 (length totals) v m)))
    where
      inside : {n : ℕ} (v : ℕ) → v < 0 + n → v < n
      inside v h = omega (arith, h)

      positive : (v : ℕ) → v < length totals → 0 < factor_in totals scope v
      positive v l = go _ (totals_positive d.nodes p totals is.has_totals is.is_diagram.graph is.is_diagram.tables is.profile v l)
        where
          go : (b : Bool) {n : ℕ} → 0 < n → 0 < cond b n 1
          go true h = h
          go false h = omega arith

  pub scaled_small : product_in totals scope * 10 ^ d.decimals ≤ greatest_number
  scaled_small = within_bound (scope_product_for d.nodes agent) (10 ^ d.decimals) (greatest_of d.nodes (utilities_for d.nodes agent)) (product_in totals scope) (same _ _ scope_total) is.bound
    where
      same : (a b : ℕ) → a ≡ b → a ≤ b
      same a b e = omega (arith, e)

  -- the part of the scope has the whole's fraction
  pub whole_fraction : MassOfAgentsScopes → AgentsScopesAreParts → WorthsOfParts → (r : Ratio) → IsFraction r (scope_gain_for d.nodes p agent) (product_in totals scope * 10 ^ d.decimals) → IsExpectedUtility d.nodes (10 ^ d.decimals) p agent r
  whole_fraction masses parts worth r h =
      let part = parts d.nodes agent is.is_diagram.graph in
      let mass_is : product_in totals scope ≡ mass (scope_part_for d.nodes agent) (rules_in_scope_for d.nodes p agent) = scope_total ∙ sym (masses d.nodes p agent is.is_diagram.graph is.is_diagram.tables is.profile is.rules) in
      (worth d.nodes p (scope_for d.nodes agent) agent (10 ^ d.decimals) r is.is_diagram.graph is.is_diagram.tables is.profile part.0 part.1).1
      (subst (λ m. IsFraction r (scope_gain_for d.nodes p agent) (m * 10 ^ d.decimals)) mass_is h)
