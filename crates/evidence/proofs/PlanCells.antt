-- The plans that keep x: their numbers fit, and that without a utility sums to a mass.
use Rattle.std.proofs.Common.{◌≡◌, ◌∙◌, ℕ, ◌*◌, ◌^◌, ◌<◌, ◌≤◌, max, ◌&&◌, List, Some, None, length, refl, sym, ap, inl, arith, ℤ, pos, nat_abs}
use Rattle.cell_rings.specs.RingLaws.{gain_is_ring, mass_is_ring, mass_to_gain}
use Rattle.cell_rings.specs.Rings.{gain_ring, most_size}
use Rattle.finite_sums.specs.Sums.{World, nat_product_over}
use Rattle.finite_sums.proofs.Members.{any_is, contains_from_among, filter_has}
use Rattle.maid_model.specs.declared.diagrams.Kind.TheVariants.{Chance, Utility}
use Rattle.maid_model.specs.Diagrams.{IsDiagram}
use Rattle.maid_model.specs.Gains.{greatest_abs}
use Rattle.maid_model.specs.Nodes.{Owns, is_utility, is_utility_of, node_at, numbers_of, owners_of}
use Rattle.maid_model.specs.Profiles.{IsProfile}
use Rattle.maid_model.specs.Scopes.{greatest_of, utilities_for}
use Rattle.maid_model.specs.Tables.{weight_total}
use Rattle.maid_model.specs.Views.{NodeView, DiagramView, RuleView}
use Rattle.maid_laws.proofs.Rearranged.{number}
use Rattle.finite_sums.specs.Members.{Among}
use Rattle.part_laws.specs.ScopeLaws.{HasUnitRules}
use Rattle.plan_sums.specs.Plans.{Cells, gain_cells, mass_cells, plan_sum, ruled_nodes}
use Rattle.plan_sums.proofs.Products.{maps_plans}
use Rattle.eliminate.specs.Results.{plan_total}
use Rattle.weight_scale.specs.Given.{product_given}
use Rattle.scope_sums.proofs.Shares.{one_of_greatest, scale_some, tables_fit}
use Rattle.reach_laws.specs.Evidence.{IsEvidence}
use Rattle.evidence.specs.Bounds.{KeepsBoundsGiven, further_scopes}
use Rattle.evidence.specs.Sizes.{plan_given}
use Rattle.evidence.specs.Stakes.{chances_lacking}
use Rattle.evidence.proofs.Unruled.{factor_is}
use Rattle.evidence.proofs.Within.{alone_inside, lacking_positive, pure_within, tables_within, utility_inside}

-- ---- masses as numbers
-- masses as numbers with a sign, where no value counts
abbrev signed_masses : Cells ℤ
signed_masses = record { ring = gain_ring; weight = λ w. pos w; value = λ v. pos 1 }

-- the plan without a utility sums to a mass
pub mass_number : (nodes : List NodeView) (p : List RuleView) (x : ℕ) (q : World) → nat_abs (plan_sum gain_cells nodes p (plan_given x None) q) ≡ plan_sum mass_cells nodes p (plan_given x None) q
mass_number nodes p x q = ap nat_abs (sym (maps_plans mass_cells signed_masses mass_is_ring gain_is_ring pos (record { ring = mass_to_gain; weight = λ w. refl; value = λ v. refl }) nodes p (plan_given x None) q))

-- ---- numbers that fit
-- a further scope for each agent, and at least one
pub agent_within : (d : DiagramView) (agent : ℕ) → agent < d.agents → agent < further_scopes d
agent_within d agent h = more agent d.agents h
  where
    more : (a n : ℕ) → a < n → a < max 1 n
    more a n h = omega (arith, h)

first_within : (d : DiagramView) → 0 < further_scopes d
first_within d = some d.agents
  where
    some : (n : ℕ) → 0 < max 1 n
    some n = omega arith

module _ (d : DiagramView) (p : List RuleView) (x : ℕ) (is : IsDiagram d) (within : x < length d.nodes) (keeps : KeepsBoundsGiven d x) where
  -- the plan without a utility, which has no rule, within the first scope's bound
  pub alone_fits : IsEvidence d.nodes x → 2 * plan_total d.nodes p (plan_given x None) ≤ most_size
  alone_fits evidence =
      let inside = alone_inside d.nodes x 0 is.graph within in
      let none : 0 ≤ greatest_of d.nodes (utilities_for d.nodes 0) = omega arith in
      tables_fit (nat_product_over (weight_total d.nodes p) (ruled_nodes d.nodes (plan_given x None))) (chances_lacking d.nodes x 0 None) (product_given d.nodes x 0) (10 ^ d.decimals) 0 (greatest_of d.nodes (utilities_for d.nodes 0))
      (lacking_positive d.nodes x 0 is.graph within None inside is.tables) (tables_within d.nodes x 0 is.graph within None inside is.tables p (factor_is d.nodes is.graph x evidence p)) (scale_some d.decimals) none (keeps.each 0 (first_within d))

  -- that with a utility, whose rules are pure, within the bound of its first owner's scope
  pub utility_fits : IsProfile d.nodes p → HasUnitRules d.nodes p → (u : ℕ) → u < length d.nodes → (node_at d.nodes u).kind ≡ Utility → 2 * plan_total d.nodes p (plan_given x (Some u)) ≤ most_size
  utility_fits profile unit u l k =
      let inside = utility_inside d.nodes x agent is.graph within u listed in
      tables_fit (nat_product_over (weight_total d.nodes p) (ruled_nodes d.nodes (plan_given x (Some u)))) (chances_lacking d.nodes x agent (Some u)) (product_given d.nodes x agent) (10 ^ d.decimals) (greatest_abs (node_at d.nodes u).cells) (greatest_of d.nodes (utilities_for d.nodes agent))
      (lacking_positive d.nodes x agent is.graph within (Some u) inside is.tables) (pure_within d.nodes x agent is.graph within p is.tables profile unit (Some u) inside) (scale_some d.decimals)
      (one_of_greatest d.nodes (utilities_for d.nodes agent) u listed) (keeps.each agent (agent_within d agent (is.owners.agent u agent l (λ e. let f : Utility ≡ Chance = sym k ∙ e in cc) owner)))
    where
      agent : ℕ
      agent = (node_at d.nodes u).owner

      owner : Owns d.nodes agent u
      owner = contains_from_among (owners_of d.nodes u) agent (inl refl)

      listed : Among u (utilities_for d.nodes agent)
      listed = filter_has (is_utility_of d.nodes agent) u (numbers_of d.nodes) (number d.nodes u l) (λ i. ap is_utility k i && (any_is agent (owners_of d.nodes u)).1 owner i)
