-- The part of an agent's scope: the sum over its worlds has room, and the fraction is that of the
-- whole.
use Rattle.std.proofs.Common.{◌≡◌, ◌↔◌, ℕ, ◌*◌, ◌^◌, ◌<◌, ◌≤◌, List, ap, sym, subst, arith, max}
use Rattle.std.proofs.Math.Nat.{mul-le-mul_left, mul-pos, one-le-pow}
use Rattle.maid_model.specs.declared.answers.Ratio.{Ratio}
use Rattle.maid_model.specs.Answers.{IsExpectedUtility, IsFraction}
use Rattle.maid_model.specs.Diagrams.{greatest_number}
use Rattle.maid_model.specs.Gains.{gain_of, greatest_utility, mass}
use Rattle.maid_model.specs.Graph.{IsGraph}
use Rattle.maid_model.specs.Parts.{part_diagram, rules_in}
use Rattle.maid_model.specs.Profiles.{IsProfile}
use Rattle.maid_model.specs.Scopes.{KeepsScopedBounds, scope_for}
use Rattle.maid_model.specs.Tables.{HasChanceTables}
use Rattle.maid_model.specs.Views.{DiagramView, RuleView}
use Rattle.part_laws.specs.ScopeLaws.{HasUnitRules}
use Rattle.part_laws.proofs.PartChoices.{worths_law}
use Rattle.part_laws.proofs.PartLaws.{profiles_law, tables_law}
use Rattle.part_laws.proofs.ScopeLaws.{agents_scopes_law}
use Rattle.part_laws.proofs.ScopeRoom.{room_law}
use Rattle.tree_checker.proofs.ProductSteps.{mass_positive}

-- a diagram within the bounds, a profile of rules of total 1, and an agent
pub record IsPlayed (d : DiagramView) (p : List RuleView) (agent : ℕ) : Type 0 where
  pub graph : IsGraph d.nodes
  pub tables : HasChanceTables d.nodes
  pub bound : KeepsScopedBounds d
  pub profile : IsProfile d.nodes p
  pub unit : HasUnitRules d.nodes p
  pub within : agent < d.agents

-- the part of the agent's scope, with the profile's rules
pub record IsRuledPartFor (d : DiagramView) (p : List RuleView) (agent : ℕ) (part : DiagramView) (rules : List RuleView) : Type 0 where
  pub part_is : part ≡ part_diagram d (scope_for d.nodes agent)
  pub rules_are : rules ≡ rules_in d.nodes p (scope_for d.nodes agent)

-- what the sum over the part asks for
pub record CanWeigh (d : DiagramView) (p : List RuleView) : Type 0 where
  pub profile : IsProfile d.nodes p
  pub tables : HasChanceTables d.nodes
  pub fits : mass d.nodes p * max (10 ^ d.decimals) (greatest_utility d.nodes) ≤ greatest_number

module _ (d : DiagramView) (p : List RuleView) (agent : ℕ) (h : IsPlayed d p agent) (part : DiagramView) (rules : List RuleView) (ruled : IsRuledPartFor d p agent part rules) where
  pub can_weigh : CanWeigh part rules
  can_weigh =
      let closed = (agents_scopes_law d.nodes agent h.graph).0 in
      let there : CanWeigh (part_diagram d (scope_for d.nodes agent)) (rules_in d.nodes p (scope_for d.nodes agent)) = record {
        profile = profiles_law d.nodes p (scope_for d.nodes agent) h.profile closed;
        tables = tables_law d.nodes (scope_for d.nodes agent) h.tables closed;
        fits = ((room_law d p h.graph h.tables h.profile h.bound).1 agent h.within h.unit).call;
      } in
      subst (λ x. CanWeigh x rules) (sym ruled.part_is) (subst (λ x. CanWeigh (part_diagram d (scope_for d.nodes agent)) x) (sym ruled.rules_are) there)

  decimals : part.decimals ≡ d.decimals
  decimals = ap (λ (x : DiagramView). x.decimals) ruled.part_is

  scale : 0 < 10 ^ d.decimals
  scale = let ten : 0 < 10 = omega arith in one-le-pow d.decimals 10 ten

  pub scaled_fits : mass part.nodes rules * 10 ^ d.decimals ≤ greatest_number
  scaled_fits = chain (mass part.nodes rules) (10 ^ part.decimals) (10 ^ d.decimals) (greatest_utility part.nodes) (ap (λ n. 10 ^ n) decimals) can_weigh.fits
    where
      most : (a b : ℕ) → a ≤ max a b
      most a b = omega arith

      chain : (m a b u : ℕ) → a ≡ b → m * max a u ≤ greatest_number → m * b ≤ greatest_number
      chain m a b u e f = let more : m * a ≤ m * max a u = mul-le-mul_left m (most a u) in subst (λ x. m * x ≤ greatest_number) e (omega (arith, more, f))

  pub mass_fits : mass part.nodes rules ≤ greatest_number
  mass_fits = chain (mass part.nodes rules) (10 ^ d.decimals) scale scaled_fits
    where
      chain : (m a : ℕ) → 0 < a → m * a ≤ greatest_number → m ≤ greatest_number
      chain m a l f = let more : m * 1 ≤ m * a = mul-le-mul_left m l in omega (arith, more, f)

  pub scaled_positive : 0 < mass part.nodes rules * 10 ^ d.decimals
  scaled_positive = mul-pos (mass_positive part.nodes rules can_weigh.tables can_weigh.profile) scale

  pub same_worth : (w : Ratio) → IsFraction w (gain_of part.nodes rules agent) (mass part.nodes rules * 10 ^ d.decimals) ↔ IsExpectedUtility d.nodes (10 ^ d.decimals) p agent w
  same_worth w =
      let scopes = agents_scopes_law d.nodes agent h.graph in
      let told = worths_law d.nodes p (scope_for d.nodes agent) agent (10 ^ d.decimals) w h.graph h.tables h.profile scopes.0 scopes.1 in (
        λ f. told.1 (subst (λ x. IsFraction w (gain_of (part_diagram d (scope_for d.nodes agent)).nodes x agent) (mass (part_diagram d (scope_for d.nodes agent)).nodes x * 10 ^ d.decimals)) ruled.rules_are
            (subst (λ (x : DiagramView). IsFraction w (gain_of x.nodes rules agent) (mass x.nodes rules * 10 ^ d.decimals)) ruled.part_is f)),
        λ e. subst (λ (x : DiagramView). IsFraction w (gain_of x.nodes rules agent) (mass x.nodes rules * 10 ^ d.decimals)) (sym ruled.part_is)
            (subst (λ x. IsFraction w (gain_of (part_diagram d (scope_for d.nodes agent)).nodes x agent) (mass (part_diagram d (scope_for d.nodes agent)).nodes x * 10 ^ d.decimals)) (sym ruled.rules_are) (told.0 e)),
      )
