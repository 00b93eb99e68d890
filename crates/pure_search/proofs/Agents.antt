-- The part of an agent's scope: the sum over its worlds has room, and the fraction is that of the
-- whole.
use Rattle.std.proofs.Common.{◌≡◌, ◌∙◌, ℕ, ◌*◌, ◌^◌, ◌<◌, ◌≤◌, List, [], ◌∷◌, refl, ap, sym, subst, arith, max}
use Rattle.std.proofs.Math.Nat.{mul-le-mul_left, mul-pos, one-le-pow}
use Rattle.finite_sums.specs.Sums.{nat_product_over}
use Rattle.maid_model.specs.declared.answers.Ratio.{Ratio}
use Rattle.maid_model.specs.Answers.{IsExpectedUtility, IsFraction}
use Rattle.maid_model.specs.Diagrams.{IsDiagram, greatest_number}
use Rattle.maid_model.specs.Gains.{gain_of, greatest_utility, mass}
use Rattle.maid_model.specs.declared.diagrams.Kind.{Kind}
use Rattle.maid_model.specs.declared.diagrams.Kind.TheVariants.{Chance, Decision, Utility}
use Rattle.maid_model.specs.Graph.{IsGraph}
use Rattle.maid_model.specs.Nodes.{node_at, numbers_of}
use Rattle.maid_model.specs.Parts.{IsAncestral, part_diagram, rules_in}
use Rattle.maid_model.specs.Profiles.{IsProfile}
use Rattle.maid_model.specs.Scopes.{KeepsScopedBounds, rules_in_scope_for, scope_for, scope_part_for}
use Rattle.maid_model.specs.Tables.{HasChanceTables, chance_total, rule_total, total_by, weight_total}
use Rattle.maid_laws.proofs.Tied.{decision_of}
use Rattle.maid_model.specs.Views.{DiagramView, NodeView, RuleView}
use Rattle.part_laws.specs.ScopeLaws.{HasUnitRules}
use Rattle.part_laws.proofs.PartChoices.{worths_law}
use Rattle.part_laws.proofs.PartLaws.{profiles_law, tables_law}
use Rattle.part_laws.proofs.ScopeLaws.{agents_scopes_law}
use Rattle.part_laws.proofs.ScopeRoom.{room_law}

-- ---- the mass of a profile is positive
positive_product : (f : ℕ → ℕ) (vs : List ℕ) → ((v : ℕ) → 0 < f v) → 0 < nat_product_over f vs
positive_product f [] h = omega arith
positive_product f (v ∷ vs) h = mul-pos (h v) (positive_product f vs h)

totals_positive : (nodes : List NodeView) (p : List RuleView) → HasChanceTables nodes → IsProfile nodes p → (v : ℕ) → 0 < weight_total nodes p v
totals_positive nodes p c h v = by_kind (node_at nodes v).kind refl
  where
    by_kind : (k : Kind) → (node_at nodes v).kind ≡ k → 0 < total_by k (chance_total nodes v) (rule_total p v)
    by_kind Chance e = c.positive v e
    by_kind Decision e = (h.rule v (decision_of nodes v e)).positive
    by_kind Utility e = omega arith

mass_positive : (nodes : List NodeView) (p : List RuleView) → HasChanceTables nodes → IsProfile nodes p → 0 < mass nodes p
mass_positive nodes p c h = positive_product (weight_total nodes p) (numbers_of nodes) (totals_positive nodes p c h)

-- ---- the part
-- a diagram within the bounds, a profile of rules of total 1, and an agent
record IsPlayed (d : DiagramView) (p : List RuleView) (agent : ℕ) : Type 0 where
  pub diagram : IsDiagram d
  pub bound : KeepsScopedBounds d
  pub profile : IsProfile d.nodes p
  pub unit : HasUnitRules d.nodes p
  pub within : agent < d.agents

-- the part of the agent's scope, with the profile's rules
record IsStageFor (d : DiagramView) (p : List RuleView) (agent : ℕ) (part : DiagramView) (rules : List RuleView) : Type 0 where
  pub part_is : part ≡ part_diagram d (scope_for d.nodes agent)
  pub rules_are : rules ≡ rules_in_scope_for d.nodes p agent

-- what the sum over the part asks for
record CanWeigh (d : DiagramView) (p : List RuleView) : Type 0 where
  pub profile : IsProfile d.nodes p
  pub tables : HasChanceTables d.nodes
  pub fits : mass d.nodes p * max (10 ^ d.decimals) (greatest_utility d.nodes) ≤ greatest_number

module _ (d : DiagramView) (p : List RuleView) (agent : ℕ) (h : IsPlayed d p agent) (part : DiagramView) (rules : List RuleView) (stage : IsStageFor d p agent part rules) where
  can_weigh : CanWeigh part rules
  can_weigh =
      let closed = (agents_scopes_law d.nodes agent h.diagram.graph).0 in
      let there : CanWeigh (part_diagram d (scope_for d.nodes agent)) (rules_in d.nodes p (scope_for d.nodes agent)) = record {
        profile = profiles_law d.nodes p (scope_for d.nodes agent) h.profile closed;
        tables = tables_law d.nodes (scope_for d.nodes agent) h.diagram.tables closed;
        fits = ((room_law d p h.diagram.graph h.diagram.tables h.profile h.bound).1 agent h.within h.unit).call;
      } in
      subst (λ x. CanWeigh x rules) (sym stage.part_is) (subst (λ x. CanWeigh (part_diagram d (scope_for d.nodes agent)) x) (sym stage.rules_are) there)

  decimals : part.decimals ≡ d.decimals
  decimals = ap (λ (x : DiagramView). x.decimals) stage.part_is

  scale : 0 < 10 ^ d.decimals
  scale = let ten : 0 < 10 = omega arith in one-le-pow d.decimals 10 ten

  scaled_fits : mass part.nodes rules * 10 ^ d.decimals ≤ greatest_number
  scaled_fits = chain (mass part.nodes rules) (10 ^ part.decimals) (10 ^ d.decimals) (greatest_utility part.nodes) (ap (λ n. 10 ^ n) decimals) can_weigh.fits
    where
      most : (a b : ℕ) → a ≤ max a b
      most a b = omega arith

      chain : (m a b u : ℕ) → a ≡ b → m * max a u ≤ greatest_number → m * b ≤ greatest_number
      chain m a b u e f = let more : m * a ≤ m * max a u = mul-le-mul_left m (most a u) in subst (λ x. m * x ≤ greatest_number) e (omega (arith, more, f))

  scaled_positive : 0 < mass part.nodes rules * 10 ^ d.decimals
  scaled_positive = mul-pos (mass_positive part.nodes rules can_weigh.tables can_weigh.profile) scale

  mass_fits : mass part.nodes rules ≤ greatest_number
  mass_fits = chain (mass part.nodes rules) (10 ^ d.decimals) scale scaled_fits
    where
      chain : (m a : ℕ) → 0 < a → m * a ≤ greatest_number → m ≤ greatest_number
      chain m a l f = let more : m * 1 ≤ m * a = mul-le-mul_left m l in omega (arith, more, f)

  same_worth : (w : Ratio) → IsFraction w (gain_of part.nodes rules agent) (mass part.nodes rules * 10 ^ d.decimals) → IsExpectedUtility d.nodes (10 ^ d.decimals) p agent w
  same_worth w f =
      let scopes = agents_scopes_law d.nodes agent h.diagram.graph in
      let told = worths_law d.nodes p (scope_for d.nodes agent) agent (10 ^ d.decimals) w h.diagram.graph h.diagram.tables h.profile scopes.0 scopes.1 in
      told.1
      (subst (λ x. IsFraction w (gain_of (part_diagram d (scope_for d.nodes agent)).nodes x agent) (mass (part_diagram d (scope_for d.nodes agent)).nodes x * 10 ^ d.decimals)) stage.rules_are
      (subst (λ (x : DiagramView). IsFraction w (gain_of x.nodes rules agent) (mass x.nodes rules * 10 ^ d.decimals)) stage.part_is f))

  gain_is : gain_of part.nodes rules agent ≡ gain_of (scope_part_for d.nodes agent) (rules_in_scope_for d.nodes p agent) agent
  gain_is = ap (λ (x : DiagramView). gain_of x.nodes rules agent) stage.part_is ∙ ap (λ x. gain_of (scope_part_for d.nodes agent) x agent) stage.rules_are

-- all that is asked and known of the sum over the part
pub record IsWeighed (d : DiagramView) (p : List RuleView) (agent : ℕ) (part : DiagramView) (rules : List RuleView) : Type 0 where
  pub profile : IsProfile part.nodes rules
  pub fits : mass part.nodes rules * max (10 ^ part.decimals) (greatest_utility part.nodes) ≤ greatest_number
  pub mass_fits : mass part.nodes rules ≤ greatest_number
  pub scaled_fits : mass part.nodes rules * 10 ^ d.decimals ≤ greatest_number
  pub scaled_positive : 0 < mass part.nodes rules * 10 ^ d.decimals
  pub worth : (w : Ratio) → IsFraction w (gain_of part.nodes rules agent) (mass part.nodes rules * 10 ^ d.decimals) → IsExpectedUtility d.nodes (10 ^ d.decimals) p agent w
  pub gain : gain_of part.nodes rules agent ≡ gain_of (scope_part_for d.nodes agent) (rules_in_scope_for d.nodes p agent) agent

pub weighed : (d : DiagramView) (p : List RuleView) (agent : ℕ) → IsDiagram d → KeepsScopedBounds d → IsProfile d.nodes p → HasUnitRules d.nodes p → agent < d.agents
    → (part : DiagramView) (kept : List ℕ) (rules : List RuleView) → part ≡ part_diagram d (scope_for d.nodes agent) → kept ≡ scope_for d.nodes agent → rules ≡ rules_in d.nodes p kept
    → IsWeighed d p agent part rules
weighed d p agent is bound profile unit within part kept rules e k f =
    let h : IsPlayed d p agent = record { diagram = is; bound = bound; profile = profile; unit = unit; within = within } in
    let on : IsStageFor d p agent part rules = record { part_is = e; rules_are = f ∙ ap (rules_in d.nodes p) k } in
    let can = can_weigh d p agent h part rules on in
    record {
      profile = can.profile;
      fits = can.fits;
      mass_fits = mass_fits d p agent h part rules on;
      scaled_fits = scaled_fits d p agent h part rules on;
      scaled_positive = scaled_positive d p agent h part rules on;
      worth = same_worth d p agent h part rules on;
      gain = gain_is d p agent h part rules on;
    }

-- the nodes of the scope keep their parents
pub scope_kept : (nodes : List NodeView) (agent : ℕ) (kept : List ℕ) → IsGraph nodes → kept ≡ scope_for nodes agent → IsAncestral nodes kept
scope_kept nodes agent kept g e = subst (IsAncestral nodes) (sym e) (agents_scopes_law nodes agent g).0
