-- What plans sum to at a given state of x, and what that gives to an agent. Only private functions
-- cite it.
use Rattle.std.specs.Prelude.{◌≡◌, ◌≢◌, ◌↔◌, ℕ, ◌<◌, ◌≤◌, ◌*◌, ◌^◌, List, length, slice_index_or, Contains, Option, Some, None, ℤ, pos, ◌*ℤ◌, nat_abs, true, if◌then◌else◌}
use Rattle.maid_model.specs.declared.answers.Ratio.{Ratio}
use Rattle.maid_model.specs.declared.diagrams.Kind.TheVariants.{Utility}
use Rattle.maid_model.specs.Answers.{IsFraction}
use Rattle.maid_model.specs.Diagrams.{IsDiagram, greatest_number}
use Rattle.maid_model.specs.Gains.{greatest_abs}
use Rattle.maid_model.specs.Nodes.{is_utility_of, node_at, numbers_of, states_of}
use Rattle.maid_model.specs.Profiles.{IsProfile}
use Rattle.maid_model.specs.Scopes.{chance_factor}
use Rattle.maid_model.specs.Views.{NodeView, DiagramView, RuleView}
use Rattle.node_sets.specs.declared.sets.NodeSet.{NodeSet}
use Rattle.node_sets.specs.Sets.{holds, IsIn}
use Rattle.finite_sums.specs.Sums.{World, InRange, nat_product_over, sum_each}
use Rattle.part_laws.specs.ScopeLaws.{HasUnitRules}
use Rattle.plan_sums.specs.Plans.{gain_cells, mass_cells, plan_sum}
use Rattle.scope_sums.specs.Missing.{lacking_in}
use Rattle.weight_scale.specs.Given.{bound_given, product_given, scope_given}
use Rattle.evidence.specs.declared.stakes.Stake.{Stake}
use Rattle.evidence.specs.Bounds.{KeepsBoundsGiven}
use Rattle.evidence.specs.Sizes.{plan_given}

-- a chance node or decision x with this state, and a profile of pure rules, within the bounds of
-- the further scopes
pub record IsGivenSetting (d : DiagramView) (p : List RuleView) (x state : ℕ) : Type 0 where
  pub within : x < length d.nodes
  pub kind : (node_at d.nodes x).kind ≢ Utility
  pub has_state : state < states_of d.nodes x
  pub profile : IsProfile d.nodes p
  pub rules : HasUnitRules d.nodes p
  pub bounds : KeepsBoundsGiven d x

-- ---- what plans sum to
-- the weight is what the plan without a utility sums to at this state of x
abbrev pub IsMassAt : List NodeView → List RuleView → ℕ → ℕ → ℕ → Type 0
IsMassAt nodes p x state mass = (q : World) → InRange (states_of nodes) q → q x ≡ state
    → mass ≡ plan_sum mass_cells nodes p (plan_given x None) q

-- so it is under any rules, none of which counts where x descends from no decision
abbrev pub IsMass : List NodeView → ℕ → ℕ → ℕ → Type 0
IsMass nodes x state mass = (p : List RuleView) → IsMassAt nodes p x state mass

-- the worth is what the utility's plan sums to there
abbrev pub IsWorthGivenAt : List NodeView → List RuleView → ℕ → ℕ → ℕ → ℤ → Type 0
IsWorthGivenAt nodes p x state u worth = (q : World) → InRange (states_of nodes) q → q x ≡ state
    → worth ≡ plan_sum gain_cells nodes p (plan_given x (Some u)) q

-- the same if u is a utility
abbrev pub IsWorthIf : List NodeView → List RuleView → ℕ → ℕ → ℕ → ℤ → Type 0
IsWorthIf nodes p x state u worth =
    (node_at nodes u).kind ≡ Utility → IsWorthGivenAt nodes p x state u worth

-- the list has the worth of each utility
pub record HasWorthsAt
    (nodes : List NodeView) (p : List RuleView) (x state : ℕ) (worths : List ℤ) : Type 0 where
  pub count : length worths ≡ length nodes
  pub each : (u : ℕ) → u < length nodes → (node_at nodes u).kind ≡ Utility
      → IsWorthGivenAt nodes p x state u (slice_index_or worths u (pos 0))

-- ---- what they give
-- the product of the chance totals of a set's nodes
abbrev pub chances_in : List NodeView → NodeSet → ℕ
chances_in nodes set =
    nat_product_over (λ v. if holds set v then chance_factor nodes v else 1) (numbers_of nodes)

-- the product of the chance totals of those nodes of the agent's scope that the plan lacks
abbrev pub chances_lacking : List NodeView → ℕ → ℕ → Option ℕ → ℕ
chances_lacking nodes x agent utility = nat_product_over (chance_factor nodes) (lacking_in nodes
    (scope_given nodes x agent) (plan_given x utility))

-- what a node gives to an agent's gain: a utility of the agent its worth times the totals that its
-- plan lacks
abbrev pub share_given : List NodeView → ℕ → ℕ → List ℤ → ℕ → ℤ
share_given nodes x agent worths v = if is_utility_of nodes agent v
    then slice_index_or worths v (pos 0) *ℤ pos (chances_lacking nodes x agent (Some v))
    else pos 0

-- the agent's gain in its scope
abbrev pub scope_gain_given : List NodeView → ℕ → ℕ → List ℤ → ℤ
scope_gain_given nodes x agent worths = sum_each (share_given nodes x agent worths) (numbers_of nodes)

-- the weight of the worlds in the agent's scope
abbrev pub scope_mass_given : List NodeView → ℕ → ℕ → ℕ → ℕ
scope_mass_given nodes x agent mass = mass * chances_lacking nodes x agent None

-- an agent within its bound, with its scope, and a positive weight and worths that keep the scope's
-- P
pub record IsGivenStake
    (d : DiagramView) (x agent mass : ℕ) (worths : List ℤ) (scope : NodeSet) : Type 0 where
  pub is_diagram : IsDiagram d
  pub within : x < length d.nodes
  pub plain : (node_at d.nodes x).kind ≢ Utility
  pub count : length worths ≡ length d.nodes
  pub bound : bound_given d x agent ≤ greatest_number
  pub is_scope : (v : ℕ) → IsIn scope v ↔ Contains (scope_given d.nodes x agent) v
  pub positive : 0 < mass
  pub mass_fits : scope_mass_given d.nodes x agent mass ≤ product_given d.nodes x agent
  pub worth_fits : (u : ℕ) → u < length d.nodes → is_utility_of d.nodes agent u ≡ true
      → nat_abs (slice_index_or worths u (pos 0) *ℤ pos (chances_lacking d.nodes x agent (Some u)))
      ≤ product_given d.nodes x agent * greatest_abs (node_at d.nodes u).cells

-- the agent's gain over the weight, in the agent's scope, in lowest terms
abbrev pub IsScopeFraction : DiagramView → ℕ → ℕ → ℕ → List ℤ → Ratio → Type 0
IsScopeFraction d x agent mass worths r = IsFraction r (scope_gain_given d.nodes x agent worths)
    (scope_mass_given d.nodes x agent mass * 10 ^ d.decimals)

-- ---- of a stake as the program has it
-- what the stake has is right
abbrev pub HoldsGivenStake : Stake → Type 0
HoldsGivenStake s = IsGivenStake s.diagram.now s.node s.agent s.mass s.worths.now s.scope

-- what a node gives to its agent's gain
abbrev pub given_share_of : Stake → ℕ → ℤ
given_share_of s v = share_given s.diagram.now.nodes s.node s.agent s.worths.now v

-- its agent's gain
abbrev pub given_gain_to : Stake → ℤ
given_gain_to s = scope_gain_given s.diagram.now.nodes s.node s.agent s.worths.now

-- the weight of its worlds
abbrev pub mass_to : Stake → ℕ
mass_to s = scope_mass_given s.diagram.now.nodes s.node s.agent s.mass

-- the fraction of the two, in lowest terms
abbrev pub IsFractionTo : Stake → Ratio → Type 0
IsFractionTo s r = IsScopeFraction s.diagram.now s.node s.agent s.mass s.worths.now r
