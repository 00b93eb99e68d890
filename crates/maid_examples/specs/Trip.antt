-- One agent sees the weather and stays or goes; and the same beside a coin that has nothing to do
-- with it.
use Rattle.std.specs.Prelude.{◌≡◌, ℕ, List, [], ◌∷◌, pos, negsuc}
use Rattle.maid_model.specs.declared.diagrams.Kind.TheVariants.{Chance}
use Rattle.maid_model.specs.Views.{NodeView, RuleView, DiagramView, SolvedView}
use Rattle.maid_model.specs.Diagrams.{IsDiagram}
use Rattle.maid_model.specs.Profiles.{IsProfile, uniform_profile}
use Rattle.maid_model.specs.Gains.{gain_of, mass, gain_at, mass_at}
use Rattle.maid_model.specs.Subgames.{IsListing, IsSubgameStart, IsSubgamePerfect, IsOptimal, gain_from, mass_from}
use Rattle.maid_model.specs.Answers.{IsAnswer}
use Rattle.maid_model.specs.Edits.{as_decision}
use Rattle.maid_model.specs.Values.{IsOptimum, IsValueOfControl}
use Rattle.maid_model.specs.Bounds.{bound_product}
use Rattle.maid_laws.specs.Exchange.{IsBestInBases}
use Rattle.maid_model.specs.Parts.{place_in, part_of, rules_in, mass_left_out}
use Rattle.maid_model.specs.Scopes.{scope_of, scope_for, scope_product, scope_product_for, scope_bound}
use Rattle.maid_examples.specs.Samples.{decision, pay, rule, whole, reached, HasRowSums}

-- node 0: one part rain, three parts sun
abbrev pub weather : NodeView
weather = record {
  kind = Chance;
  owner = 0;
  more = [];
  states = 2;
  parents = [];
  cells = pos 1 ∷ pos 3 ∷ [];
}

-- rain is worth 5 at home and 0 outside, sun -1 at home and 7 outside
abbrev pub joy : ℕ → ℕ → NodeView
joy weather outing = pay 0 (weather ∷ outing ∷ []) (pos 5 ∷ pos 0 ∷ negsuc 0 ∷ pos 7 ∷ [])

-- node 1 stays or goes, seeing the weather
abbrev pub trip : List NodeView
trip = weather ∷ decision 0 (0 ∷ []) ∷ joy 0 1 ∷ []

-- the trip with one agent: all sums and values by hand
abbrev pub trip_diagram : DiagramView
trip_diagram = record { nodes = trip; agents = 1; decimals = 0 }

-- to stay in the rain and go in the sun
abbrev pub plan : List RuleView
plan = rule 1 1 (1 ∷ 0 ∷ 0 ∷ 1 ∷ []) ∷ []

-- to stay whatever the weather
abbrev pub stay : List RuleView
stay = rule 1 1 (1 ∷ 0 ∷ 1 ∷ 0 ∷ []) ∷ []

-- it is a diagram, and the rules are profiles of it
pub record IsSoundSample : Type 0 where
  pub diagram : IsDiagram trip_diagram
  pub of_uniform : IsProfile trip (uniform_profile trip)
  pub of_plan : IsProfile trip plan
  pub of_stay : IsProfile trip stay

-- Under the plan rain has weight 1 and sun 3: 1 * 5 + 3 * 7 = 26, of mass 4. With uniform rules 5 +
-- 0 + 3 * (-1) + 3
-- * 7 = 23, of mass 8. To stay gives 5 - 3 = 2, of mass 4. In a row the weather's weight is the
--   mass.
pub record HasSums : Type 0 where
  pub plan_gain : gain_of trip plan 0 ≡ pos 26
  pub plan_mass : mass trip plan ≡ 4
  pub uniform_gain : gain_of trip (uniform_profile trip) 0 ≡ pos 23
  pub uniform_mass : mass trip (uniform_profile trip) ≡ 8
  pub stay_gain : gain_of trip stay 0 ≡ pos 2
  pub stay_mass : mass trip stay ≡ 4
  pub rain : HasRowSums trip plan 1 0 (pos 5) (pos 0) (pos 1)
  pub sun : HasRowSums trip plan 1 1 (negsuc 2) (pos 21) (pos 3)

-- a subgame starts once the sun is seen to shine, and the plan is worth 7 from there, of mass 1
pub record HasASubgame : Type 0 where
  pub listing : IsListing trip (0 ∷ 1 ∷ [])
  pub start : IsSubgameStart trip (0 ∷ 1 ∷ []) (1 ∷ [])
  pub worth : gain_from trip (0 ∷ 1 ∷ []) (1 ∷ []) plan 0 ≡ pos 7
  pub mass_there : mass_from trip (0 ∷ 1 ∷ []) (1 ∷ []) plan ≡ 1

-- to stay in the rain is worth 5, to go in the sun 7, and the plan 13/2
abbrev pub answer : SolvedView
answer = record {
  order = 1 ∷ [];
  answers = record { decision = 1; rows = reached 0 5 ∷ reached 1 7 ∷ [] } ∷ [];
  gains = record { num = pos 13; den = 2 } ∷ [];
}

-- The plan is the answer, and so best in its bases, subgame-perfect and optimal: the optimum is
-- 13/2. To stay is none of these.
pub record IsTripSolved : Type 0 where
  pub answered : IsAnswer trip_diagram answer
  pub optimum : IsOptimum trip 0 0 (record { num = pos 13; den = 2 })
  pub best : IsBestInBases trip plan
  pub perfect : IsSubgamePerfect trip plan
  pub optimal : IsOptimal trip plan 0
  pub stay_not_best : IsBestInBases trip stay → ⊥
  pub stay_not_perfect : IsSubgamePerfect trip stay → ⊥
  pub stay_not_optimal : IsOptimal trip stay 0 → ⊥

-- Whoever makes the weather makes it sunny and goes, worth 7: control of it is worth 7 - 13/2 =
-- 1/2.
pub record HasWeatherControl : Type 0 where
  pub optimum : IsOptimum (as_decision trip 0 0) 0 0 (whole (pos 7))
  pub control : IsValueOfControl trip 0 [] 0 0 (record { num = pos 1; den = 2 })

-- a coin with a third side
abbrev pub coin : NodeView
coin = record {
  kind = Chance;
  owner = 0;
  more = [];
  states = 3;
  parents = [];
  cells = pos 2 ∷ pos 2 ∷ pos 1 ∷ [];
}

-- what agent 1 has bet on the coin
abbrev pub bet : NodeView
bet = pay 1 (0 ∷ []) (pos 1 ∷ pos 0 ∷ negsuc 4 ∷ [])

-- the trip's nodes behind the coin and beside the bet
abbrev pub tossed : List NodeView
tossed = coin ∷ weather ∷ bet ∷ decision 0 (1 ∷ []) ∷ joy 1 3 ∷ []

-- the trip beside the coin, with two agents: a scope that is a part of the whole
abbrev pub tossed_diagram : DiagramView
tossed_diagram = record { nodes = tossed; agents = 2; decimals = 0 }

-- the trip's plan
abbrev pub tossed_plan : List RuleView
tossed_plan = rule 3 1 (1 ∷ 0 ∷ 0 ∷ 1 ∷ []) ∷ []

-- the scope of the decision makes the trip, with its plan and a fifth of its sums; and the coin no
-- longer counts in its bound
pub record HasAPart : Type 0 where
  pub diagram : IsDiagram tossed_diagram
  pub profile : IsProfile tossed tossed_plan
  pub scope : scope_of tossed 3 ≡ 1 ∷ 3 ∷ 4 ∷ []
  pub scope_of_agent : scope_for tossed 1 ≡ 0 ∷ 2 ∷ []
  pub place : place_in (1 ∷ 3 ∷ 4 ∷ []) 3 ≡ 1
  pub part : part_of tossed (1 ∷ 3 ∷ 4 ∷ []) ≡ trip
  pub rules : rules_in tossed tossed_plan (1 ∷ 3 ∷ 4 ∷ []) ≡ plan
  pub left : mass_left_out tossed tossed_plan (1 ∷ 3 ∷ 4 ∷ []) ≡ 5
  pub gain : gain_of tossed tossed_plan 0 ≡ pos 130
  pub whole_mass : mass tossed tossed_plan ≡ 20
  pub go_in_sun : gain_at tossed tossed_plan 3 1 1 ≡ pos 105
  pub sun : mass_at tossed tossed_plan 3 1 ≡ pos 15
  pub whole_product : bound_product tossed ≡ 40
  pub product : scope_product tossed 3 ≡ 8
  pub product_of_agent : scope_product_for tossed 0 ≡ 4
  pub bound : scope_bound tossed_diagram 3 ≡ 56
