-- One agent between two states that are worth the same, and between a better and a lesser one.
use Rattle.std.specs.Prelude.{◌≡◌, ℕ, ℤ, List, [], ◌∷◌, pos}
use Rattle.maid_model.specs.Views.{NodeView, RuleView, DiagramView, SolvedView}
use Rattle.maid_model.specs.declared.answers.Row.{Row}
use Rattle.maid_model.specs.Diagrams.{IsDiagram}
use Rattle.maid_model.specs.Profiles.{IsProfile}
use Rattle.maid_model.specs.Gains.{gain_of}
use Rattle.maid_model.specs.Subgames.{IsOptimal, IsSubgamePerfect, OwnsAll}
use Rattle.maid_model.specs.Answers.{IsAnswer}
use Rattle.maid_model.specs.Accepted.{IsAccepted}
use Rattle.maid_laws.specs.Exchange.{IsBestInBases}
use Rattle.maid_examples.specs.Samples.{decision, pay, rule, whole, reached, never}

-- a choice between two states of these worths
abbrev pub between : ℤ → ℤ → List NodeView
between first second = decision 0 [] ∷ pay 0 (0 ∷ []) (first ∷ second ∷ []) ∷ []

-- two states of the same worth
abbrev pub tie : List NodeView
tie = between (pos 5) (pos 5)

-- the tie with one agent: two reports are accepted and one is the answer
abbrev pub tie_diagram : DiagramView
tie_diagram = record { nodes = tie; agents = 1; decimals = 0 }

-- a better state and a lesser one
abbrev pub uneven : List NodeView
uneven = between (pos 5) (pos 3)

-- these with one agent: one state is best
abbrev pub uneven_diagram : DiagramView
uneven_diagram = record { nodes = uneven; agents = 1; decimals = 0 }

-- the state with this weight is the first, and the state with that weight the second
abbrev pub taking : ℕ → ℕ → List RuleView
taking first second = rule 0 1 (first ∷ second ∷ []) ∷ []

-- one row is answered, and the plan is worth this
abbrev pub report : Row → ℤ → SolvedView
report row gain = record {
  order = 0 ∷ [];
  answers = record { decision = 0; rows = row ∷ [] } ∷ [];
  gains = whole gain ∷ [];
}

-- both are diagrams of one agent, and the rules are profiles of both
pub record AreSound : Type 0 where
  pub same : IsDiagram tie_diagram
  pub other : IsDiagram uneven_diagram
  pub alone : OwnsAll uneven 0
  pub first : IsProfile uneven (taking 1 0)
  pub second : IsProfile uneven (taking 0 1)

-- Of two states of worth 5 the first is the answer. The second is accepted too, if its worth and
-- the gain are right; a row that is marked as never reached is not.
pub record HasTie : Type 0 where
  pub answer : IsAnswer tie_diagram (report (reached 0 5) (pos 5))
  pub second_is_none : IsAnswer tie_diagram (report (reached 1 5) (pos 5)) → ⊥
  pub accepted : IsAccepted tie_diagram (report (reached 0 5) (pos 5))
  pub second_is_accepted : IsAccepted tie_diagram (report (reached 1 5) (pos 5))
  pub not_of_another_worth : IsAccepted tie_diagram (report (reached 1 4) (pos 5)) → ⊥
  pub not_of_another_gain : IsAccepted tie_diagram (report (reached 1 5) (pos 4)) → ⊥
  pub not_marked : IsAccepted tie_diagram (report (never 0) (pos 5)) → ⊥

-- Of 5 and 3 the first state is the answer, optimal and subgame-perfect; the second is none of
-- these, and not accepted.
pub record HasBest : Type 0 where
  pub answer : IsAnswer uneven_diagram (report (reached 0 5) (pos 5))
  pub not_accepted : IsAccepted uneven_diagram (report (reached 1 3) (pos 3)) → ⊥
  pub first : gain_of uneven (taking 1 0) 0 ≡ pos 5
  pub second : gain_of uneven (taking 0 1) 0 ≡ pos 3
  pub optimal : IsOptimal uneven (taking 1 0) 0
  pub not_optimal : IsOptimal uneven (taking 0 1) 0 → ⊥
  pub perfect : IsSubgamePerfect uneven (taking 1 0)
  pub not_perfect : IsSubgamePerfect uneven (taking 0 1) → ⊥

-- An empty list of rules is no profile of a diagram with a decision, and so neither subgame-perfect
-- nor optimal nor best in its bases.
pub record LacksRules : Type 0 where
  pub no_profile : IsProfile uneven [] → ⊥
  pub not_perfect : IsSubgamePerfect uneven [] → ⊥
  pub not_optimal : IsOptimal uneven [] 0 → ⊥
  pub not_best : IsBestInBases uneven [] → ⊥
