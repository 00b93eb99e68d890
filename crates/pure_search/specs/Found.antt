-- The first pure equilibrium of a diagram.
use Rattle.std.specs.Prelude.{◌≡◌, ℕ, List, [], length, slice_index_or}
use Rattle.maid_model.specs.declared.answers.Ratio.{Ratio}
use Rattle.maid_model.specs.Views.{NodeView, DiagramView, RuleView, AnswerView}
use Rattle.maid_model.specs.Answers.{AreChoices, IsGains, pure_profile}
use Rattle.reach_laws.specs.Equilibria.{IsEquilibrium, IsFirstPure, pure_profiles}

-- answered decisions, and what they are worth to each agent
pub record PureView : Type 0 where
  pub answers : List AnswerView
  pub gains : List Ratio

-- the profile of the answered choices
abbrev pub found_profile : DiagramView → PureView → List RuleView
found_profile d found = pure_profile d.nodes found.answers

-- the profile is the first in the list of pure ones from which no agent gains
pub record IsFirstStable (nodes : List NodeView) (s : List RuleView) : Type 0 where
  pub place : ℕ
  pub first : IsFirstPure nodes place
  pub stands : slice_index_or (pure_profiles nodes) place [] ≡ s

-- Each decision in text order with a choice in each row, and no worths; together the choices are
-- the first pure equilibrium, and the gains are its expected utilities, one for each agent.
pub record IsPureFound (d : DiagramView) (found : PureView) : Type 0 where
  pub choices : AreChoices d.nodes found.answers
  pub first : IsFirstStable d.nodes (found_profile d found)
  pub count : length found.gains ≡ d.agents
  pub gains : IsGains d (found_profile d found) found.gains

-- No agent gains by other rules of its own, pure or mixed.
abbrev pub IsStable : DiagramView → PureView → Type 0
IsStable d found = IsEquilibrium d.nodes (found_profile d found)
