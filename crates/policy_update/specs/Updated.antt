-- The result of updating: its choices, how many rounds raised, and what it is worth.
use Rattle.std.specs.Prelude.{◌≢◌, ℕ, suc, List, pos, ◌*ℤ◌, ◌<ℤ◌}
use Rattle.maid_model.specs.declared.answers.Ratio.{Ratio}
use Rattle.maid_model.specs.Answers.{AreChoices, pure_profile}
use Rattle.maid_model.specs.Gains.{gain_of, mass}
use Rattle.maid_model.specs.Nodes.{IsDecision, agent_of}
use Rattle.maid_model.specs.Profiles.{IsProfile, SameRule}
use Rattle.maid_model.specs.Subgames.{IsNoBetter}
use Rattle.maid_model.specs.Views.{NodeView, DiagramView, RuleView, AnswerView}
use Rattle.reach_laws.specs.Updates.{IsReachedAfter, IsUpdated}
use Rattle.rule_solver.specs.Masses.{HasGains}

-- how many rounds raised, the choices at each decision, and what they are worth to each agent
pub record UpdatedView : Type 0 where
  pub rounds : ℕ
  pub answers : List AnswerView
  pub gains : List Ratio

-- the choices before the first round that does not raise, how many rounds came before, and what the
-- choices are worth to each agent
pub record IsUpdateOf (d : DiagramView) (updated : UpdatedView) : Type 0 where
  pub choices : AreChoices d.nodes updated.answers
  pub result : IsUpdated d.nodes updated.rounds (pure_profile d.nodes updated.answers)
  pub gains : HasGains d (pure_profile d.nodes updated.answers) d.agents updated.gains

-- no other rule of any one decision, pure or not, gives the decision's agent a greater expected
-- utility
abbrev pub IsLocalOptimum : List NodeView → List RuleView → Type 0
IsLocalOptimum nodes p =
    (d : ℕ) (t : List RuleView) → IsDecision nodes d → IsProfile nodes t
    → ((v : ℕ) → IsDecision nodes v → v ≢ d → SameRule t p v)
    → IsNoBetter nodes (agent_of nodes d) p t

-- so it is with the choices of the result
abbrev pub IsLocallyOptimal : DiagramView → UpdatedView → Type 0
IsLocallyOptimal d updated = IsLocalOptimum d.nodes (pure_profile d.nodes updated.answers)

-- q gives the agent a greater expected utility than p: fractions are compared by cross products
abbrev pub IsBetter : List NodeView → ℕ → List RuleView → List RuleView → Type 0
IsBetter nodes agent p q =
    (gain_of nodes p agent *ℤ pos (mass nodes q)) <ℤ (gain_of nodes q agent *ℤ pos (mass nodes p))

-- each round that raises makes the expected utility of the decisions' agent greater
abbrev pub RoundsRaise : List NodeView → Type 0
RoundsRaise nodes = (rounds d : ℕ) (p q : List RuleView) → IsDecision nodes d
    → IsReachedAfter nodes rounds p → IsReachedAfter nodes (suc rounds) q
    → IsBetter nodes (agent_of nodes d) p q
