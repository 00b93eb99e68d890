-- The optimum of one agent, and what information and control are worth to it (Everitt et al. 2021).
use Rattle.std.specs.Prelude.{◌≡◌, ℕ, ◌<◌, ◌*◌, ◌^◌, List, length, slice_index_or, pos, ◌+ℤ◌, ◌*ℤ◌}
use Rattle.maid_model.specs.declared.answers.Ratio.{Ratio}
use Rattle.maid_model.specs.declared.diagrams.Kind.TheVariants.{Chance, Utility}
use Rattle.maid_model.specs.Views.{NodeView, DiagramView, RuleView, AnswerView, SolvedView}
use Rattle.maid_model.specs.Nodes.{IsDecision, Owns, agent_of, node_at}
use Rattle.maid_model.specs.Graph.{Arc, Descends, IsGraph}
use Rattle.maid_model.specs.Answers.{IsReduced, IsExpectedUtility}
use Rattle.maid_model.specs.Subgames.{OwnsAll, IsOptimal}
use Rattle.maid_model.specs.Edits.{without_arc, with_arc, as_decision, one_agent}

-- where the agent owns all decisions: the fraction that is its expected utility under some profile,
-- and that no profile's exceeds
pub record IsOptimum (nodes : List NodeView) (decimals agent : ℕ) (r : Ratio) : Type 0 where
  pub alone : OwnsAll nodes agent
  pub best : List RuleView
  pub optimal : IsOptimal nodes best agent
  pub worth : IsExpectedUtility nodes (10 ^ decimals) best agent r

-- For each agent that owns all decisions the answer prints its optimum.
abbrev pub PrintsOptima : DiagramView → SolvedView → Type 0
PrintsOptima d solved =
    (agent : ℕ) (r : Ratio) → agent < d.agents → OwnsAll d.nodes agent
    → IsOptimum d.nodes d.decimals agent (slice_index_or solved.gains agent r)

-- the reduced fraction that is a less b
pub record IsDifference (r a b : Ratio) : Type 0 where
  pub reduced : IsReduced r
  pub same : (r.num *ℤ pos (a.den * b.den)) +ℤ (b.num *ℤ pos (a.den * r.den))
      ≡ a.num *ℤ pos (r.den * b.den)

-- the agent's optimum in the one diagram, less its optimum in the other
pub record IsDifferenceOfOptima
    (nodes others : List NodeView) (decimals agent : ℕ) (r : Ratio) : Type 0 where
  pub more : Ratio
  pub is_more : IsOptimum nodes decimals agent more
  pub less : Ratio
  pub is_less : IsOptimum others decimals agent less
  pub difference : IsDifference r more less

-- a decision of the agent
pub record IsDecisionOf (nodes : List NodeView) (d agent : ℕ) : Type 0 where
  pub decision : IsDecision nodes d
  pub owner : agent_of nodes d ≡ agent

-- Information value of an arc that is there, from x into a decision d of the agent: in the diagram
-- in which only the agent decides, the optimum with the arc less the optimum without it.
pub record IsValueOfSeen
    (nodes : List NodeView) (decimals : ℕ) (answers : List AnswerView) (agent x d : ℕ) (r : Ratio) :
    Type 0 where
  pub own : IsDecisionOf nodes d agent
  pub seen : Arc nodes x d
  pub value : IsDifferenceOfOptima (one_agent nodes agent answers)
      (without_arc (one_agent nodes agent answers) x d) decimals agent r

-- Information value of an arc that is not there and can be added: the diagram with the arc less the
-- one without it.
pub record IsValueOfUnseen
    (nodes : List NodeView) (decimals : ℕ) (answers : List AnswerView) (agent x d : ℕ) (r : Ratio) :
    Type 0 where
  pub own : IsDecisionOf nodes d agent
  pub unseen : Arc nodes x d → ⊥
  pub can_see : IsGraph (with_arc nodes x d)
  pub value : IsDifferenceOfOptima (with_arc (one_agent nodes agent answers) x d)
      (one_agent nodes agent answers) decimals agent r

-- Control value: the optimum where the chance node x is a decision of the agent over its own
-- parents, less the optimum before.
pub record IsValueOfControl
    (nodes : List NodeView) (decimals : ℕ) (answers : List AnswerView) (agent x : ℕ) (r : Ratio) :
    Type 0 where
  pub chance : (node_at nodes x).kind ≡ Chance
  pub value : IsDifferenceOfOptima (as_decision (one_agent nodes agent answers) agent x)
      (one_agent nodes agent answers) decimals agent r

-- no utility of the agent descends from x
abbrev pub IsUnreached : List NodeView → ℕ → ℕ → Type 0
IsUnreached nodes agent x = (u : ℕ) → u < length nodes → (node_at nodes u).kind ≡ Utility
    → Owns nodes agent u → Descends (Arc nodes) x u → ⊥
