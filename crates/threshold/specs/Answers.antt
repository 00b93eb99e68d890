-- The fractions at which the answers hold. Only private functions cite it.
use Rattle.std.specs.Prelude.{◌≡◌, ◌↔◌, ◌⊎◌, ℕ, ◌<◌, ◌≤◌, true, is_some, List, length, slice_index_or, pos, ◌<ℤ◌}
use Rattle.std.specs.List.{list_all}
use Rattle.maid_model.specs.declared.limits.TheConstants.{MOST_PLAN_CELLS}
use Rattle.maid_model.specs.Answers.{IsAnswer, answered}
use Rattle.maid_model.specs.Diagrams.{IsDiagram}
use Rattle.maid_model.specs.Nodes.{IsDecision}
use Rattle.maid_model.specs.Views.{NodeView, DiagramView, RuleView, AnswerView, SolvedView}
use Rattle.reach_laws.specs.Threshold.{HoldsAt, IsMoved, state_weight}
use Rattle.relevance_graph.specs.Relevant.{IsRelevance}
use Rattle.rule_solver.specs.declared.spaces.Workspaces.{Workspaces}
use Rattle.rule_solver.specs.Faults.{IsSmallEnough}
use Rattle.rule_solver.specs.Rooms.{AreReadyForDecision, HasRoomForDecision}
use Rattle.size_precheck.specs.declared.decisions.DecisionPlans.{DecisionPlans}
use Rattle.size_precheck.specs.Decisions.{AreDecisionPlans}
use Rattle.threshold.specs.declared.answers.Question.{Question}
use Rattle.threshold.specs.declared.held.Held.{Held}
use Rattle.threshold.specs.declared.weights.Place.{Place}
use Rattle.threshold.specs.Control.{IsFreeOf}
use Rattle.threshold.specs.Ends.{AreEnds}
use Rattle.threshold.specs.Held.{HoldsSomewhere, IsWithin}
use Rattle.threshold.specs.Weights.{IsCell}

-- at the fraction the rules s stay best at the decision
abbrev pub HoldsAtFraction : List NodeView → List RuleView → Place → ℕ → ℕ → ℕ → Type 0
HoldsAtFraction nodes s place d num den = (moved : List NodeView) → IsMoved nodes place.node
    place.state place.row num den moved → HoldsAt nodes s moved d

-- at all decisions
abbrev pub HoldsAtAll : List NodeView → List RuleView → Place → ℕ → ℕ → Type 0
HoldsAtAll nodes s place num den =
    (d : ℕ) → IsDecision nodes d → HoldsAtFraction nodes s place d num den

-- a diagram with a small enough run, its answer, and the diagrams in which the probability is 0 and
-- 1; somewhere the answer holds
pub record IsThresholdSetting
    (d : DiagramView) (solved : SolvedView) (place : Place) (nought one : DiagramView) : Type 0
  where
    pub is_diagram : IsDiagram d
    pub answer : IsAnswer d solved
    pub cell : IsCell d.nodes place
    pub ends : AreEnds d place nought one
    pub small : IsSmallEnough d
    pub somewhere : HoldsSomewhere (HoldsAtAll d.nodes (answered d solved) place)

-- the interval has the fractions from 0 to 1 at which the rules s hold
pub record IsHeld
    (nodes : List NodeView) (s : List RuleView) (place : Place) (held : Held) : Type 0 where
  pub within :
      (num den : ℕ) → 0 < den → num ≤ den → IsWithin held num den ↔ HoldsAtAll nodes s place num den

-- the answer stands among those of the report
abbrev pub IsAnswerOf : SolvedView → AnswerView → Type 0
IsAnswerOf solved answer =
    (i : ℕ) × (i < length solved.answers) × (answer ≡ slice_index_or solved.answers i answer)

-- ---- in the names of the code
-- what is asked may be answered, and the relevance graph is the diagram's
pub record IsQuestion (q : Question) : Type 0 where
  pub setting : IsThresholdSetting q.diagram.now q.solved.now q.place q.nought.now q.one.now
  pub relevance : IsRelevance q.diagram.now.nodes q.relevance.now

-- the answer's decision does not rely on the node's table, and each of its rows is reached, or the
-- state has weight
pub record AnswerStands (q : Question) (answer : AnswerView) : Type 0 where
  pub free : IsFreeOf q.diagram.now.nodes answer.decision q.place.node
  pub reached : (pos 0 <ℤ state_weight q.diagram.now.nodes q.place.node q.place.state q.place.row)
      ⊎ (list_all (λ row. is_some row.worth) answer.rows ≡ true)

-- these are the plans of the answer's decision
abbrev pub ArePlansOfAnswer : Question → AnswerView → DecisionPlans → Type 0
ArePlansOfAnswer q answer plans =
    AreDecisionPlans q.diagram.now.nodes answer.decision plans

-- the workspaces are ready, and have room for those plans
abbrev pub AreReadyForAnswer : Question → AnswerView → Workspaces → Type 0
AreReadyForAnswer q answer spaces =
    AreReadyForDecision q.diagram.now.nodes answer.decision spaces

-- no plan of a decision has more cells than the limit
abbrev pub KeepsPlanCells : Question → Type 0
KeepsPlanCells q = (d : ℕ) → IsDecision q.diagram.now.nodes d
    → HasRoomForDecision q.diagram.now.nodes d MOST_PLAN_CELLS

-- the answer holds at the fraction
abbrev pub HoldsAnswer : Question → AnswerView → ℕ → ℕ → Type 0
HoldsAnswer q answer num den = HoldsAtFraction q.diagram.now.nodes
    (answered q.diagram.now q.solved.now) q.place answer.decision num den

-- the interval has the fractions at which all answers hold
abbrev pub HoldsAllAnswers : Question → Held → Type 0
HoldsAllAnswers q held =
    IsHeld q.diagram.now.nodes (answered q.diagram.now q.solved.now) q.place held
