-- What a relevance graph tells of a diagram.
use Rattle.std.specs.Prelude.{◌≡◌, ◌↔◌, ℕ, Bool, List, length, Result, Ok, Err, MatchResult}
use Rattle.std.specs.Borrow.{Bor}
use Rattle.maid_model.specs.Views.{NodeView}
use Rattle.maid_model.specs.Nodes.{IsDecision}
use Rattle.maid_model.specs.Placing.{IsRelianceOrder, IsRelianceCycle}
use Rattle.maid_model.specs.Relevance.{ReliesOn}
use Rattle.diagram_graph.specs.Needs.{IsMarkedIn}
use Rattle.diagram_graph.specs.Rounds.{IsRingOfNeeds}
use Rattle.relevance_graph.specs.Views.{RelevanceView, ReliesTo, IsRising, relied_on_by}

-- the relevance cycle: a ring of decisions each of which relies on the next, so that no order of
-- solving has them all
pub record IsBlockedBy (nodes : List NodeView) (cycle : List ℕ) : Type 0 where
  pub is_cycle : IsRelianceCycle nodes cycle
  pub ring : IsRingOfNeeds (ReliesOn nodes) cycle
  pub no_order : (order : List ℕ) → IsRelianceOrder nodes order → ⊥

-- the order of solving, or the relevance cycle
abbrev pub IsOutcome : List NodeView → Result (List ℕ) (List ℕ) → Type 0
IsOutcome nodes (Ok order) = IsRelianceOrder nodes order
IsOutcome nodes (Err cycle) = IsBlockedBy nodes cycle

-- the outcome of a relevance graph: the order of solving, or else the relevance cycle
abbrev pub TellsOutcome : RelevanceView → Result (Bor (List ℕ)) (Bor (List ℕ)) → Type 0
TellsOutcome view told = MatchResult told (λ order. view.outcome ≡ Ok order.now)
    (λ cycle. view.outcome ≡ Err cycle.now)

-- exactly the decisions are marked
abbrev pub MarksDecisions : List NodeView → List Bool → Type 0
MarksDecisions nodes marks = (v : ℕ) → IsMarkedIn marks v ↔ IsDecision nodes v

-- the relevance graph of a diagram: it tells of each pair of numbers whether the one relies on the
-- other, lists those on which a decision relies in text order, and has the order of solving or the
-- relevance cycle
pub record IsRelevance (nodes : List NodeView) (view : RelevanceView) : Type 0 where
  pub count : length view.relied_on ≡ length nodes
  pub pairs : (d e : ℕ) → ReliesTo view d e ↔ ReliesOn nodes d e
  pub rising : (d : ℕ) → IsRising (relied_on_by view d)
  pub outcome : IsOutcome nodes view.outcome
