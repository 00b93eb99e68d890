-- Which nodes lie below a decision, and how much of rules a diagram may have.
use Rattle.std.specs.Prelude.{ℕ, List}
use Rattle.maid_model.specs.Graph.{Arc, Descends}
use Rattle.maid_model.specs.Nodes.{IsDecision}
use Rattle.maid_model.specs.Views.{NodeView}
use Rattle.diagram_graph.specs.Room.{RulesFit}

-- a decision from which x descends
pub record IsBelowDecision (nodes : List NodeView) (x : ℕ) : Type 0 where
  pub decision : ℕ
  pub is_decision : IsDecision nodes decision
  pub path : Descends (Arc nodes) decision x

-- no decision has too many parents or too large a rule, and all rules together have not too many
-- cells
pub record KeepsRules (nodes : List NodeView) : Type 0 where
  pub each : (d : ℕ) → IsDecision nodes d → RulesFit nodes d
