use Rattle.std.proofs.Common.{◌≢◌, ℕ, ◌<◌}
use Rattle.maid_model.specs.Names.{name_of}
use Rattle.maid_model.specs.Nodes.{IsDecision}
use Rattle.report_text.proofs.orders.decision_of.Given as goal

-- no decision so far has the name
abbrev pub invariant-loop-node : goal.invariant-loop-node
invariant-loop-node l = (v : ℕ) → v < l.node → IsDecision l.diagram.nodes v → name_of l.names v ≢ l.name
