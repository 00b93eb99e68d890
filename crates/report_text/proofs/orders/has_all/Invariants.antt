use Rattle.std.proofs.Common.{ℕ, ◌<◌}
use Rattle.std.specs.Prelude.{Contains}
use Rattle.maid_model.specs.Nodes.{IsDecision}
use Rattle.report_text.proofs.orders.has_all.Given as goal

-- each decision so far stands in the order
abbrev pub invariant-loop-node : goal.invariant-loop-node
invariant-loop-node l = (v : ℕ) → v < l.node-counter → IsDecision l.diagram.nodes v → Contains l.order v
