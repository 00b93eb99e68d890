use Rattle.std.proofs.Common.{ℕ, ◌<◌}
use Rattle.maid_model.specs.Nodes.{IsDecision}
use Rattle.node_sets.specs.Sets.{IsIn}
use Rattle.evidence.proofs.sights.is_below_decision.Given as goal

-- no decision so far is above
abbrev pub invariant-loop-v : goal.invariant-loop-v
invariant-loop-v l = (u : ℕ) → u < l.v → IsIn l.above u → IsDecision l.diagram.nodes u → ⊥
