use Rattle.std.proofs.Common.{ℕ, ◌<◌, ◌≤◌}
use Rattle.maid_model.specs.Diagrams.{greatest_number}
use Rattle.maid_model.specs.Nodes.{IsDecision}
use Rattle.maid_model.specs.Scopes.{scope_bound}
use Rattle.weight_scale.proofs.weight_bound.place_of_decisions.Given as goal

abbrev pub invariant-loop-v : goal.invariant-loop-v
invariant-loop-v l = (e : ℕ) → IsDecision l.diagram.nodes e → e < l.v → scope_bound l.diagram e ≤ greatest_number
