use Rattle.std.proofs.Common.{ℕ, ◌<◌, ◌≤◌}
use Rattle.maid_model.specs.Diagrams.{greatest_number}
use Rattle.maid_model.specs.Scopes.{scope_bound_for}
use Rattle.weight_scale.proofs.weight_bound.place_of_agents.Given as goal

abbrev pub invariant-loop-agent : goal.invariant-loop-agent
invariant-loop-agent l = (other : ℕ) → other < l.agent → scope_bound_for l.diagram other ≤ greatest_number
