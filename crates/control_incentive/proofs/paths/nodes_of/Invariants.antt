use Rattle.std.proofs.Common.{◌<◌, ◌↔◌, ℕ}
use Rattle.node_sets.specs.Sets.{IsIn}
use Rattle.control_incentive.specs.Paths.{IsOf}
use Rattle.control_incentive.proofs.paths.nodes_of.Given as goal

-- the agent's nodes so far
abbrev pub invariant-loop-v : goal.invariant-loop-v
invariant-loop-v l = (u : ℕ) → IsIn l.nodes u ↔ ((u < l.v) × IsOf l.diagram.nodes l.kind l.agent u)
