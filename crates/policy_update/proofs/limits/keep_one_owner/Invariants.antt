use Rattle.std.proofs.Common.{◌≡◌, ◌<◌, ℕ, slice_index}
use Rattle.maid_model.specs.Nodes.{agent_of}
use Rattle.policy_update.proofs.limits.keep_one_owner.Given as goal

-- the decisions so far have the first one's owner
abbrev pub invariant-loop-decision : goal.invariant-loop-decision
invariant-loop-decision l = (k : ℕ) → k < l.decision-index → agent_of l.diagram.nodes (slice_index l.decisions k) ≡ agent_of l.diagram.nodes (slice_index l.decisions 0)
