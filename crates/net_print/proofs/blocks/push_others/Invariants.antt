use Rattle.std.proofs.Common.{◌≡◌, ◌∷◌, ◌++◌, drop}
use Rattle.std.specs.List.{flat_map}
use Rattle.maid_model.specs.Names.{agent_name}
use Rattle.maid_model.specs.Reports.{quoted}
use Rattle.net_print.proofs.blocks.push_others.Given as goal

-- the agents so far and those to come are all
abbrev pub invariant-loop-agent : goal.invariant-loop-agent
invariant-loop-agent l = l.out.items ++ flat_map (λ a. 32 ∷ quoted (agent_name l.names a)) (drop l.agent-index l.agents) ≡ l.fn.out.items ++ flat_map (λ a. 32 ∷ quoted (agent_name l.names a)) l.agents
