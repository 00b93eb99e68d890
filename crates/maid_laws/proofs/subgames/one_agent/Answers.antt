use Rattle.maid_laws.proofs.OneAgent.{one_agent_law}
use Rattle.maid_laws.proofs.subgames.one_agent.Goals as goal

pub returns : goal.returns
returns c = record { law = one_agent_law }
