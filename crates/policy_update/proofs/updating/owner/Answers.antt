use Rattle.std.proofs.Common.{◌<◌, sym, subst, slice_index}
use Rattle.policy_update.proofs.Owners.{decision_at, owner_within}
use Rattle.policy_update.proofs.updating.owner.Goals as goal

pub agent_of-requires : goal.agent_of-requires
agent_of-requires c = (decision_at c.args.diagram.now.nodes c.args.decisions.now 0 c.requires.decisions c.requires.some).within

pub returns-clause-within : goal.returns-clause-within
returns-clause-within c =
    subst (λ a. a < c.args.diagram.now.agents) (sym c.agent_of.ensures.agent)
    (owner_within c.args.diagram.now.nodes c.args.diagram.now.agents (slice_index c.args.decisions.now 0) c.agent_of.ensures.diagram.owners (decision_at c.args.diagram.now.nodes c.args.decisions.now 0 c.requires.decisions c.requires.some))
