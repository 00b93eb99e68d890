use Rattle.std.proofs.Common.{◌∙◌, ◌<◌, length, refl, sym, arith, slice_index}
use Rattle.policy_update.proofs.Owners.{decision_at, one_owner}
use Rattle.policy_update.proofs.limits.keep_one_owner.Goals as goal

pub agent_of-requires : goal.agent_of-requires
agent_of-requires c = (decision_at c.args.diagram.now.nodes c.args.decisions.now c.loop-decision.decision-index c.requires c.loop-decision-test.true).within

pub agent_of-requires-in-loop-decision : goal.agent_of-requires-in-loop-decision
agent_of-requires-in-loop-decision c = (decision_at c.args.diagram.now.nodes c.args.decisions.now 0 c.requires (let l : c.loop-decision.decision-index < length c.args.decisions.now = c.loop-decision-test.true in omega arith)).within

pub returns-then-agent_of : goal.returns-then-agent_of
returns-then-agent_of c = (
  record {
    one = slice_index c.args.decisions.now c.loop-decision.decision-index;
    other = slice_index c.args.decisions.now 0;
    one_decides = decision_at c.args.diagram.now.nodes c.args.decisions.now c.loop-decision.decision-index c.requires c.loop-decision-test.true;
    other_decides = decision_at c.args.diagram.now.nodes c.args.decisions.now 0 c.requires (let l : c.loop-decision.decision-index < length c.args.decisions.now = c.loop-decision-test.true in omega arith);
    differ = λ e. c.if-agent_of.true (c.agent_of.ensures.agent ∙ e ∙ sym c.agent_of-in-loop-decision.ensures.agent);
  },
  refl,
)

pub returns : goal.returns
returns c = one_owner c.args.diagram.now.nodes c.args.decisions.now c.loop-decision.decision-index c.requires (omega arith) c.loop-decision.invariant
