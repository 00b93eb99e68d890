use Rattle.std.proofs.Common.{◌^◌}
use Rattle.maid_model.specs.Answers.{IsExpectedUtility}
use Rattle.pure_search.proofs.Finding.{one_more_worth}
use Rattle.pure_search.proofs.worths.worths.Goals as goal

pub loop-agent-preserved : goal.loop-agent-preserved
loop-agent-preserved c =
    one_more_worth (λ a r. IsExpectedUtility c.args.diagram.now.nodes (10 ^ c.args.diagram.now.decimals) c.args.chosen.now a r) c.loop-agent.gains.items c.push.new.self.items c.in_ok-worth.field-0 c.loop-agent.agent
    c.in_ok-push.ensures.items c.loop-agent.invariant.0 c.loop-agent.invariant.1 c.in_ok-worth.ensures
