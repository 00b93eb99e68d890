use Rattle.std.proofs.Common.{arith}
use Rattle.maid_model.specs.Scopes.{scope_for, utilities_for}
use Rattle.weight_scale.specs.declared.scopes.Counted.TheVariants.{ChanceAlone}
use Rattle.weight_scale.specs.declared.weight_bound.BoundPlace.TheVariants.{Within}
use Rattle.weight_scale.proofs.BoundPlaces.{place_is, place_of_agent, one_more_agent}
use Rattle.weight_scale.proofs.weight_bound.place_of_agents.Goals as goal

pub returns-in_default : goal.returns-in_default
returns-in_default c =
    let d = c.args.diagram.now in
    let a = c.loop-agent.agent in
    let place = place_is d c.scope_for.result ChanceAlone (scope_for d.nodes a) (utilities_for d.nodes a) c.place.result c.scope_for.ensures c.place.ensures in
    place_of_agent d a c.place.result c.in_default.not-Within (omega (arith, c.loop-agent-test.true, c.agents-agent-end.ensures.agents)) c.requires c.loop-agent.invariant place

pub loop-agent-preserved : goal.loop-agent-preserved
loop-agent-preserved c =
    let d = c.args.diagram.now in
    let a = c.loop-agent.agent in
    let place = place_is d c.scope_for.result ChanceAlone (scope_for d.nodes a) (utilities_for d.nodes a) Within c.scope_for.ensures c.in-Within.ensures in
    one_more_agent d a c.loop-agent.invariant place

pub returns : goal.returns
returns c = record {
  decisions = c.requires;
  agents = λ a l. c.loop-agent.invariant a (omega (arith, l, c.loop-agent-test.false, c.agents-agent-end.ensures.agents));
}
