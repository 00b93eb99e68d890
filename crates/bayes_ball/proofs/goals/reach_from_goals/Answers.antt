use Rattle.bayes_ball.proofs.FromGoals.{goal_live, search_tells}
use Rattle.bayes_ball.proofs.goals.reach_from_goals.Goals as goal

pub reach_from_any-requires-clause-starts : goal.reach_from_any-requires-clause-starts
reach_from_any-requires-clause-starts c u m =
    let g = (c.goals_of-goals.ensures u).0 m in (goal_live c.args.diagram.now.nodes c.args.decision u g, c.family_of-family.ensures.no_goal u g)

pub returns : goal.returns
returns c =
    search_tells c.args.diagram.now.nodes c.args.decision c.goals_of-goals.result c.family_of-family.result c.reach_from_any.result
    c.goals_of-goals.ensures c.family_of-family.ensures.family c.reach_from_any.ensures
