use Rattle.std.proofs.Common.{arith}
use Rattle.bayes_ball.proofs.Finding.{no_goals, more_goals}
use Rattle.bayes_ball.proofs.nearing.find_goals.Goals as goal

pub returns-then-is_empty : goal.returns-then-is_empty
returns-then-is_empty c =
    no_goals c.args.diagram.now.nodes c.args.agent c.args.below.now c.args.followed.now c.args.up.now c.difference-fresh.result c.difference-fresh.ensures (λ v. c.if-is_empty.ensures v (omega arith))

pub returns : goal.returns
returns c =
    let first = c.if-is_empty.ensures in
    more_goals c.args.diagram.now.nodes c.args.agent c.args.below.now c.args.followed.now c.args.up.now c.difference-fresh.result c.difference-fresh.ensures
    c.children_of_any.result c.difference-found.result c.utilities_among.result _ _ _ first.0 first.1 c.children_of_any.ensures c.difference-found.ensures c.utilities_among.ensures
    c.union-3.ensures c.union.ensures c.union-2.ensures
