use Rattle.bayes_ball.proofs.Finding.{none_unmarked}
use Rattle.bayes_ball.proofs.nearing.are_all_marked.Goals as goal

pub returns : goal.returns
returns c = none_unmarked c.args.nodes.now c.args.down.now c.args.up.now c.union.result c.difference.result c.is_empty.result c.union.ensures c.difference.ensures c.is_empty.ensures
