use Rattle.node_sets.specs.Sets.{IsIn}
use Rattle.bayes_ball.proofs.Searching.{begins_at, searched_from_any, reached_from_any, parents_reached_from_any, same_fact}
use Rattle.bayes_ball.proofs.search.reach_from_any.Goals as goal

pub returns : goal.returns
returns c = record {
  reached = λ v within.
      same_fact (c.of.ensures.reached v)
      (reached_from_any _ _ (IsIn c.args.starts.now) _ _
      (searched_from_any c.args.diagram.now.nodes c.args.given.now c.args.starts.now _ _ _ _ c.count-count.ensures.diagram.graph c.requires.given c.requires.starts
      (begins_at c.empty-down.result c.args.starts.now c.empty-down.ensures) c.close.ensures.kept c.close.ensures.sound c.close.ensures.closed)
      (λ a s. (c.requires.starts a s).1) v);
  parents = λ v within.
      same_fact (c.of.ensures.parents v)
      (parents_reached_from_any _ _ (IsIn c.args.starts.now) _ _
      (searched_from_any c.args.diagram.now.nodes c.args.given.now c.args.starts.now _ _ _ _ c.count-count.ensures.diagram.graph c.requires.given c.requires.starts
      (begins_at c.empty-down.result c.args.starts.now c.empty-down.ensures) c.close.ensures.kept c.close.ensures.sound c.close.ensures.closed)
      (λ a s. (c.requires.starts a s).1) v within);
}
