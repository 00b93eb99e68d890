use Rattle.std.proofs.Common.{◌<◌, length, arith}
use Rattle.bayes_ball.specs.Spread.{node_of}
use Rattle.bayes_ball.proofs.Searching.{searched_by, reached_by, parents_reached_by, start_within, same_fact}
use Rattle.bayes_ball.proofs.search.reach.Goals as goal

pub begin-requires : goal.begin-requires
begin-requires c =
    let l : node_of c.args.start < length c.args.diagram.now.nodes = start_within c.args.diagram.now.nodes c.args.given.now c.args.start c.requires.start in
    let m = c.count-count.ensures.diagram.limits.nodes in omega arith

pub returns : goal.returns
returns c = record {
  reached = λ v within.
      same_fact (c.of.ensures.reached v)
      (reached_by _ _ c.args.start _ _ c.requires.start
      (searched_by _ _ c.args.start _ _ _ _ c.count-count.ensures.diagram.graph c.requires.given c.requires.start c.begin.ensures c.close.ensures.kept c.close.ensures.sound c.close.ensures.closed) v within);
  parents = λ u v at within.
      same_fact (c.of.ensures.parents v)
      (parents_reached_by _ _ c.args.start _ _ c.requires.start
      (searched_by _ _ c.args.start _ _ _ _ c.count-count.ensures.diagram.graph c.requires.given c.requires.start c.begin.ensures c.close.ensures.kept c.close.ensures.sound c.close.ensures.closed) u v at within);
}
