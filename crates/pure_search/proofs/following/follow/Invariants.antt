use Rattle.pure_search.proofs.Followed.{FollowsSoFar}
use Rattle.pure_search.proofs.following.follow.Given as goal

-- the decisions so far have the rules of the new choices
abbrev pub invariant-loop-decision : goal.invariant-loop-decision
invariant-loop-decision l =
    FollowsSoFar l.diagram.nodes l.agent l.part.nodes.items l.decisions l.before l.choices l.decision-index l.start l.sum
