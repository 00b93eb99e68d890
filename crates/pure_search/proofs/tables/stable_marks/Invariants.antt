use Rattle.pure_search.specs.Games.{MarksBest}
use Rattle.pure_search.proofs.tables.stable_marks.Given as goal

-- the marks that the agents so far leave
abbrev pub invariant-loop-agent : goal.invariant-loop-agent
invariant-loop-agent l = MarksBest l.diagram.nodes l.agent l.marks.items
