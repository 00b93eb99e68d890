use Rattle.std.proofs.Common.{◌≡◌, ◌++◌, ◌+◌, drop, length}
use Rattle.reach_laws.specs.Equilibria.{choice_counts}
use Rattle.pure_search.specs.Games.{answers_of}
use Rattle.pure_search.proofs.answering.answers_of.Given as goal

-- the answers so far and those of the choices still to come are all
abbrev pub invariant-loop-decision : goal.invariant-loop-decision
invariant-loop-decision l =
    (l.answers.items ++ answers_of l.diagram.nodes (drop l.decision-index l.decisions) (drop l.start l.choices) ≡ answers_of l.diagram.nodes l.decisions l.choices)
    × (l.start + length (choice_counts l.diagram.nodes (drop l.decision-index l.decisions)) ≡ length l.choices)
