use Rattle.rule_solver.proofs.Carries.{SetBack}
use Rattle.rule_solver.proofs.odometer.next_over.Given as goal

abbrev pub invariant-loop-i : goal.invariant-loop-i
invariant-loop-i l = SetBack l.diagram.nodes l.nodes l.fn.world l.world-inside.states.items l.i

abbrev pub decreases-loop-i : goal.decreases-loop-i
decreases-loop-i l = l.i
