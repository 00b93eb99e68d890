use Rattle.rule_solver.specs.Masses.{HasGains}
use Rattle.rule_solver.proofs.worths.expected_along.Given as goal

-- the gains of the agents so far
abbrev pub invariant-loop-agent : goal.invariant-loop-agent
invariant-loop-agent l = HasGains l.diagram l.profile l.agent l.gains.items
