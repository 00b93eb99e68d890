use Rattle.evidence.specs.Conditional.{HasGainsGiven}
use Rattle.evidence.proofs.sums.list_gains.Given as goal

-- the gains of the agents so far
abbrev pub invariant-loop-agent : goal.invariant-loop-agent
invariant-loop-agent l = HasGainsGiven l.diagram l.profile l.node l.state l.agent l.gains.items
