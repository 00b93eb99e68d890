use Rattle.reach_laws.specs.Evidence.{all_seeing}
use Rattle.evidence.proofs.Seen.{AddsUp}
use Rattle.evidence.proofs.sights.keeps_rules.Given as goal

-- the rules so far keep their limits, and their cells are added up
abbrev pub invariant-loop-v : goal.invariant-loop-v
invariant-loop-v l = AddsUp (all_seeing l.diagram.nodes l.node) l.v l.cells
