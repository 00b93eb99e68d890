use Rattle.std.proofs.Common.{map}
use Rattle.rule_solver.specs.Bases.{IsTurningBase}
use Rattle.rule_solver.proofs.BaseTurns.{TurnedTo}
use Rattle.rule_solver.proofs.bases.TurningBase.turn.Given as goal

abbrev pub invariant-loop-place : goal.invariant-loop-place
invariant-loop-place l = record {
  turning : IsTurningBase l.diagram.nodes l.answers l.self;
  turned : TurnedTo l.diagram.nodes l.decision (map (λ a. a.decision) l.answers) l.place l.self.held;
}
