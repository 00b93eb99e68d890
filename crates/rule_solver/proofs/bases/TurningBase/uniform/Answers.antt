-- At first no decision is held.
use Rattle.rule_solver.proofs.BaseTurns.{mixed_start}
use Rattle.rule_solver.proofs.bases.TurningBase.uniform.Goals as goal

pub returns : goal.returns
returns c = record {
  mixed = mixed_start c.args.diagram.now.nodes c.empty.result c.in_ok-profile.profile c.in_ok-profile.ensures.rules c.in_ok-profile.ensures.profile c.empty.ensures;
  has_totals = c.in_ok-totals.ensures.totals;
}
