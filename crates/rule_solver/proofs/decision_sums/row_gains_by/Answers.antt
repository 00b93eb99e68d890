use Rattle.std.proofs.Common.{subst, sym}
use Rattle.rule_solver.specs.Totals.{HasTotals}
use Rattle.rule_solver.proofs.decision_sums.row_gains_by.Goals as goal

pub row_gains-requires-clause-setting : goal.row_gains-requires-clause-setting
row_gains-requires-clause-setting c = record {
  is_diagram = c.in_ok-totals.ensures.diagram;
  is_decision = c.requires.decision;
  profile = c.requires.profile;
  rules = c.requires.rules;
  bound = c.requires.bound.decisions c.args.decision c.requires.decision;
  has_totals = subst (HasTotals c.args.diagram.now.nodes c.args.profile.now) (sym c.deref.ensures.value) c.in_ok-totals.ensures.totals;
  is_scope = c.decision_scope.ensures;
}
