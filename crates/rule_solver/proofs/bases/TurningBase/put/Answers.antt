use Rattle.std.proofs.Common.{set, ap, subst, sym, arith}
use Rattle.maid_model.specs.Views.{RuleView}
use Rattle.rule_solver.specs.Totals.{HasTotals}
use Rattle.rule_solver.proofs.BaseTurns.{totals_put}
use Rattle.rule_solver.proofs.bases.TurningBase.put.Goals as goal

pub index_mut-requires : goal.index_mut-requires
index_mut-requires c =
    let ok = c.args.self.now.totals.ok in
    let own = ap (λ (r : RuleView). r.decision) c.rule.view_is in
    let within = c.requires.decision.within in
    let count = c.requires.totals.count in
    omega arith

pub returns-clause-totals : goal.returns-clause-totals
returns-clause-totals c =
    let nodes = c.args.diagram.now.nodes in
    let totals = c.args.self.now.totals.items in
    subst (λ (r : RuleView). HasTotals nodes c.put.new.self (set totals r.decision r.total)) (sym c.rule.view_is)
    (totals_put nodes c.args.self.now.profile c.put.new.self c.args.rule totals c.requires.totals c.put.ensures.replaced c.requires.decision)
