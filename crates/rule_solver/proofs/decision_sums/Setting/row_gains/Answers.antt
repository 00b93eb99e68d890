use Rattle.std.proofs.lemmas.Result.{IfOk-weaker}
use Rattle.maid_model.specs.Scopes.{goals_of}
use Rattle.plan_sums.proofs.Parts.{has_worlds}
use Rattle.rule_solver.specs.Sums.{HasGoals, IsRowGains}
use Rattle.rule_solver.proofs.SumLemmas.{gains_are}
use Rattle.rule_solver.proofs.decision_sums.Setting.row_gains.Goals as goal

pub returns-clause-gains : goal.returns-clause-gains
returns-clause-gains c =
    let s = c.args.self.now in
    let d = s.diagram.now in
    let is = c.requires.setting.is_diagram in
    let plans = c.plans_sum_scopes.ensures.sums d.nodes s.base.now s.decision is.graph is.tables c.requires.setting.profile c.requires.setting.is_decision in
    IfOk-weaker c.gains.result (λ v. HasGoals d.nodes s.base.now s.decision (goals_of d.nodes s.decision) v.items) (λ v. IsRowGains d.nodes s.base.now s.decision v.items)
    (λ v h. gains_are d.nodes s.base.now s.decision is.graph has_worlds v.items plans h) c.gains.ensures.gains
