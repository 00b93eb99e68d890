use Rattle.plan_sums.proofs.Parts.{has_worlds}
use Rattle.rule_solver.proofs.SumLemmas.{room_is, sums_are}
use Rattle.rule_solver.proofs.decision_sums.Setting.row_sums.Goals as goal

pub returns-clause-sums : goal.returns-clause-sums
returns-clause-sums c =
    let d = c.args.self.now.diagram.now in
    let p = c.args.self.now.base.now in
    let s = c.requires.setting in
    sums_are d.nodes p c.args.self.now.decision s.is_diagram.graph has_worlds c.in_ok-gains.gains.items c.in_ok-masses.masses.items
    (c.plans_sum_scopes.ensures.sums d.nodes p c.args.self.now.decision s.is_diagram.graph s.is_diagram.tables s.profile s.is_decision) c.in_ok-gains.ensures.gains c.in_ok-masses.ensures.masses.count c.in_ok-masses.ensures.masses.each

pub returns-clause-room : goal.returns-clause-room
returns-clause-room c =
    let d = c.args.self.now.diagram.now in
    let p = c.args.self.now.base.now in
    let s = c.requires.setting in
    room_is d.nodes p c.args.self.now.decision s.is_diagram.graph has_worlds c.in_ok-gains.gains.items c.in_ok-masses.masses.items
    c.in_ok-gains.ensures.gains c.in_ok-masses.ensures.masses.count c.in_ok-masses.ensures.masses.small
