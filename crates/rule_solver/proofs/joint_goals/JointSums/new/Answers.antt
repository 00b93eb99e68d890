-- What the joint sums share, by the plans of the goals.
use Rattle.std.proofs.Common.{◌≡◌, ◌∙◌, ℕ, ◌<◌, Contains, List, length, slice_index, ap, subst, arith}
use Rattle.maid_model.specs.Scopes.{goals_of}
use Rattle.rule_solver.proofs.JointNodes.{goal_within, left_members, order_is, ruled_fits, ruled_list, ruled_total}
use Rattle.rule_solver.proofs.SettingLemmas.{goal_at}
use Rattle.rule_solver.proofs.joint_goals.JointSums.new.Goals as goal

pub insert_all-requires : goal.insert_all-requires
insert_all-requires c v m =
    let s = c.requires.setting in
    let within = goal_within c.args.setting.now.diagram.now.nodes s.is_diagram.graph c.args.setting.now.decision s.is_decision v (subst (λ (l : List ℕ). Contains l v) c.requires.goals m) in
    let few = s.is_diagram.limits.nodes in
    omega (arith, within, few)

pub product_in-requires-clause-fits : goal.product_in-requires-clause-fits
product_in-requires-clause-fits c = ruled_fits c.args.setting.now.diagram.now c.args.setting.now.base.now c.args.setting.now.decision c.args.setting.now.totals.now c.args.setting.now.scope c.requires.setting c.insert_all.new.self c.difference-ruled.result (left_members c.args.setting.now.diagram.now.nodes c.args.setting.now.decision c.args.goals.now c.of-left_out.result c.insert_all.new.self c.requires.goals c.of-left_out.ensures c.insert_all.ensures.all) c.difference-ruled.ensures

pub returns : goal.returns
returns c =
    let d = c.args.setting.now.diagram.now in
    let s = c.requires.setting in
    let list : length c.args.goals.now ≡ length (goals_of d.nodes c.args.setting.now.decision) = ap (λ (l : List ℕ). length l) c.requires.goals in
    let some : 0 < length (goals_of d.nodes c.args.setting.now.decision) = let h = c.requires.some in omega (arith, h, list) in
    record {
      ruled = c.in_ok-list_scope.ensures ∙ ruled_list d c.args.setting.now.base.now c.args.setting.now.decision c.args.setting.now.totals.now c.args.setting.now.scope s c.insert_all.new.self c.difference-ruled.result (left_members c.args.setting.now.diagram.now.nodes c.args.setting.now.decision c.args.goals.now c.of-left_out.result c.insert_all.new.self c.requires.goals c.of-left_out.ensures c.insert_all.ensures.all) c.difference-ruled.ensures;
      order = order_is d.nodes s.is_diagram.graph c.args.setting.now.decision s.is_decision c.args.plans.now c.requires.planned (slice_index (goals_of d.nodes c.args.setting.now.decision) 0) (goal_at d.nodes s.is_diagram.graph c.args.setting.now.decision s.is_decision 0 some) c.args.order.now c.requires.order.once c.requires.order.all;
      total = c.product_in.ensures ∙ ruled_total d c.args.setting.now.base.now c.args.setting.now.decision c.args.setting.now.totals.now c.args.setting.now.scope s c.insert_all.new.self c.difference-ruled.result (left_members c.args.setting.now.diagram.now.nodes c.args.setting.now.decision c.args.goals.now c.of-left_out.result c.insert_all.new.self c.requires.goals c.of-left_out.ensures c.insert_all.ensures.all) c.difference-ruled.ensures;
    }
