use Rattle.std.proofs.Common.{◌+◌, ℕ, List, [], map, take, subst, sym}
use Rattle.std.proofs.lemmas.List.{take_all}
use Rattle.std.specs.List.{AllZip}
use Rattle.plan_sums.specs.Plans.{gain_plan}
use Rattle.maid_model.specs.Relevance.{IsGoal}
use Rattle.size_precheck.specs.declared.plans.Plan.{Plan}
use Rattle.size_precheck.specs.Sizes.{IsPlanned}
use Rattle.size_precheck.proofs.Kept.{zip_next}
use Rattle.size_precheck.proofs.Lists.{each_at}
use Rattle.size_precheck.proofs.decisions.gain_plans.Goals as goal

pub loop-goal-init : goal.loop-goal-init
loop-goal-init c = subst (λ (plans : List Plan). AllZip (IsPlanned c.args.diagram.now.nodes) [] plans) (sym {A = List Plan} c.in_ok-plans.ensures.items) tt

pub gain_in-requires-clause-decision : goal.gain_in-requires-clause-decision
gain_in-requires-clause-decision c = c.requires.decision

pub gain_in-requires-clause-planner : goal.gain_in-requires-clause-planner
gain_in-requires-clause-planner c = c.requires.planner

pub gain_in-requires-clause-goal : goal.gain_in-requires-clause-goal
gain_in-requires-clause-goal c = each_at (IsGoal c.args.diagram.now.nodes c.args.decision) c.args.goals.now c.loop-goal.goal-index 0 c.requires.goals c.loop-goal-test.true

pub loop-goal-preserved : goal.loop-goal-preserved
loop-goal-preserved c =
    let nodes = c.args.diagram.now.nodes in
    let goals = c.args.goals.now in
    subst (AllZip (IsPlanned nodes) (map (λ u. gain_plan nodes c.args.decision u) (take (c.loop-goal.goal-index + 1) goals))) (sym {A = List Plan} c.in_ok-push.ensures.items)
    (zip_next (IsPlanned nodes) (λ (u : ℕ). gain_plan nodes c.args.decision u) goals c.loop-goal.plans.items c.loop-goal.goal-index 0 c.in_ok-gain_in.field-0 c.loop-goal-test.true c.loop-goal.invariant
    (record { asked = c.in_ok-gain_in.ensures.asked; made = c.in_ok-gain_in.ensures.made }))

pub returns : goal.returns
returns c =
    let nodes = c.args.diagram.now.nodes in
    subst (λ (l : List ℕ). AllZip (IsPlanned nodes) (map (λ u. gain_plan nodes c.args.decision u) l) c.loop-goal.plans.items) (take_all c.loop-goal.goal-index c.args.goals.now c.loop-goal-test.false) c.loop-goal.invariant
