use Rattle.std.proofs.Common.{◌≡◌, ◌∙◌, ℕ, List, IfOk, subst, sym}
use Rattle.node_sets.specs.Sets.{IsIn}
use Rattle.maid_model.specs.Relevance.{IsGoal}
use Rattle.size_precheck.specs.Joints.{HoldsOfEach}
use Rattle.size_precheck.specs.Sizes.{AreGainPlans, goal_list}
use Rattle.size_precheck.proofs.Kept.{goals_listed}
use Rattle.size_precheck.proofs.Somewhere.{each_map}
use Rattle.size_precheck.proofs.decisions.plan_goals.Goals as goal

pub gain_plans-requires-clause-goals : goal.gain_plans-requires-clause-goals
gain_plans-requires-clause-goals c =
    let goal_of = IsGoal c.args.diagram.now.nodes c.args.decision in
    subst (λ (xs : List ℕ). HoldsOfEach goal_of xs) (sym {A = List ℕ} c.deref.ensures.value)
    (each_map (IsIn c.goals_of.result) goal_of (λ x. (c.goals_of.ensures x).0) c.in_ok-goals.goals.items c.in_ok-goals.ensures.inside)

pub returns : goal.returns
returns c =
    let nodes = c.args.diagram.now.nodes in
    let listed : c.deref.result.now ≡ goal_list nodes c.args.decision = c.deref.ensures.value ∙ goals_listed nodes c.args.decision c.goals_of.result c.in_ok-goals.goals.items c.descent_is_tested.ensures c.goals_of.ensures c.in_ok-goals.ensures in
    subst (λ (l : List ℕ). IfOk c.gain_plans.result (λ plans. AreGainPlans nodes c.args.decision l plans.items)) listed c.gain_plans.ensures
