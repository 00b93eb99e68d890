use Rattle.std.proofs.Common.{List, subst, sym}
use Rattle.size_precheck.specs.Decisions.{ListsStepsOrNone}
use Rattle.size_precheck.specs.Sizes.{ArePlansOfGoals, SizedPlan}
use Rattle.size_precheck.proofs.decisions.plan_decision_in.Goals as goal

pub joint_order-requires-clause-goals : goal.joint_order-requires-clause-goals
joint_order-requires-clause-goals c = subst (λ (plans : List SizedPlan). ArePlansOfGoals c.args.diagram.now.nodes c.args.decision plans) (sym c.deref.ensures.value) c.in_ok-goals.ensures

pub returns : goal.returns
returns c = record {
  of_rows = record { asked = c.in_ok-rows.ensures.asked; made = c.in_ok-rows.ensures.made };
  of_goals = c.in_ok-goals.ensures;
  order = subst (λ (plans : List SizedPlan). ListsStepsOrNone plans c.in_ok-joint_order.joint_order.items) c.deref.ensures.value c.in_ok-joint_order.ensures;
}
