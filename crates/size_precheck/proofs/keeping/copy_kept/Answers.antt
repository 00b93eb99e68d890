use Rattle.std.proofs.Common.{◌≡◌, ℕ, List, Option, Some, None, ap, sym, subst, arith}
use Rattle.maid_model.specs.Views.{NodeView}
use Rattle.plan_sums.specs.Plans.{row_plan}
use Rattle.size_precheck.specs.declared.decisions.DecisionPlans.{DecisionPlans}
use Rattle.size_precheck.specs.declared.keeping.KeptPlans.{KeptPlans}
use Rattle.size_precheck.specs.Decisions.{AreDecisionPlans, ListsStepsOrNone}
use Rattle.size_precheck.specs.Kept.{IsKept}
use Rattle.size_precheck.specs.Sizes.{ArePlansOfGoals, IsPlanned, SizedPlan}
use Rattle.size_precheck.proofs.keeping.copy_kept.Goals as goal

-- the plans that are found are a copy of those that are kept of the decision
pub returns-then-known-decision : goal.returns-then-known-decision
returns-then-known-decision c nodes plans kept found =
    let known : KeptPlans = c.known-item.result in
    let is_kept : IsKept nodes known = subst (IsKept nodes) (sym c.known-item.is) (kept c.loop-known.known-index known c.loop-known-test.true) in
    let decision : known.decision ≡ c.args.decision = omega (arith, c.if-known-decision.true) in
    subst (AreDecisionPlans nodes c.args.decision) (some_same found)
    (copied nodes known.plans c.in_ok-copy.field-0 decision c.in_ok-copy.ensures.rows c.in_ok-copy.ensures.goals c.in_ok-copy.ensures.order is_kept.plans)
  where
    some_same : {x y : DecisionPlans} → Some x ≡ Some y → x ≡ y
    some_same {x} e = ap (λ (o : Option DecisionPlans). elim o as (λ _. DecisionPlans) [ None ↦ x | Some p ↦ p ]) e

    copied : (nodes : List NodeView) {d e : ℕ} (own copy : DecisionPlans) → d ≡ e → copy.rows ≡ own.rows → copy.goals.items ≡ own.goals.items → copy.joint_order.items ≡ own.joint_order.items → AreDecisionPlans nodes d own → AreDecisionPlans nodes e copy
    copied nodes {d} own copy same rows goals order are = subst (λ (n : ℕ). AreDecisionPlans nodes n copy) same (record {
      of_rows = subst (λ (p : SizedPlan). IsPlanned nodes (row_plan nodes d) p) (sym rows) are.of_rows;
      of_goals = subst (λ (ps : List SizedPlan). ArePlansOfGoals nodes d ps) (sym goals) are.of_goals;
      order = subst (λ (ps : List SizedPlan). ListsStepsOrNone ps copy.joint_order.items) (sym goals) (subst (λ (l : List ℕ). ListsStepsOrNone own.goals.items l) (sym order) are.order);
    })
