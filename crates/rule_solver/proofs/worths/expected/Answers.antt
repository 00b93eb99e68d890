-- The cells of the largest of the utilities' plans are room for all of them, and no fewer are.
use Rattle.std.proofs.Common.{◌≤◌, All, List, sym, subst, arith}
use Rattle.maid_model.specs.declared.limits.TheConstants.{MOST_PLAN_CELLS}
use Rattle.size_precheck.specs.Sizes.{ArePlansOfWorths, SizedPlan}
use Rattle.rule_solver.proofs.WorthLemmas.{kept_worths, worths_kept}
use Rattle.rule_solver.proofs.worths.expected.Goals as goal

pub reserve-requires : goal.reserve-requires
reserve-requires c =
    c.most_cells-cells.ensures.least MOST_PLAN_CELLS (omega arith)
    (subst (λ (l : List SizedPlan). All (λ (plan : SizedPlan). plan.size.cells ≤ MOST_PLAN_CELLS) l) (sym c.deref.ensures.value) (worths_kept c.args.diagram.now.nodes c.in_ok-plans.plans.items c.in_ok-plans.ensures MOST_PLAN_CELLS c.requires.room))

pub overflow_cast-cells : goal.overflow_cast-cells
overflow_cast-cells c = let few : c.most_cells-cells.result ≤ MOST_PLAN_CELLS = reserve-requires c in omega (arith, few)

pub expected_along-requires-clause-planned : goal.expected_along-requires-clause-planned
expected_along-requires-clause-planned c = subst (ArePlansOfWorths c.args.diagram.now.nodes) (sym c.deref-2.ensures.value) c.in_ok-plans.ensures

pub expected_along-requires-clause-ready : goal.expected_along-requires-clause-ready
expected_along-requires-clause-ready c =
    let cells = c.most_cells-cells.result in (
      cells,
      c.in_ok-spaces.ensures,
      kept_worths c.args.diagram.now.nodes c.in_ok-plans.plans.items c.in_ok-plans.ensures c.greedy_orders.ensures.one cells
          (subst (λ (l : List SizedPlan). All (λ (plan : SizedPlan). plan.size.cells ≤ cells) l) c.deref.ensures.value c.most_cells-cells.ensures.plans),
    )
