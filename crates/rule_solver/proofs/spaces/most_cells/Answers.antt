use Rattle.std.proofs.Common.{ap, arith}
use Rattle.size_precheck.specs.declared.sizes.Size.{Size}
use Rattle.rule_solver.proofs.MadeRooms.{least_cells, more_cells}
use Rattle.rule_solver.proofs.spaces.most_cells.Goals as goal

pub loop-plan-init : goal.loop-plan-init
loop-plan-init c = (omega arith, (λ k d h. absurd (omega (arith, h))), (λ n first all. first))

pub loop-plan-preserved : goal.loop-plan-preserved
loop-plan-preserved c =
    let cells = ap (λ (size : Size). size.cells) c.size.ensures in
    let first = c.loop-plan.invariant.0 in (
      omega (arith, first, c.max-most.ensures),
      more_cells c.args.plans.now c.loop-plan.plan-index c.loop-plan.most c.size.result.cells c.max-most.result c.plan-item.result c.loop-plan-test.true c.plan-item.is cells c.max-most.ensures c.loop-plan.invariant.1,
      (λ n few all. least_cells c.args.plans.now c.loop-plan.plan-index c.loop-plan.most c.size.result.cells c.max-most.result n c.plan-item.result c.loop-plan-test.true c.plan-item.is cells c.max-most.ensures (c.loop-plan.invariant.2 n few all) all),
    )

pub returns-clause-fewest : goal.returns-clause-fewest
returns-clause-fewest c = c.loop-plan.invariant.0

pub returns-clause-plans : goal.returns-clause-plans
returns-clause-plans c k d h = let out = c.loop-plan-test.false in c.loop-plan.invariant.1 k d (omega (arith, out, h))

pub returns-clause-least : goal.returns-clause-least
returns-clause-least c n first all = c.loop-plan.invariant.2 n first all
