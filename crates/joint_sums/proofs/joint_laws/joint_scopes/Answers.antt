use Rattle.cell_rings.specs.RingLaws.{both_is_ring}
use Rattle.plan_sums.specs.Plans.{both_cells}
use Rattle.joint_sums.proofs.PlanSteps.{summed_by_plans}
use Rattle.joint_sums.proofs.Scopes.{joint_keeps}
use Rattle.joint_sums.proofs.Sized.{joint_holds}
use Rattle.joint_sums.proofs.joint_laws.joint_scopes.Goals as goal

pub returns : goal.returns
returns c = record {
  holds = joint_holds both_cells both_is_ring;
  keeps = joint_keeps both_cells both_is_ring;
  steps = summed_by_plans;
}
