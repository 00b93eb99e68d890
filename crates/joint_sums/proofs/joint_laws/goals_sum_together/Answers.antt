use Rattle.std.proofs.Common.{refl}
use Rattle.cell_rings.specs.RingLaws.{mass_is_ring, both_is_ring, both_to_mass}
use Rattle.plan_sums.specs.Plans.{mass_cells, both_cells}
use Rattle.joint_sums.proofs.Gains.{joint_gains}
use Rattle.joint_sums.proofs.Orders.{runs_joint, maps_joint}
use Rattle.joint_sums.proofs.joint_laws.goals_sum_together.Goals as goal

pub returns : goal.returns
returns c = record {
  gains = joint_gains;
  any_order = runs_joint both_cells both_is_ring;
  masses = maps_joint both_cells mass_cells both_is_ring mass_is_ring (λ a. a.m) (record { ring = both_to_mass; weight = λ w. refl; value = λ v. refl });
}
