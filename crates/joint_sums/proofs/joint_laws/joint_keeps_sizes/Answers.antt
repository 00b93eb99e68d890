use Rattle.cell_rings.specs.Rings.{both_size}
use Rattle.cell_rings.specs.RingLaws.{both_is_ring, both_sized}
use Rattle.plan_sums.specs.Plans.{both_cells}
use Rattle.plan_sums.proofs.Scopes.{boths_sized}
use Rattle.joint_sums.proofs.Sized.{joint_fits}
use Rattle.joint_sums.proofs.joint_laws.joint_keeps_sizes.Goals as goal

pub returns : goal.returns
returns c = joint_fits both_cells both_is_ring both_size both_sized boths_sized
