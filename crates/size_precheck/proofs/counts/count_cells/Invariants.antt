use Rattle.std.proofs.Common.{◌≡◌, ◌-◌, ◌≤◌}
use Rattle.node_sets.specs.Sets.{holds}
use Rattle.maid_model.specs.Bounds.{stopped}
use Rattle.size_precheck.specs.Joints.{product_below, factor}
use Rattle.size_precheck.proofs.counts.count_cells.Given as goal

abbrev pub invariant-members : goal.invariant-members
invariant-members l = record {
  within : l.from ≤ 256;
  counted : l.cells ≡ stopped (product_below (factor l.states (holds l.set)) l.from);
}

abbrev pub decreases-members : goal.decreases-members
decreases-members l = 256 - l.from
