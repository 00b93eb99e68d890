use Rattle.std.proofs.Common.{◌≡◌, ◌-◌, ◌≤◌}
use Rattle.node_sets.specs.Sets.{holds}
use Rattle.size_precheck.specs.Joints.{members_below}
use Rattle.size_precheck.proofs.counts.count_members.Given as goal

abbrev pub invariant-members : goal.invariant-members
invariant-members l = record {
  within : l.from ≤ 256;
  counted : l.count ≡ members_below (holds l.set) l.from;
  few : l.count ≤ l.from;
}

abbrev pub decreases-members : goal.decreases-members
decreases-members l = 256 - l.from
