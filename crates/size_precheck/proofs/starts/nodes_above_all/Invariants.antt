use Rattle.std.proofs.Common.{ℕ, ◌<◌, ◌≤◌, ◌-◌, ◌↔◌}
use Rattle.node_sets.specs.Sets.{IsIn}
use Rattle.size_precheck.specs.Families.{family_at}
use Rattle.size_precheck.proofs.starts.nodes_above_all.Given as goal

-- what leads to the ends so far
abbrev pub invariant-ends : goal.invariant-ends
invariant-ends l = record {
  within : l.from ≤ 256;
  leads : (v : ℕ) → IsIn l.nodes v ↔ ((to : ℕ) × (to < l.from) × IsIn l.ends to × IsIn (family_at l.families to).above v);
}

abbrev pub decreases-ends : goal.decreases-ends
decreases-ends l = 256 - l.from
