use Rattle.std.proofs.Common.{ℕ, ◌<◌, ◌≤◌, ◌-◌, ◌↔◌}
use Rattle.node_sets.specs.Sets.{IsIn}
use Rattle.size_precheck.specs.Families.{family_at}
use Rattle.size_precheck.proofs.starts.nodes_of_tables.Given as goal

-- the nodes of the tables so far
abbrev pub invariant-tables : goal.invariant-tables
invariant-tables l = record {
  within : l.from ≤ 256;
  inside : (u : ℕ) → IsIn l.nodes u ↔ ((t : ℕ) × (t < l.from) × IsIn l.tables t × IsIn (family_at l.families t).table.scope u);
}

abbrev pub decreases-tables : goal.decreases-tables
decreases-tables l = 256 - l.from
