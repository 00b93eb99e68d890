use Rattle.std.proofs.Common.{◌≡◌, length}
use Rattle.size_precheck.specs.Families.{AreFamilies}
use Rattle.size_precheck.proofs.planners.list_families.Given as goal

-- the families so far
abbrev pub invariant-loop-v : goal.invariant-loop-v
invariant-loop-v l = record {
  len : length l.families.items ≡ l.v;
  families : AreFamilies l.diagram.nodes l.states l.families.items;
}
