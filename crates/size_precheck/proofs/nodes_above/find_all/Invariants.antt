use Rattle.std.proofs.Common.{◌≡◌, length}
use Rattle.size_precheck.specs.Above.{AreAboveKnown}
use Rattle.size_precheck.proofs.nodes_above.find_all.Given as goal

-- the known nodes are found
abbrev pub invariant-loop : goal.invariant-loop
invariant-loop l = record {
  all : length l.above ≡ length l.initial.above;
  found : AreAboveKnown l.diagram.nodes l.known l.above;
}
