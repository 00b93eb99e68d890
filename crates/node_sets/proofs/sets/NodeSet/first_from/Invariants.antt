use Rattle.std.proofs.Common.{◌*◌, ◌<◌}
use Rattle.node_sets.proofs.Scanning.{NoneBetween}
use Rattle.node_sets.proofs.sets.NodeSet.first_from.Given as goal

abbrev pub invariant-loop-i : goal.invariant-loop-i
invariant-loop-i l = record {
  on : l.from < 64 * l.i;
  none : NoneBetween l.self l.from (64 * l.i);
}
