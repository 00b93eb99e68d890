use Rattle.std.proofs.Common.{◌≡◌, ◌≤◌, drop, length}
use Rattle.maid_model.specs.Nodes.{rows_under}
use Rattle.factor_core.specs.Tables.{states_in}
use Rattle.factor_core.proofs.tables.rows_after.Given as goal

abbrev pub invariant-loop-i : goal.invariant-loop-i
invariant-loop-i l = (l.rows ≡ rows_under (states_in l.counts) (drop l.i l.list)) × (l.from ≤ l.i) × (l.i ≤ length l.list)

abbrev pub decreases-loop-i : goal.decreases-loop-i
decreases-loop-i l = l.i
