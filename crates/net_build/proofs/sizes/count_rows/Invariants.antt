use Rattle.std.proofs.Common.{◌≡◌, ◌≤◌, ◌*◌, ◌^◌, min, drop}
use Rattle.net_build.specs.Stages.{rows_over}
use Rattle.net_build.proofs.sizes.count_rows.Given as goal

-- the rows so far times those still to come are the rows, counted up to 10^18
abbrev pub invariant-loop-parent : goal.invariant-loop-parent
invariant-loop-parent l = record {
  counted : min (l.rows * rows_over l.heads (drop l.parent-index l.parents)) (10 ^ 18) ≡ min (rows_over l.heads l.parents) (10 ^ 18);
  few : l.rows ≤ 10 ^ 18;
}
