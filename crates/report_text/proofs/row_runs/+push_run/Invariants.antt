use Rattle.std.proofs.Common.{◌≡◌, ◌+◌, ◌*◌, ◌++◌, length}
use Rattle.maid_model.specs.Nodes.{rows_under, states_of}
use Rattle.report_text.specs.Runs.{run_lines}
use Rattle.report_text.proofs.row_runs.+push_run.Given as goal

-- the lines under the states so far, and the number behind them; the labels are those of the first
-- parents
abbrev pub invariant-loop-state : goal.invariant-loop-state
invariant-loop-state l = record {
  next : l.next ≡ l.first + l.state * rows_under (states_of l.sheet.diagram.now.nodes) l.rest;
  labels : l.labels.items ≡ l.fn.labels.items;
  lines : l.out.items ≡ l.fn.out.items ++ run_lines l.sheet.diagram.now.nodes l.sheet.names.now l.sheet.answer.now l.fn.labels.items l.others l.first 0 (l.state * rows_under (states_of l.sheet.diagram.now.nodes) l.rest);
}

abbrev pub decreases-push_run : goal.decreases-push_run
decreases-push_run l = length l.others.now
