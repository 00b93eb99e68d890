use Rattle.std.proofs.Common.{◌≡◌, ℕ, ◌<◌, length, slice_index}
use Rattle.maid_model.specs.Tables.{weight_total}
use Rattle.rule_solver.proofs.NextRules.{AreNext}
use Rattle.rule_solver.proofs.totals.list_totals.Given as goal

-- the totals of the nodes so far, and the rules of the decisions that are left
abbrev pub invariant-loop-v : goal.invariant-loop-v
invariant-loop-v l = record {
  count : length l.totals.items ≡ l.v;
  each : (u : ℕ) → u < l.v → slice_index l.totals.items u ≡ weight_total l.diagram.nodes l.profile u;
  next : AreNext l.diagram.nodes l.profile l.v l.place;
}
