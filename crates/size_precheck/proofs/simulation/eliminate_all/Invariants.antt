use Rattle.std.proofs.Common.{◌+◌, ◌↔◌, ◌^◌, ◌≤◌, ℕ, Bool, List, length}
use Rattle.maid_model.specs.Placing.{Remains}
use Rattle.maid_model.specs.Views.{NodeView}
use Rattle.node_sets.specs.Sets.{holds, IsIn}
use Rattle.size_precheck.specs.Classes.{AreClasses}
use Rattle.size_precheck.specs.Joints.{cells_in, member_count, HasPlaces, IsGreedyStart}
use Rattle.size_precheck.proofs.Running.{At}
use Rattle.size_precheck.proofs.simulation.eliminate_all.Given as goal

-- the classes have what remains, and what is known is right for the scopes after the steps so far
abbrev pub invariant-steps : goal.invariant-steps
invariant-steps l = record {
  classes : AreClasses (cells_in l.known) (holds l.rest) l.classes.items;
  places : HasPlaces (IsIn l.fn.waiting) l.known;
  remains : (v : ℕ) → IsIn l.rest v ↔ Remains (IsIn l.fn.waiting) l.steps.items v;
  live : l.live ≤ 257 + length l.steps.items;
  few : l.cells ≤ 10 ^ 18;
  little : l.work ≤ 10 ^ 18;
  at : (nodes : List NodeView) (scopes : List (ℕ → Bool)) → IsGreedyStart nodes l.states (IsIn l.fn.waiting) scopes l.fn.start
      → At nodes l.states (IsIn l.fn.waiting) (IsIn l.rest) scopes l.steps.items l.known l.live l.cells l.work;
}

abbrev pub decreases-steps : goal.decreases-steps
decreases-steps l = member_count l.rest
