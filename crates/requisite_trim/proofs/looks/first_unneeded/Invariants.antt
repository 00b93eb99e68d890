use Rattle.std.proofs.Common.{ℕ, ◌<◌, get_or}
use Rattle.maid_model.specs.Relevance.{IsRequisite}
use Rattle.requisite_trim.proofs.looks.first_unneeded.Given as goal

abbrev pub invariant-loop-parent : goal.invariant-loop-parent
invariant-loop-parent l = (k : ℕ) → k < l.parent-index → IsRequisite l.diagram.nodes l.decision (get_or l.parent-items k 0)
