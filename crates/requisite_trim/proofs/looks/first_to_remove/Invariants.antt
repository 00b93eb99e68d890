use Rattle.std.proofs.Common.{ℕ, ◌<◌}
use Rattle.maid_model.specs.Nodes.{IsDecision}
use Rattle.maid_model.specs.Trimming.{SeesRequisites}
use Rattle.requisite_trim.proofs.looks.first_to_remove.Given as goal

abbrev pub invariant-loop-decision : goal.invariant-loop-decision
invariant-loop-decision l = (e : ℕ) → e < l.decision → IsDecision l.diagram.nodes e → SeesRequisites l.diagram.nodes e
