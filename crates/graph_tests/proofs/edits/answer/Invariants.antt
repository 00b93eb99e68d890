use Rattle.std.proofs.Common.{◌≡◌, map, take, ℕ}
use Rattle.std.specs.Prelude.{None}
use Rattle.graph_tests.proofs.edits.answer.Given as goal

abbrev pub invariant-loop-choice : goal.invariant-loop-choice
invariant-loop-choice l = l.rows.items ≡ map (λ (choice : ℕ). record { choice = choice; worth = None }) (take l.choice-index l.choices)
