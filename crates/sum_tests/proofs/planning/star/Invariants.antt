use Rattle.std.proofs.Common.{◌≡◌, ◌∷◌, []}
use Rattle.std.specs.Prelude.{replicate}
use Rattle.sample_diagrams.specs.Nodes.{decision_node}
use Rattle.sum_tests.proofs.planning.star.Given as goal

abbrev pub invariant-loop : goal.invariant-loop
invariant-loop l = l.nodes.items ≡ decision_node 0 16 [] ∷ replicate l.counter (decision_node 0 16 (0 ∷ []))
