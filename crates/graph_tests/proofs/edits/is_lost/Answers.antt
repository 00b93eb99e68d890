use Rattle.std.proofs.Common.{refl, sym, subst, arith}
use Rattle.std.specs.Prelude.{Contains}
use Rattle.maid_model.specs.Nodes.{parents_of}
use Rattle.maid_model.specs.Views.{DiagramView}
use Rattle.graph_tests.proofs.edits.is_lost.Goals as goal

pub lose_arc-requires-clause-arc : goal.lose_arc-requires-clause-arc
lose_arc-requires-clause-arc c = subst (λ (d : DiagramView). Contains (parents_of d.nodes 2) 0) (sym c.in_ok-whole.ensures) (0, omega arith, refl)
