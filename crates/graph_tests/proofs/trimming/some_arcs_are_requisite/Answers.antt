use Rattle.std.proofs.Common.{refl, sym, subst, arith}
use Rattle.std.specs.Prelude.{Contains}
use Rattle.maid_model.specs.Nodes.{parents_of}
use Rattle.maid_model.specs.Views.{DiagramView}
use Rattle.graph_tests.proofs.trimming.some_arcs_are_requisite.Goals as goal

pub requisite-requires-3-clause-arc : goal.requisite-requires-3-clause-arc
requisite-requires-3-clause-arc g c = subst (λ (d : DiagramView). Contains (parents_of d.nodes 2) 1) (sym c.in_ok-whole.ensures) (1, omega arith, refl)
