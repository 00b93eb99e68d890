use Rattle.std.proofs.Common.{◌≡◌, ℕ, zero, suc, refl, sym, subst, arith}
use Rattle.diagram_graph.specs.Room.{IsArcTooLarge, RulesFit}
use Rattle.maid_model.specs.Diagrams.{IsDiagram}
use Rattle.maid_model.specs.Edits.{with_arc}
use Rattle.maid_model.specs.Graph.{Arc, IsPath, Here, Along}
use Rattle.maid_model.specs.Views.{DiagramView}
use Rattle.graph_tests.specs.Edits.{example}
use Rattle.graph_tests.proofs.edits.is_shown.Goals as goal

-- the rival doesn't see the first node
absent : Arc example.nodes 0 3 → ⊥
absent (zero, l, e) = absurd (omega arith)
absent (suc k, l, e) = absurd (omega arith)

-- nobody sees the rival's choice
unseen : (v : ℕ) → Arc example.nodes 3 v → ⊥
unseen zero (i, l, e) = absurd (omega arith)
unseen (suc zero) (i, l, e) = absurd (omega arith)
unseen (suc (suc zero)) (zero, l, e) = absurd (omega arith)
unseen (suc (suc zero)) (suc zero, l, e) = absurd (omega arith)
unseen (suc (suc zero)) (suc (suc i), l, e) = absurd (omega arith)
unseen (suc (suc (suc zero))) (zero, l, e) = absurd (omega arith)
unseen (suc (suc (suc zero))) (suc i, l, e) = absurd (omega arith)
unseen (suc (suc (suc (suc zero)))) (zero, l, e) = absurd (omega arith)
unseen (suc (suc (suc (suc zero)))) (suc i, l, e) = absurd (omega arith)
unseen (suc (suc (suc (suc (suc v))))) (i, l, e) = absurd (omega arith)

no_path : (u : ℕ) → u ≡ 3 → IsPath (Arc example.nodes) u 0 → ⊥
no_path u e Here = absurd (omega arith)
no_path u e (Along {v = v} a p) = unseen v (subst (λ x. Arc example.nodes x v) e a)

fits : RulesFit (with_arc example.nodes 0 3) 3
fits = record { parents = omega arith; cells = omega arith; all = omega arith }

pub add_arc_in-requires-clause-absent : goal.add_arc_in-requires-clause-absent
add_arc_in-requires-clause-absent c = subst (λ (d : DiagramView). Arc d.nodes 0 3 → ⊥) (sym c.in_ok-whole.ensures) absent

pub add_arc_in-requires-clause-no_cycle : goal.add_arc_in-requires-clause-no_cycle
add_arc_in-requires-clause-no_cycle c = subst (λ (d : DiagramView). IsPath (Arc d.nodes) 3 0 → ⊥) (sym c.in_ok-whole.ensures) (no_path 3 refl)

pub add_arc_in-requires-clause-room : goal.add_arc_in-requires-clause-room
add_arc_in-requires-clause-room c = subst (λ (d : DiagramView). IsArcTooLarge d.nodes 0 3 → ⊥) (sym c.in_ok-whole.ensures) (λ large. large.too_much fits)

pub exchange-requires-clause-diagram : goal.exchange-requires-clause-diagram
exchange-requires-clause-diagram c = subst IsDiagram (sym c.in_ok-blind.ensures.back.again) c.count-count.ensures.diagram
