-- The list that the loop made is a diagram by its tests.
use Rattle.std.proofs.Common.{◌≡◌, ◌∙◌, ℕ, List, ◌∷◌, [], refl, sym, ap, subst, arith}
use Rattle.std.specs.Prelude.{IfOk, replicate}
use Rattle.sum_tests.specs.Planning.{star_diagram}
use Rattle.maid_model.specs.Views.{NodeView, diagram_of}
use Rattle.sample_diagrams.specs.Nodes.{PassesTests, decision_node}
use Rattle.sum_tests.proofs.planning.star.Goals as goal

tested : PassesTests star_diagram.nodes 1 0
tested = refl

-- so many points of the star, behind its middle
abbrev points : ℕ → List NodeView
points n = decision_node 0 16 [] ∷ replicate n (decision_node 0 16 (0 ∷ []))

pub sample_diagram-requires : goal.sample_diagram-requires
sample_diagram-requires c =
    let count : c.loop.counter ≡ 15 = omega (arith, c.loop-test.false, c.loop.auto.counter-end) in
    subst (λ nodes. PassesTests nodes 1 0) (sym (c.as_slice.ensures.value ∙ c.loop.invariant ∙ ap points count)) tested

pub returns : goal.returns
returns c =
    let count : c.loop.counter ≡ 15 = omega (arith, c.loop-test.false, c.loop.auto.counter-end) in
    subst (λ nodes. IfOk c.sample_diagram.result (λ d. d ≡ diagram_of nodes 1 0)) (c.as_slice.ensures.value ∙ c.loop.invariant ∙ ap points count) c.sample_diagram.ensures
