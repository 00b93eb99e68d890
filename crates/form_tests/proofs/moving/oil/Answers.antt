-- The literal is a diagram by its tests.
use Rattle.std.proofs.Common.{◌∷◌, [], refl, sym, subst}
use Rattle.form_tests.specs.Moving.{oil}
use Rattle.sample_diagrams.specs.Nodes.{PassesTests}
use Rattle.form_tests.proofs.moving.oil.Goals as goal

tested : PassesTests oil.nodes 1 0
tested = refl

pub sample_diagram-requires : goal.sample_diagram-requires
sample_diagram-requires c =
    subst (λ nodes. PassesTests nodes 1 0)
    (sym (λ i. c.decision.ensures i ∷ c.chance.ensures i ∷ c.chance-2.ensures i ∷ c.decision-2.ensures i ∷ c.utility.ensures i ∷ c.utility-2.ensures i ∷ []))
    tested
