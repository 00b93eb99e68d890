-- The literals are diagrams by their tests.
use Rattle.std.proofs.Common.{◌∙◌, ◌∷◌, [], Bool, true, false, refl, sym, ap, subst}
use Rattle.form_tests.specs.Informing.{guessing}
use Rattle.sample_diagrams.specs.Nodes.{PassesTests, decision_node}
use Rattle.form_tests.proofs.informing.diagram.Goals as goal

tested : (told : Bool) → PassesTests (guessing told).nodes 1 0
tested true = refl
tested false = refl

pub sample_diagram-requires : goal.sample_diagram-requires
sample_diagram-requires c =
    let guess = c.decision.ensures ∙ ap (decision_node 0 2) c.seen_by.ensures in
    subst (λ nodes. PassesTests nodes 1 0)
    (sym (λ i. c.chance.ensures i ∷ c.chance-2.ensures i ∷ c.chance-3.ensures i ∷ guess i ∷ c.utility.ensures i ∷ []))
    (tested c.args.told)
