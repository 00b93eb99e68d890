-- The literals are diagrams by their tests.
use Rattle.std.proofs.Common.{◌∙◌, ◌∷◌, [], Bool, true, false, refl, sym, ap, subst}
use Rattle.sample_diagrams.specs.Nodes.{PassesTests, chance_node, shared_node}
use Rattle.text_tests.specs.Numbers.{two_parts}
use Rattle.text_tests.proofs.numbers.two_parts.Goals as goal

tested : (wide dear shared : Bool) → PassesTests (two_parts wide dear shared).nodes 2 0
tested true true true = refl
tested true true false = refl
tested true false true = refl
tested true false false = refl
tested false true true = refl
tested false true false = refl
tested false false true = refl
tested false false false = refl

pub sample_diagram-requires : goal.sample_diagram-requires
sample_diagram-requires c =
    let one = c.chance.ensures ∙ ap (chance_node 1 []) c.weights.ensures in
    let pay = c.shared_utility.ensures ∙ (λ i. shared_node 0 (c.others.ensures i) (0 ∷ 1 ∷ []) (c.values.ensures i)) in
    let other = c.chance-2.ensures ∙ ap (chance_node 1 []) c.weights-2.ensures in
    subst (λ nodes. PassesTests nodes 2 0)
    (sym (λ i. c.decision.ensures i ∷ one i ∷ pay i ∷ other i ∷ c.utility.ensures i ∷ []))
    (tested c.args.wide c.args.dear c.args.shared)
