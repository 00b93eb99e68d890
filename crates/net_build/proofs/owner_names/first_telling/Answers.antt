-- The attribute is the first of those that the test keeps.
use Rattle.std.proofs.Common.{◌≡◌, ◌+◌, true, false, drop, filter, ap, sym, ◌∙◌}
use Rattle.std.proofs.lemmas.List.{drop_all}
use Rattle.first_fault.proofs.Leading.{filter_rest_yes, filter_rest_no}
use Rattle.net_build.specs.Blocks.{names_owners, word_of}
use Rattle.net_build.proofs.owner_names.first_telling.Goals as goal

pub returns-then-names_owners-clause-first : goal.returns-then-names_owners-clause-first
returns-then-names_owners-clause-first c =
    let text = c.args.text.now in
    let kind = c.args.kind in
    let i = c.loop-attribute.attribute-index in
    let kept : names_owners kind (word_of text c.attribute-item.result) ≡ true = ap (names_owners kind) (sym c.word_of.ensures) ∙ sym c.names_owners.ensures ∙ c.if-names_owners.true in (
      filter (λ a. names_owners kind (word_of text a)) (drop (i + 1) c.args.attributes.now),
      sym c.loop-attribute.invariant ∙ filter_rest_yes (λ a. names_owners kind (word_of text a)) c.args.attributes.now i c.attribute-item.result c.loop-attribute-test.true c.attribute-item.is kept,
    )

pub loop-attribute-preserved : goal.loop-attribute-preserved
loop-attribute-preserved c =
    let text = c.args.text.now in
    let kind = c.args.kind in
    let left : names_owners kind (word_of text c.attribute-item.result) ≡ false = ap (names_owners kind) (sym c.word_of.ensures) ∙ sym c.names_owners.ensures ∙ c.if-names_owners.false in
    sym (filter_rest_no (λ a. names_owners kind (word_of text a)) c.args.attributes.now c.loop-attribute.attribute-index c.attribute-item.result c.loop-attribute-test.true c.attribute-item.is left) ∙ c.loop-attribute.invariant

pub returns-clause-first : goal.returns-clause-first
returns-clause-first c = sym c.loop-attribute.invariant ∙ ap (filter (λ a. names_owners c.args.kind (word_of c.args.text.now a))) (drop_all c.loop-attribute.attribute-index c.args.attributes.now c.loop-attribute-test.false)
