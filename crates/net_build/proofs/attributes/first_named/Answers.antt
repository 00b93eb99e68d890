-- The attribute is the first of that name.
use Rattle.std.proofs.Common.{◌+◌, drop, ap, sym, ◌∙◌}
use Rattle.std.proofs.lemmas.List.{drop_all}
use Rattle.std.specs.Str.{bytes_eq}
use Rattle.first_fault.proofs.Leading.{filter_rest_yes, filter_rest_no}
use Rattle.net_build.specs.Blocks.{named, word_of}
use Rattle.net_build.proofs.attributes.first_named.Goals as goal

pub returns-then-is_named-clause-first : goal.returns-then-is_named-clause-first
returns-then-is_named-clause-first c = (
  named c.args.text.now c.args.word.now (drop (c.loop-attribute.attribute-index + 1) c.args.attributes.now),
  sym c.loop-attribute.invariant
      ∙ filter_rest_yes (λ a. bytes_eq (word_of c.args.text.now a) c.args.word.now) c.args.attributes.now c.loop-attribute.attribute-index c.attribute-item.result c.loop-attribute-test.true c.attribute-item.is (sym c.is_named.ensures ∙ c.if-is_named.true),
)

pub loop-attribute-preserved : goal.loop-attribute-preserved
loop-attribute-preserved c =
    sym (filter_rest_no (λ a. bytes_eq (word_of c.args.text.now a) c.args.word.now) c.args.attributes.now c.loop-attribute.attribute-index c.attribute-item.result c.loop-attribute-test.true c.attribute-item.is (sym c.is_named.ensures ∙ c.if-is_named.false)) ∙ c.loop-attribute.invariant

pub returns-clause-first : goal.returns-clause-first
returns-clause-first c = sym c.loop-attribute.invariant ∙ ap (named c.args.text.now c.args.word.now) (drop_all c.loop-attribute.attribute-index c.args.attributes.now c.loop-attribute-test.false)
