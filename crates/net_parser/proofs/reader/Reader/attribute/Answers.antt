use Rattle.net_parser.proofs.Lent.{attribute_passed}
use Rattle.net_parser.proofs.reader.Reader.attribute.Goals as goal

pub returns-clause-rule : goal.returns-clause-rule
returns-clause-rule c =
    attribute_passed c.args.potential c.in_ok-attribute_name.field-0 c.args.self.now c.attribute_name.new.self c.expect.new.self c.value.new.self c.expect-2.new.self c.in_ok-attribute_name.ensures.rule c.in_ok-expect.ensures.rule c.in_ok-value.ensures.rule c.in_ok-expect-2.ensures.rule
    c.tokens-tokens.result.now c.tokens.result.now c.new.result c.tokens-tokens.ensures c.tokens.ensures c.new.ensures
