use Rattle.std.proofs.Common.{subst}
use Rattle.net_parser.specs.Grammar as grammar
use Rattle.net_parser.proofs.reader.Reader.block.Goals as goal

pub returns-clause-rule : goal.returns-clause-rule
returns-clause-rule c = (c.head.new.self, c.in_ok-kind.ensures.rule, subst (λ potential. grammar.Body potential c.in_ok-attributes.attributes.items c.head.new.self c.body.new.self) c.is_potential.ensures c.in_ok-attributes.ensures.rule)
