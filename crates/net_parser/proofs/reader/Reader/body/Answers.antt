use Rattle.std.proofs.Common.{◌∷◌, sym, ap, ◌∙◌, length, arith}
use Rattle.std.proofs.lemmas.Result.{err_from_is_err_and}
use Rattle.net_parser.specs.Grammar as grammar
use Rattle.net_parser.specs.Reading.{attributes}
use Rattle.net_parser.proofs.Moves.{begun}
use Rattle.net_parser.proofs.Turns.{attributes_turn, each-push}
use Rattle.net_parser.proofs.reader.Reader.body.Goals as goal

pub returns-in_err-attribute-clause-follows : goal.returns-in_err-attribute-clause-follows
returns-in_err-attribute-clause-follows c = λ after.
    let p = err_from_is_err_and c.from_residual-in_err-attribute.result c.from_residual-in_err-attribute.ensures.1 in
    let turn = attributes_turn c.args.potential after c.expect.new.self c.loop-self.self c.accept.new.self (c.loop-self.invariant.follows after) c.loop-self-test.ensures.refused (sym c.accept.ensures.test ∙ c.loop-self-test.true) in
    rw (p.1, p.2, c.in_ok-expect.ensures.follows (attributes c.args.potential ∷ after), turn) (c.in_err-attribute.ensures.follows (attributes c.args.potential ∷ after))

pub loop-self-preserved : goal.loop-self-preserved
loop-self-preserved c =
    let same = c.loop-self-test.ensures.refused in
    let is_open = sym c.accept.ensures.test ∙ c.loop-self-test.true in
    let attribute = grammar.Attribute c.args.potential in
    record {
      read = rw c.in_ok-push.ensures.items (each-push attribute c.loop-self.attributes.items c.in_ok-attribute.attribute c.expect.new.self c.loop-self.self c.attribute.new.self c.loop-self.invariant.read (begun (attribute c.in_ok-attribute.attribute) (sym same) c.in_ok-attribute.ensures.rule));
      follows = λ after. attributes_turn c.args.potential after c.expect.new.self c.loop-self.self c.accept.new.self (c.loop-self.invariant.follows after) same is_open ∙ c.in_ok-attribute.ensures.follows (attributes c.args.potential ∷ after);
      shorter = omega (arith, c.in_ok-attribute.ensures.shorter, c.loop-self.invariant.shorter, ap length same);
    }
