use Rattle.std.proofs.Common.{arith}
use Rattle.std.proofs.lemmas.Result.{on_ok_weaker}
use Rattle.net_parser.proofs.Nests.{leaf_alone, whole_list}
use Rattle.net_parser.proofs.Stopped.{leaf_kind}
use Rattle.net_parser.proofs.reader.Reader.value.Goals as goal

pub returns-in-Text-clause-rule : goal.returns-in-Text-clause-rule
returns-in-Text-clause-rule c =
    leaf_alone c.args.depth c.args.self.now c.advance.new.self _ c.in-Some.ensures.some c.advance.ensures (leaf_kind _ c.in-Text.is)

pub returns-in-ParenOpen-2-clause-rule : goal.returns-in-ParenOpen-2-clause-rule
returns-in-ParenOpen-2-clause-rule c =
    on_ok_weaker c.values.result (λ done. whole_list c.args.depth c.args.self.now c.advance-in-ParenOpen-2.new.self c.values.new.self _ c.in-Some.ensures.some c.advance-in-ParenOpen-2.ensures c.in-ParenOpen-2.is (omega (arith, c.if-depth-eq0.false)) done) c.values.ensures.rule
