use Rattle.std.proofs.Common.{sym}
use Rattle.net_lexer.proofs.Fronts.{string_piece}
use Rattle.net_lexer.proofs.pieces.string_len.Goals as goal

pub overflow_sub-result : goal.overflow_sub-result
overflow_sub-result c = (string_piece c.args.bytes.now c.in-Some.rest.now c.requires.some c.requires.begins (rw c.behind.ensures at (sym c.in-Some.ensures))).0

pub returns-in-Some-clause-some : goal.returns-in-Some-clause-some
returns-in-Some-clause-some c = (string_piece c.args.bytes.now c.in-Some.rest.now c.requires.some c.requires.begins (rw c.behind.ensures at (sym c.in-Some.ensures))).1
