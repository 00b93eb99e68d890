use Rattle.std.proofs.Common.{arith}
use Rattle.std.proofs.lemmas.List.Sums.{prefix_len-le-length}
use Rattle.net_lexer.specs.Bytes.{is_digit}
use Rattle.net_lexer.proofs.pieces.last_digits_len.Goals as goal

pub behind-requires : goal.behind-requires
behind-requires c = omega (arith, c.digits_len-len.ensures, prefix_len-le-length is_digit c.args.bytes.now)
