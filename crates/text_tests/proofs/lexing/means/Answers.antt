-- The only token of the text is one of its list, and so a token of the text.
use Rattle.std.proofs.Common.{◌<◌, length, ap, arith}
use Rattle.text_tests.proofs.lexing.means.Goals as goal

pub bytes-requires : goal.bytes-requires
bytes-requires c =
    let some : 0 < length c.in_ok-tokens.tokens = omega (arith, ap length c.list.ensures) in
    rw c.list-2.ensures (c.tokens_stand_in_their_text.ensures.tokens _ _ c.in_ok-tokens.ensures.ok 0 _ some)
