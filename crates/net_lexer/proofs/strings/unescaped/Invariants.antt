use Rattle.std.proofs.Common.{◌≡◌, ◌++◌, length}
use Rattle.net_lexer.specs.Strings.{unescaped}
use Rattle.net_lexer.proofs.strings.unescaped.Given as goal

abbrev pub invariant-loop-byte : goal.invariant-loop-byte
invariant-loop-byte l = l.value.items ++ unescaped l.rest ≡ unescaped l.bytes

abbrev pub decreases-loop-byte : goal.decreases-loop-byte
decreases-loop-byte l = length l.rest
