use Rattle.std.proofs.Common.{◌≡◌, length}
use Rattle.net_lexer.specs.Strings.{behind_quote}
use Rattle.net_lexer.proofs.strings.behind_quote.Given as goal

abbrev pub invariant-loop-rest : goal.invariant-loop-rest
invariant-loop-rest l = behind_quote l.rest ≡ behind_quote l.bytes

abbrev pub decreases-loop-rest : goal.decreases-loop-rest
decreases-loop-rest l = length l.rest
