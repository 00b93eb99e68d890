use Rattle.std.proofs.Common.{◌≡◌, ◌≤◌, List, ◌∷◌, ◌++◌, length}
use Rattle.net_lexer.specs.declared.tokens.Token.{Token}
use Rattle.net_parser.specs.Grammar.{Each, Name}
use Rattle.net_parser.specs.Reading.{Symbol, names, stop, within}
use Rattle.net_parser.proofs.reader.Reader.given_names.Given as goal

-- the names so far lead here, and reading goes on as from the first
abbrev pub invariant-loop-self : goal.invariant-loop-self
invariant-loop-self l = record {
  read : (given : List Token) × (l.names.items ≡ l.fn.names.items ++ given) × Each Name given l.initial.self l.self;
  follows : (after : List Symbol) → stop (within (names ∷ after)) l.initial.self ≡ stop (within (names ∷ after)) l.self;
  shorter : length l.self ≤ length l.initial.self;
}

abbrev pub decreases-loop-self : goal.decreases-loop-self
decreases-loop-self l = length l.self
