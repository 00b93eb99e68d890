use Rattle.std.proofs.Common.{◌≡◌, ◌≤◌, List, ◌∷◌, length}
use Rattle.net_parser.specs.Grammar as grammar
use Rattle.net_parser.specs.Grammar.{Each}
use Rattle.net_parser.specs.Reading.{Symbol, attributes, stop, within}
use Rattle.net_parser.proofs.reader.Reader.body.Given as goal

-- the attributes so far lead here, and reading goes on as from the first
abbrev pub invariant-loop-self : goal.invariant-loop-self
invariant-loop-self l = record {
  read : Each (grammar.Attribute l.potential) l.attributes.items l.initial.self l.self;
  follows : (after : List Symbol) → stop (within (attributes l.potential ∷ after)) l.initial.self ≡ stop (within (attributes l.potential ∷ after)) l.self;
  shorter : length l.self ≤ length l.initial.self;
}

abbrev pub decreases-loop-self : goal.decreases-loop-self
decreases-loop-self l = length l.self
