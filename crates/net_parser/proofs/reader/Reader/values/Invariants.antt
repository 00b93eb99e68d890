use Rattle.std.proofs.Common.{◌≡◌, ◌≤◌, ◌∷◌, List, length}
use Rattle.net_parser.specs.Reading.{Symbol, stop, values, within}
use Rattle.net_parser.proofs.Nests.{Leads, to_come}
use Rattle.net_parser.proofs.reader.Reader.values.Given as goal

-- the tokens up to here lead on with so many lists open, and reading goes on as from the first
abbrev pub invariant-loop-token : goal.invariant-loop-token
invariant-loop-token l = record {
  few : l.level ≤ l.depth;
  leads : Leads l.depth l.level l.initial.self l.self;
  follows : (after : List Symbol) → stop (within (values l.depth ∷ after)) l.initial.self ≡ stop (within (to_come l.depth l.level after)) l.self;
  shorter : length l.self ≤ length l.initial.self;
}

abbrev pub decreases-loop-token : goal.decreases-loop-token
decreases-loop-token l = length l.self
