use Rattle.std.proofs.Common.{◌≡◌, length}
use Rattle.net_parser.specs.Grammar.{Text}
use Rattle.net_parser.specs.Reading.{start, stop, place_behind}
use Rattle.net_parser.proofs.reader.Reader.text.Given as goal

-- the blocks so far lead here, and reading goes on as from the start
abbrev pub invariant-loop-alloc : goal.invariant-loop-alloc
invariant-loop-alloc l = record {
  read : Text l.blocks.items l.fn.self l.self;
  follows : stop start l.fn.self ≡ stop (place_behind l.blocks.items) l.self;
}

abbrev pub decreases-loop-alloc : goal.decreases-loop-alloc
decreases-loop-alloc l = length l.self
