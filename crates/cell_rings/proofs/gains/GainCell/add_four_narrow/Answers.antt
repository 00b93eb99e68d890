use Rattle.std.proofs.Common.{arith}
use Rattle.cell_rings.specs.KindLaws.{gain_laws, gain_sizes}
use Rattle.cell_rings.proofs.Together.{cells_are_factors, room_first, room_then, both_added}
use Rattle.cell_rings.proofs.gains.GainCell.add_four_narrow.Goals as goal

pub add_two_narrow-requires-clause-room : goal.add_two_narrow-requires-clause-room
add_two_narrow-requires-clause-room c =
    room_first (cells_are_factors gain_laws gain_sizes) c.args.cells.now c.args.one.now c.args.other.now c.args.n c.args.at c.requires.room

pub add_two_narrow-requires-else-has_words-clause-room : goal.add_two_narrow-requires-else-has_words-clause-room
add_two_narrow-requires-else-has_words-clause-room c =
    room_then (cells_are_factors gain_laws gain_sizes) c.args.cells.now c.args.one.now c.args.other.now c.args.n c.args.at c.requires.room c.add_two_narrow.ensures

pub returns-else-has_words : goal.returns-else-has_words
returns-else-has_words c =
    both_added (cells_are_factors gain_laws gain_sizes) c.args.cells.now c.args.one.now c.args.other.now c.args.n c.args.at c.add_two_narrow.ensures c.add_two_narrow-else-has_words.ensures

pub add_four_words-requires-clause-out : goal.add_four_words-requires-clause-out
add_four_words-requires-clause-out c = c.requires.out

pub add_two_narrow-requires-clause-cells : goal.add_two_narrow-requires-clause-cells
add_two_narrow-requires-clause-cells c = c.requires.cells.0

pub add_two_narrow-requires-clause-narrow : goal.add_two_narrow-requires-clause-narrow
add_two_narrow-requires-clause-narrow c = c.requires.one

pub add_two_narrow-requires-clause-out : goal.add_two_narrow-requires-clause-out
add_two_narrow-requires-clause-out c = c.requires.out

pub add_two_narrow-requires-else-has_words-clause-cells : goal.add_two_narrow-requires-else-has_words-clause-cells
add_two_narrow-requires-else-has_words-clause-cells c = c.requires.cells.1

pub add_two_narrow-requires-else-has_words-clause-narrow : goal.add_two_narrow-requires-else-has_words-clause-narrow
add_two_narrow-requires-else-has_words-clause-narrow c = c.requires.other

pub add_two_narrow-requires-else-has_words-clause-out : goal.add_two_narrow-requires-else-has_words-clause-out
add_two_narrow-requires-else-has_words-clause-out c = omega (arith, c.requires.out, c.add_two_narrow.auto.out)
