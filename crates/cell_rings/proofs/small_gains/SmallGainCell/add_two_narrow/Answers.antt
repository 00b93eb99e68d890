use Rattle.cell_rings.proofs.small_gains.SmallGainCell.add_two_narrow.Goals as goal

pub add_two_long-requires-clause-cells : goal.add_two_long-requires-clause-cells
add_two_long-requires-clause-cells c = c.requires.cells

pub add_two_long-requires-clause-out : goal.add_two_long-requires-clause-out
add_two_long-requires-clause-out c = c.requires.out

pub add_two_long-requires-clause-room : goal.add_two_long-requires-clause-room
add_two_long-requires-clause-room c = c.requires.room

pub add_two_halves-requires-clause-cells : goal.add_two_halves-requires-clause-cells
add_two_halves-requires-clause-cells c = c.requires.cells

pub add_two_halves-requires-clause-out : goal.add_two_halves-requires-clause-out
add_two_halves-requires-clause-out c = c.requires.out

pub add_two_halves-requires-clause-room : goal.add_two_halves-requires-clause-room
add_two_halves-requires-clause-room c = c.requires.room

pub returns-else-is_half : goal.returns-else-is_half
returns-else-is_half c = c.add_two_long.ensures

pub returns-then-is_half-2 : goal.returns-then-is_half-2
returns-then-is_half-2 c = c.add_two_halves.ensures
