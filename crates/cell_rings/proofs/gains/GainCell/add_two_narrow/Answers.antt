use Rattle.cell_rings.proofs.gains.GainCell.add_two_narrow.Goals as goal

pub add_two_split-requires-clause-cells : goal.add_two_split-requires-clause-cells
add_two_split-requires-clause-cells c = c.requires.cells

pub add_two_split-requires-clause-out : goal.add_two_split-requires-clause-out
add_two_split-requires-clause-out c = c.requires.out

pub add_two_split-requires-clause-narrow : goal.add_two_split-requires-clause-narrow
add_two_split-requires-clause-narrow c = c.requires.narrow

pub add_two_words-requires-clause-out : goal.add_two_words-requires-clause-out
add_two_words-requires-clause-out c = c.requires.out
