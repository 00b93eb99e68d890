use Rattle.std.proofs.Common.{arith}
use Rattle.cell_rings.proofs.Together.{cells_are_factors, room_first, room_then, both_added}
use Rattle.factor_core.proofs.walks.add_four.Goals as goal

pub add_four_narrow-requires-clause-out : goal.add_four_narrow-requires-clause-out
add_four_narrow-requires-clause-out g c = c.requires.out

pub add_four_narrow-requires-clause-cells : goal.add_four_narrow-requires-clause-cells
add_four_narrow-requires-clause-cells g c = c.requires.cells

pub add_four_narrow-requires-clause-room : goal.add_four_narrow-requires-clause-room
add_four_narrow-requires-clause-room g c = c.requires.room

pub add_two_scaled-requires-clause-out : goal.add_two_scaled-requires-clause-out
add_two_scaled-requires-clause-out g c = c.requires.out

pub add_two_scaled-requires-clause-cells : goal.add_two_scaled-requires-clause-cells
add_two_scaled-requires-clause-cells g c = c.requires.cells.0

pub add_two_scaled-requires-clause-room : goal.add_two_scaled-requires-clause-room
add_two_scaled-requires-clause-room g c =
    let m = g.met.C.Cell in
    room_first (cells_are_factors m.laws m.sizes) c.args.cells.now c.args.one.now c.args.other.now c.args.n c.args.at c.requires.room

pub add_two_scaled-requires-else-has-clause-out : goal.add_two_scaled-requires-else-has-clause-out
add_two_scaled-requires-else-has-clause-out g c = omega (arith, c.requires.out, c.add_two_scaled.auto.out)

pub add_two_scaled-requires-else-has-clause-cells : goal.add_two_scaled-requires-else-has-clause-cells
add_two_scaled-requires-else-has-clause-cells g c = c.requires.cells.1

pub add_two_scaled-requires-else-has-clause-room : goal.add_two_scaled-requires-else-has-clause-room
add_two_scaled-requires-else-has-clause-room g c =
    let m = g.met.C.Cell in
    room_then (cells_are_factors m.laws m.sizes) c.args.cells.now c.args.one.now c.args.other.now c.args.n c.args.at c.requires.room c.add_two_scaled.ensures

pub returns-then-has-4 : goal.returns-then-has-4
returns-then-has-4 g c = c.add_four_narrow.ensures

pub returns-else-has : goal.returns-else-has
returns-else-has g c =
    let m = g.met.C.Cell in
    both_added (cells_are_factors m.laws m.sizes) c.args.cells.now c.args.one.now c.args.other.now c.args.n c.args.at c.add_two_scaled.ensures c.add_two_scaled-else-has.ensures
