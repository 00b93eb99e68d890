use Rattle.cell_rings.proofs.Together.{cells_are_factors, room_first, room_then, both_added}
use Rattle.cell_rings.proofs.cells.Cell.add_four_narrow.Goals as goal

pub add_two_narrow-requires-clause-room : goal.add_two_narrow-requires-clause-room
add_two_narrow-requires-clause-room g c =
    let m = g.met.Self.Cell in
    room_first (cells_are_factors m.laws m.sizes) c.args.cells.now c.args.one.now c.args.other.now c.args.n c.args.at c.requires.room

pub add_two_narrow-requires-2-clause-room : goal.add_two_narrow-requires-2-clause-room
add_two_narrow-requires-2-clause-room g c =
    let m = g.met.Self.Cell in
    room_then (cells_are_factors m.laws m.sizes) c.args.cells.now c.args.one.now c.args.other.now c.args.n c.args.at c.requires.room c.add_two_narrow.ensures

pub returns : goal.returns
returns g c =
    let m = g.met.Self.Cell in
    both_added (cells_are_factors m.laws m.sizes) c.args.cells.now c.args.one.now c.args.other.now c.args.n c.args.at c.add_two_narrow.ensures c.add_two_narrow-2.ensures
