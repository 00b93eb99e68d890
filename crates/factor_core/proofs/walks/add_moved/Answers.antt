use Rattle.std.proofs.Common.{arith}
use Rattle.factor_core.proofs.MovedRuns.{moved_read, moved_adds, moved_load, moved_in_out, moved_in_cells}
use Rattle.factor_core.proofs.walks.add_moved.Goals as goal

pub read_run-run-requires : goal.read_run-run-requires
read_run-run-requires g c =
    let m = g.met.C.Cell in
    moved_read m.laws m.sizes c.requires.can c.args.turned c.requires.moved

pub add_scaled-requires-clause-out : goal.add_scaled-requires-clause-out
add_scaled-requires-clause-out g c =
    let m = g.met.C.Cell in
    moved_in_out m.laws m.sizes c.requires.can c.args.turned c.requires.moved

pub add_scaled-requires-clause-cells : goal.add_scaled-requires-clause-cells
add_scaled-requires-clause-cells g c =
    let m = g.met.C.Cell in
    moved_in_cells m.laws m.sizes c.requires.can c.args.turned c.requires.moved c.read_run-run.result.factor c.read_run-run.result.from c.read_run-run.ensures

pub add_scaled-requires-clause-room : goal.add_scaled-requires-clause-room
add_scaled-requires-clause-room g c =
    let m = g.met.C.Cell in
    record {
      each = λ p. omega (arith, c.requires.can.room.each p, moved_load m.laws m.sizes c.requires.can c.args.turned c.requires.moved c.read_run-run.result.factor c.read_run-run.result.from c.read_run-run.ensures p);
    }

pub returns : goal.returns
returns g c =
    let m = g.met.C.Cell in
    moved_adds m.laws m.sizes c.requires.can c.args.turned c.requires.moved c.read_run-run.result.factor c.read_run-run.result.from c.read_run-run.ensures c.add_scaled.ensures
