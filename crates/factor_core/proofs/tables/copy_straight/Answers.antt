use Rattle.std.proofs.Common.{◌≡◌, ◌∙◌, ◌+◌, ◌-◌, ◌*◌, ◌++◌, take, length, sym, ap, arith}
use Rattle.factor_core.specs.Copies.{gathered, count_of_steps, steps_in, list_stride}
use Rattle.factor_core.specs.Tables.{states_in}
use Rattle.factor_core.proofs.Copying.{count_is}
use Rattle.factor_core.proofs.Reordering.{once_of}
use Rattle.factor_core.proofs.Straight.{run, straight, rows_some, can_run}
use Rattle.factor_core.proofs.tables.copy_straight.Goals as goal

pub copy_from-requires-clause-can : goal.copy_from-requires-clause-can
copy_from-requires-clause-can g c =
    let counts = c.args.counts.now in
    let list = c.args.list.now in
    let r = g.C.Cell.ring in
    let cells = g.S.Source.cells c.args.source.now in
    can_run (g.S.Source.is_fit c.args.source.now) c.requires.fit (length cells) c.rows_after.result (length c.args.all.now - c.args.at)
    (omega (arith, rows_some r cells (states_in counts) c.requires.counts.some list, c.rows_after.ensures))
    (c.rows_after.ensures ∙ sym c.requires.cells)
    (omega (arith, c.requires.cells, c.requires.fits))
    (omega (arith, c.rows_after.ensures, c.requires.room))

pub returns : goal.returns
returns g c =
    let counts = c.args.counts.now in
    let list = c.args.list.now in
    let r = g.C.Cell.ring in
    let cells = g.S.Source.cells c.args.source.now in
    let count = states_in counts in
    let stride = list_stride count list in
    let rows : count_of_steps (steps_in counts list list) ≡ c.rows_after.result * 1 = omega (arith, count_is r count stride list, c.rows_after.ensures) in
    let same : run r cells c.rows_after.result 0 ≡ gathered r cells (steps_in counts list list) 0 = ap (λ k. run r cells k 0) c.rows_after.ensures ∙ sym (straight r cells count list 0 (once_of list c.requires.once)) in
    ap (λ k. take (c.args.at + k) c.copy_from.new.all) rows
    ∙ c.copy_from.ensures
    ∙ ap (λ l. take c.args.at c.args.all.now ++ l) same
