use Rattle.std.proofs.Common.{◌<◌, sym, ap, subst}
use Rattle.finite_sums.specs.Sums.{with_state}
use Rattle.finite_sums.proofs.Sums.{with_in}
use Rattle.maid_model.specs.Nodes.{states_of}
use Rattle.maid_model.specs.Views.{DiagramView}
use Rattle.factor_core.specs.Operations.{restricted}
use Rattle.factor_core.specs.Slots.{table_of, AppendsTable}
use Rattle.sum_tests.specs.Trials.{two_coins}
use Rattle.sum_tests.proofs.SmallTables.{grows_of, two_states}
use Rattle.sum_tests.proofs.tables.keep_state.Goals as goal

pub returns : goal.returns
returns g c =
    let r = g.C.Cell.ring in
    let cells = c.args.work.now.cells in
    let slot = c.args.slot.now in
    let v = c.args.node in
    let e = ap (λ (d : DiagramView). d.nodes) c.requires.diagram in
    let made = subst (λ ns. AppendsTable r ns c.args.work.now c.restrict.new.self c.restrict.result (restricted v c.args.state (table_of r ns cells slot))) e c.restrict.ensures in
    let within = subst (λ n. c.args.state < n) (sym (two_states v c.requires.node)) c.requires.state in
    grows_of r c.args.work.now c.restrict.new.self c.restrict.result (restricted v c.args.state (table_of r two_coins cells slot)) 2401 made
    (λ w i. c.requires.small.sizes (with_state w v c.args.state) (with_in (states_of two_coins) w v c.args.state i within))
