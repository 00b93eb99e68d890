use Rattle.std.proofs.Common.{◌≤◌, length, sym, ap, subst, arith}
use Rattle.std.proofs.lemmas.List.{length-map}
use Rattle.maid_model.specs.Nodes.{states_of}
use Rattle.maid_model.specs.Views.{DiagramView}
use Rattle.ring_sums.specs.Groups.{JoinFits}
use Rattle.ring_sums.specs.Tables.{sum_out}
use Rattle.ring_sums.proofs.Each.{each_of}
use Rattle.factor_core.specs.Slots.{table_of, tables_of, AppendsTable}
use Rattle.sum_tests.specs.Trials.{two_coins, IsSmallSlot}
use Rattle.sum_tests.proofs.SmallTables.{grows_of, join_fits, sum_small, below_of_slots}
use Rattle.sum_tests.proofs.tables.add_up.Goals as goal

pub join_out-requires-clause-fits : goal.join_out-requires-clause-fits
join_out-requires-clause-fits g c =
    let r = g.C.Cell.ring in
    let m = g.met.C.Cell in
    let cells = c.args.work.now.cells in
    let slots = c.args.slots.now in
    let e = ap (λ (d : DiagramView). d.nodes) c.requires.diagram in
    let few : length (tables_of r two_coins cells slots) ≤ 2 = omega (arith, c.requires.two, length-map slots (table_of r two_coins cells)) in
    let below = below_of_slots m.laws m.sizes 2401 (omega arith) cells slots (each_of (λ s. IsSmallSlot r cells s 2401) slots c.requires.small) in
    subst (λ ns. JoinFits r.size (states_of ns) r.most c.args.node (tables_of r ns cells slots)) (sym e)
    (join_fits m.laws m.sizes 2401 (omega arith) (tables_of r two_coins cells slots) few below c.args.node c.requires.node r.most (omega (arith, c.requires.most)))

pub returns : goal.returns
returns g c =
    let r = g.C.Cell.ring in
    let m = g.met.C.Cell in
    let cells = c.args.work.now.cells in
    let slots = c.args.slots.now in
    let e = ap (λ (d : DiagramView). d.nodes) c.requires.diagram in
    let few : length (tables_of r two_coins cells slots) ≤ 2 = omega (arith, c.requires.two, length-map slots (table_of r two_coins cells)) in
    let below = below_of_slots m.laws m.sizes 2401 (omega arith) cells slots (each_of (λ s. IsSmallSlot r cells s 2401) slots c.requires.small) in
    let made = subst (λ ns. AppendsTable r ns c.args.work.now c.join_out.new.self c.join_out.result (sum_out r (states_of ns) c.args.node (tables_of r ns cells slots))) e c.join_out.ensures in
    grows_of r c.args.work.now c.join_out.new.self c.join_out.result (sum_out r (states_of two_coins) c.args.node (tables_of r two_coins cells slots)) 11529602 made
    (λ w i. sum_small m.laws m.sizes 2401 (omega arith) (tables_of r two_coins cells slots) few below c.args.node c.requires.node w i)
