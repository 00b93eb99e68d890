use Rattle.std.proofs.Common.{◌∙◌, ◌≤◌, length, sym, ap, subst, arith}
use Rattle.std.proofs.lemmas.List.{length-map}
use Rattle.maid_model.specs.Nodes.{states_of}
use Rattle.maid_model.specs.Views.{DiagramView}
use Rattle.ring_sums.specs.Groups.{ProductsFit}
use Rattle.ring_sums.proofs.Each.{each_of}
use Rattle.factor_core.specs.Operations.{product_table}
use Rattle.factor_core.specs.Slots.{table_of, tables_of, AppendsTable}
use Rattle.sum_tests.specs.Trials.{two_coins, IsSmallSlot}
use Rattle.factor_core.proofs.Conditions.{united_is}
use Rattle.sum_tests.proofs.SmallTables.{grows_of, products_fit, product_small, below_of_slots}
use Rattle.sum_tests.proofs.tables.multiply.Goals as goal

pub product-requires-clause-fits : goal.product-requires-clause-fits
product-requires-clause-fits g c =
    let r = g.C.Cell.ring in
    let m = g.met.C.Cell in
    let cells = c.args.work.now.cells in
    let slots = c.args.slots.now in
    let e = ap (λ (d : DiagramView). d.nodes) c.requires.diagram in
    let few : length (tables_of r two_coins cells slots) ≤ 2 = omega (arith, c.requires.two, length-map slots (table_of r two_coins cells)) in
    let below = below_of_slots m.laws m.sizes 49 (omega arith) cells slots (each_of (λ s. IsSmallSlot r cells s 49) slots c.requires.small) in
    subst (λ ns. ProductsFit r.size (states_of ns) r.most (tables_of r ns cells slots)) (sym e)
    (products_fit m.laws m.sizes 49 (omega arith) (tables_of r two_coins cells slots) few below r.most (omega (arith, c.requires.most)))

pub returns-clause-grows : goal.returns-clause-grows
returns-clause-grows g c =
    let r = g.C.Cell.ring in
    let m = g.met.C.Cell in
    let cells = c.args.work.now.cells in
    let slots = c.args.slots.now in
    let e = ap (λ (d : DiagramView). d.nodes) c.requires.diagram in
    let few : length (tables_of r two_coins cells slots) ≤ 2 = omega (arith, c.requires.two, length-map slots (table_of r two_coins cells)) in
    let below = below_of_slots m.laws m.sizes 49 (omega arith) cells slots (each_of (λ s. IsSmallSlot r cells s 49) slots c.requires.small) in
    let made = subst (λ ns. AppendsTable r ns c.args.work.now c.product.new.self c.product.result (product_table r (tables_of r ns cells slots))) e c.product.ensures in
    grows_of r c.args.work.now c.product.new.self c.product.result (product_table r (tables_of r two_coins cells slots)) 2401 made
    (λ w i. product_small m.laws m.sizes 49 (omega arith) (tables_of r two_coins cells slots) few below w i)

pub returns-clause-own : goal.returns-clause-own
returns-clause-own g c = λ v t.
    let m = g.met.C.Cell in
    c.product.ensures.table.holds v ∙ sym (united_is m.laws m.sizes c.args.diagram.now.nodes c.args.work.now.cells c.args.slots.now v) ∙ t
