use Rattle.std.proofs.Common.{[], ◌∷◌, ap, subst, arith}
use Rattle.maid_model.specs.Nodes.{states_of}
use Rattle.maid_model.specs.Views.{DiagramView}
use Rattle.ring_sums.specs.Tables.{sum_out}
use Rattle.factor_core.specs.Slots.{table_of, AppendsTable}
use Rattle.sum_tests.specs.Trials.{two_coins}
use Rattle.sum_tests.proofs.SmallTables.{grows_of, sum_small}
use Rattle.sum_tests.proofs.tables.sum_one.Goals as goal

pub returns : goal.returns
returns g c =
    let r = g.C.Cell.ring in
    let m = g.met.C.Cell in
    let e = ap (λ (d : DiagramView). d.nodes) c.requires.diagram in
    let t = table_of r two_coins c.args.work.now.cells c.args.slot.now in
    let made = subst (λ ns. AppendsTable r ns c.args.work.now c.sum_out.new.self c.sum_out.result (sum_out r (states_of ns) c.args.node (table_of r ns c.args.work.now.cells c.args.slot.now ∷ []))) e c.sum_out.ensures in
    grows_of r c.args.work.now c.sum_out.new.self c.sum_out.result (sum_out r (states_of two_coins) c.args.node (t ∷ [])) 11529602 made
    (λ w i. sum_small m.laws m.sizes 2401 (omega arith) (t ∷ []) (omega arith) (c.requires.small.sizes, tt) c.args.node c.requires.node w i)
