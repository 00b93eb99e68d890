use Rattle.std.proofs.Common.{ap, subst, arith}
use Rattle.maid_model.specs.Views.{DiagramView}
use Rattle.node_sets.specs.Sets.{holds}
use Rattle.factor_core.specs.declared.slots.Slot.{Slot}
use Rattle.factor_core.specs.Slots.{IsLiveSlot, StaysLive}
use Rattle.sum_tests.proofs.SmallTables.{four_cells, turned_nodes, stays_small}
use Rattle.sum_tests.proofs.tables.turn.Goals as goal

pub reorder-strip-requires-clause-scope : goal.reorder-strip-requires-clause-scope
reorder-strip-requires-clause-scope g c = turned_nodes (holds c.args.slot.now.scope) c.requires.first c.requires.second c.requires.small.live.known

pub returns-clause-spare : goal.returns-clause-spare
returns-clause-spare g c =
    omega (arith, c.reorder-strip.ensures.appends.less, c.reorder-strip.ensures.len, c.requires.small.live.size, four_cells (holds c.args.slot.now.scope))

pub returns-clause-stays : goal.returns-clause-stays
returns-clause-stays g c =
    let e = ap (λ (d : DiagramView). d.nodes) c.requires.diagram in
    let r = g.C.Cell.ring in
    let before = c.args.work.now.cells in
    let after = c.reorder-strip.new.self.cells in
    stays_small r before after (subst (λ ns. (s : Slot) → IsLiveSlot ns before s → StaysLive r ns before after s) e c.reorder-strip.ensures.stays)
