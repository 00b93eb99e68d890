-- The drafts, the scale of the utilities' numbers, and the finished cells.
use Rattle.std.proofs.Common.{None, refl, subst}
use Rattle.std.proofs.lemmas.Result.{IfOk-from_err}
use Rattle.first_fault.proofs.HandedOn.{hands_on}
use Rattle.net_build.specs.Passes.{build_fault}
use Rattle.net_build.specs.TableCalls.{tables_pass}
use Rattle.net_build.proofs.OutOfMemory.{out_of_memory}
use Rattle.net_build.specs.Lists.{cells_of_lists}
use Rattle.net_build.specs.TableParts.{AreDrafts, drafts_pass, values_in}
use Rattle.net_build.specs.Stages.{LinkLists}
use Rattle.net_build.proofs.TableEnd.{can_read_them}
use Rattle.net_build.proofs.TableLast.{table_refused, wide_refused, both_clear, scale_is, drafts_fit, cells_are, cells_fit}
use Rattle.net_build.proofs.tables.read_tables.Goals as goal

pub read_drafts-requires : goal.read_drafts-requires
read_drafts-requires c = can_read_them c.args.text.now c.args.syntax.now c.requires.blocks c.requires.node_rows c.requires.potential_rows c.requires.missing_rows c.args.nodes.now c.args.links.now c.requires.nodes c.requires.links c.requires.fit

pub returns-in_err-drafts-clause-rows : goal.returns-in_err-drafts-clause-rows
returns-in_err-drafts-clause-rows c =
    hands_on build_fault (tables_pass c.args.text.now c.args.syntax.now) _ _ c.from_residual.ensures
    (table_refused c.args.text.now c.args.syntax.now c.requires.blocks c.requires.node_rows c.requires.potential_rows c.args.nodes.now c.args.links.now c.requires.nodes c.requires.links c.in_err-drafts.field-0.0 c.in_err-drafts.ensures.rows)

pub returns-in_err-decimals-clause-rows : goal.returns-in_err-decimals-clause-rows
returns-in_err-decimals-clause-rows c =
    hands_on build_fault (tables_pass c.args.text.now c.args.syntax.now) _ _ c.from_residual-in_err-decimals.ensures
    (wide_refused c.args.text.now c.args.syntax.now c.requires.blocks c.requires.node_rows c.requires.potential_rows c.args.nodes.now c.args.links.now c.requires.nodes c.requires.links (values_in c.args.text.now c.args.nodes.now c.args.syntax.now) refl c.in_ok-drafts.ensures.rows c.in_err-decimals.field-0.0 c.in_err-decimals.ensures.rows)

pub utility_scale-requires-clause-table_rows : goal.utility_scale-requires-clause-table_rows
utility_scale-requires-clause-table_rows c = subst (λ (l : LinkLists). drafts_pass c.args.text.now c.args.nodes.now.heads l None) c.requires.links c.in_ok-drafts.ensures.rows

pub utility_scale-requires-clause-drafts : goal.utility_scale-requires-clause-drafts
utility_scale-requires-clause-drafts c = rw c.deref.ensures.value (subst (λ (l : LinkLists). AreDrafts c.args.text.now c.args.nodes.now.heads l c.in_ok-drafts.drafts.items) c.requires.links c.in_ok-drafts.ensures.drafts)

pub finish-requires-clause-fits : goal.finish-requires-clause-fits
finish-requires-clause-fits c = drafts_fit c.args.text.now c.args.syntax.now c.requires.blocks c.requires.node_rows c.requires.potential_rows c.args.nodes.now c.args.links.now c.requires.nodes c.requires.links (values_in c.args.text.now c.args.nodes.now c.args.syntax.now) refl c.in_ok-drafts.ensures.rows c.in_ok-decimals.decimals c.in_ok-decimals.ensures.scale c.in_ok-decimals.ensures.narrow c.in_ok-drafts.drafts.items c.in_ok-drafts.ensures.drafts

pub returns-clause-rows : goal.returns-clause-rows
returns-clause-rows c = both_clear c.args.text.now c.args.syntax.now c.requires.blocks c.requires.node_rows c.requires.potential_rows c.args.nodes.now c.args.links.now c.requires.nodes c.requires.links (values_in c.args.text.now c.args.nodes.now c.args.syntax.now) refl c.in_ok-drafts.ensures.rows c.in_ok-decimals.ensures.rows

pub returns-clause-scale : goal.returns-clause-scale
returns-clause-scale c = scale_is c.args.text.now c.args.syntax.now c.requires.blocks c.requires.node_rows c.requires.potential_rows c.args.nodes.now c.args.links.now c.requires.nodes c.requires.links (values_in c.args.text.now c.args.nodes.now c.args.syntax.now) refl c.in_ok-drafts.ensures.rows c.in_ok-decimals.decimals c.in_ok-decimals.ensures.scale

pub returns-clause-cells : goal.returns-clause-cells
returns-clause-cells c = cells_are c.args.text.now c.args.syntax.now c.requires.blocks c.requires.node_rows c.requires.potential_rows c.args.nodes.now c.args.links.now c.requires.nodes c.requires.links (values_in c.args.text.now c.args.nodes.now c.args.syntax.now) refl c.in_ok-drafts.ensures.rows c.in_ok-decimals.decimals c.in_ok-decimals.ensures.scale c.in_ok-decimals.ensures.narrow c.in_ok-drafts.drafts.items c.in_ok-drafts.ensures.drafts (cells_of_lists c.in_ok-cells.cells.items) c.in_ok-cells.ensures

pub returns-clause-fit : goal.returns-clause-fit
returns-clause-fit c = cells_fit c.args.text.now c.args.syntax.now c.requires.blocks c.requires.node_rows c.requires.potential_rows c.args.nodes.now c.args.links.now c.requires.nodes c.requires.links (values_in c.args.text.now c.args.nodes.now c.args.syntax.now) refl c.in_ok-drafts.ensures.rows c.in_ok-decimals.decimals c.in_ok-decimals.ensures.scale c.in_ok-decimals.ensures.narrow c.in_ok-drafts.drafts.items c.in_ok-drafts.ensures.drafts (cells_of_lists c.in_ok-cells.cells.items) c.in_ok-cells.ensures (can_read_them c.args.text.now c.args.syntax.now c.requires.blocks c.requires.node_rows c.requires.potential_rows c.requires.missing_rows c.args.nodes.now c.args.links.now c.requires.nodes c.requires.links c.requires.fit)

pub utility_scale-requires-clause-blocks : goal.utility_scale-requires-clause-blocks
utility_scale-requires-clause-blocks c = c.requires.blocks

pub utility_scale-requires-clause-nodes : goal.utility_scale-requires-clause-nodes
utility_scale-requires-clause-nodes c = c.requires.nodes

pub utility_scale-requires-clause-node_rows : goal.utility_scale-requires-clause-node_rows
utility_scale-requires-clause-node_rows c = c.requires.node_rows

pub utility_scale-requires-clause-potential_rows : goal.utility_scale-requires-clause-potential_rows
utility_scale-requires-clause-potential_rows c = c.requires.potential_rows

pub finish-requires-clause-few : goal.finish-requires-clause-few
finish-requires-clause-few c = c.in_ok-decimals.ensures.few

pub returns-in_err-cells-clause-rows : goal.returns-in_err-cells-clause-rows
returns-in_err-cells-clause-rows c = out_of_memory (tables_pass c.args.text.now c.args.syntax.now) _ c.from_residual-in_err-cells.ensures

pub returns-clause-few : goal.returns-clause-few
returns-clause-few c = c.in_ok-decimals.ensures.few

pub returns-in_err-drafts-clause-scale : goal.returns-in_err-drafts-clause-scale
returns-in_err-drafts-clause-scale c = IfOk-from_err _ _ c.from_residual.ensures.0

pub returns-in_err-drafts-clause-cells : goal.returns-in_err-drafts-clause-cells
returns-in_err-drafts-clause-cells c = IfOk-from_err _ _ c.from_residual.ensures.0

pub returns-in_err-drafts-clause-few : goal.returns-in_err-drafts-clause-few
returns-in_err-drafts-clause-few c = IfOk-from_err _ _ c.from_residual.ensures.0

pub returns-in_err-drafts-clause-fit : goal.returns-in_err-drafts-clause-fit
returns-in_err-drafts-clause-fit c = IfOk-from_err _ _ c.from_residual.ensures.0

pub returns-in_err-decimals-clause-scale : goal.returns-in_err-decimals-clause-scale
returns-in_err-decimals-clause-scale c = IfOk-from_err _ _ c.from_residual-in_err-decimals.ensures.0

pub returns-in_err-decimals-clause-cells : goal.returns-in_err-decimals-clause-cells
returns-in_err-decimals-clause-cells c = IfOk-from_err _ _ c.from_residual-in_err-decimals.ensures.0

pub returns-in_err-decimals-clause-few : goal.returns-in_err-decimals-clause-few
returns-in_err-decimals-clause-few c = IfOk-from_err _ _ c.from_residual-in_err-decimals.ensures.0

pub returns-in_err-decimals-clause-fit : goal.returns-in_err-decimals-clause-fit
returns-in_err-decimals-clause-fit c = IfOk-from_err _ _ c.from_residual-in_err-decimals.ensures.0

pub returns-in_err-cells-clause-scale : goal.returns-in_err-cells-clause-scale
returns-in_err-cells-clause-scale c = IfOk-from_err _ _ c.from_residual-in_err-cells.ensures.0

pub returns-in_err-cells-clause-cells : goal.returns-in_err-cells-clause-cells
returns-in_err-cells-clause-cells c = IfOk-from_err _ _ c.from_residual-in_err-cells.ensures.0

pub returns-in_err-cells-clause-few : goal.returns-in_err-cells-clause-few
returns-in_err-cells-clause-few c = IfOk-from_err _ _ c.from_residual-in_err-cells.ensures.0

pub returns-in_err-cells-clause-fit : goal.returns-in_err-cells-clause-fit
returns-in_err-cells-clause-fit c = IfOk-from_err _ _ c.from_residual-in_err-cells.ensures.0
