-- A tree in which the passes find nothing stands for the diagram that is made of its nodes, its
-- links and its tables.
use Rattle.std.proofs.Common.{ℕ, List, All, None}
use Rattle.net_parser.specs.Owned.{IsBlockOf}
use Rattle.net_parser.specs.Trees.{BlockTree}
use Rattle.weight_scale.specs.Laws.{DecimalOrNone, ScaledOrTooWide, ScaledIsTable}
use Rattle.net_build.specs.Blocks.{node_blocks}
use Rattle.net_build.specs.Building.{names_view}
use Rattle.net_build.specs.Laws.{HasDiagram}
use Rattle.net_build.specs.Stages.{TableLists, node_lists, link_lists, made_diagram}
use Rattle.net_build.specs.Table.{all_passes, wide_pass, utility_numbers, IsUtilityScale, wide_row}
use Rattle.first_fault.specs.Passes.{each}
use Rattle.net_build.proofs.Assembly.{made_is, made_stands, made_fit, made_form}
use Rattle.net_build.proofs.LinksMade.{links_made}
use Rattle.net_build.proofs.PlainTables.{stands_plain}
use Rattle.net_build.proofs.TablesMade.{few_decimals, tables_made}

-- the scale, and that no value is wide to it
narrow_scale : (text : List ℕ) (blocks : List BlockTree) → wide_pass text blocks None → (scale : ℕ) × IsUtilityScale text blocks scale × each (wide_row text scale) (utility_numbers text blocks) None
unfolding wide_pass
narrow_scale text blocks h = h

pub tree_stands : DecimalOrNone → ScaledOrTooWide → ScaledIsTable → (text : List ℕ) (blocks : List BlockTree) → All (IsBlockOf text) blocks → all_passes text blocks None → HasDiagram text blocks
unfolding all_passes
tree_stands decides scales table text blocks own (node_none, (potential_none, (missing_none, (graph_none, (size_none, (table_none, wide_none)))))) =
    let links = links_made text blocks potential_none graph_none size_none in
    let scaled = narrow_scale text blocks wide_none in
    let made = tables_made decides text blocks own node_none potential_none missing_none table_none scaled.0 scaled.1 scaled.2 scales table in
    let few = few_decimals decides text blocks own node_none potential_none missing_none table_none scaled.0 scaled.1 in
    let tables : TableLists = record { cells = made.0; decimals = scaled.0 } in
    let diagram = made_diagram (node_lists text (node_blocks blocks)) (link_lists text blocks) tables in
    let stands = made_stands text blocks tables own node_none links made.1 made.2 few scaled.1 in
    let within = made_is text blocks tables own node_none links made.1 made.2 few scaled.1 in
    record {
      diagram = diagram;
      names = names_view text blocks;
      stands = stands;
      within = within;
      fit = made_fit text blocks tables own node_none links made.1 made.2 few scaled.1;
      form = made_form text blocks tables own node_none links made.1 made.2 few scaled.1;
      plain = stands_plain text blocks own node_none potential_none diagram (names_view text blocks) stands within;
    }
