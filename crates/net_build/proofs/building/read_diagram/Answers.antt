-- The links and then the tables find nothing, and what they say makes the diagram.
use Rattle.std.proofs.Common.{sym, ◌∙◌, subst}
use Rattle.std.proofs.lemmas.List.{length-map}
use Rattle.std.proofs.lemmas.Result.{IfOk-from_err}
use Rattle.first_fault.proofs.HandedOn.{hands_on}
use Rattle.net_build.specs.Blocks.{node_blocks, block_name, block_parents}
use Rattle.net_build.specs.Building.{IsDiagramOfTree, names_view}
use Rattle.net_build.specs.Passes.{build_fault}
use Rattle.net_build.specs.Stages.{node_lists, link_lists, head_of, more_owners, made_diagram}
use Rattle.net_build.specs.TableCalls.{passes_behind_nodes}
use Rattle.net_build.proofs.AllPasses.{links_refused, values_refused, diagram_clear}
use Rattle.net_build.proofs.Assembly.{made_is, made_stands, made_fit, made_form}
use Rattle.net_build.proofs.OutOfMemory.{out_of_memory}
use Rattle.net_build.proofs.PlainTables.{stands_plain}
use Rattle.net_build.proofs.building.read_diagram.Goals as goal

pub read_links-requires-clause-blocks : goal.read_links-requires-clause-blocks
read_links-requires-clause-blocks c = c.requires.blocks

pub read_links-requires-clause-nodes : goal.read_links-requires-clause-nodes
read_links-requires-clause-nodes c = c.requires.nodes

pub read_links-requires-clause-rows : goal.read_links-requires-clause-rows
read_links-requires-clause-rows c = c.requires.rows

pub returns-in_err-links-clause-rows : goal.returns-in_err-links-clause-rows
returns-in_err-links-clause-rows c = hands_on build_fault (passes_behind_nodes c.args.text.now c.args.syntax.now) _ _ c.from_residual.ensures (links_refused c.args.text.now c.args.syntax.now _ c.in_err-links.ensures.rows)

pub returns-in_err-links-clause-diagram : goal.returns-in_err-links-clause-diagram
returns-in_err-links-clause-diagram c = IfOk-from_err _ _ c.from_residual.ensures.0

pub read_tables-requires-clause-blocks : goal.read_tables-requires-clause-blocks
read_tables-requires-clause-blocks c = c.requires.blocks

pub read_tables-requires-clause-nodes : goal.read_tables-requires-clause-nodes
read_tables-requires-clause-nodes c = c.requires.nodes

pub read_tables-requires-clause-links : goal.read_tables-requires-clause-links
read_tables-requires-clause-links c = c.in_ok-links.ensures.links

pub read_tables-requires-clause-fit : goal.read_tables-requires-clause-fit
read_tables-requires-clause-fit c = c.in_ok-links.ensures.fit

pub read_tables-requires-clause-node_rows : goal.read_tables-requires-clause-node_rows
read_tables-requires-clause-node_rows c = c.requires.rows

pub read_tables-requires-clause-potential_rows : goal.read_tables-requires-clause-potential_rows
read_tables-requires-clause-potential_rows c = c.in_ok-links.ensures.rows.0

pub read_tables-requires-clause-missing_rows : goal.read_tables-requires-clause-missing_rows
read_tables-requires-clause-missing_rows c = c.in_ok-links.ensures.rows.1.0

pub returns-in_err-tables-clause-rows : goal.returns-in_err-tables-clause-rows
returns-in_err-tables-clause-rows c = hands_on build_fault (passes_behind_nodes c.args.text.now c.args.syntax.now) _ _ c.from_residual-in_err-tables.ensures (values_refused c.args.text.now c.args.syntax.now _ c.in_ok-links.ensures.rows c.in_err-tables.ensures.rows)

pub returns-in_err-tables-clause-diagram : goal.returns-in_err-tables-clause-diagram
returns-in_err-tables-clause-diagram c = IfOk-from_err _ _ c.from_residual-in_err-tables.ensures.0

pub make_diagram-requires-clause-more : goal.make_diagram-requires-clause-more
make_diagram-requires-clause-more c =
    let nodes = node_blocks c.args.syntax.now in
    rw c.requires.nodes (length-map nodes (more_owners c.args.text.now nodes) ∙ sym (length-map nodes (head_of c.args.text.now nodes)))

pub make_diagram-requires-clause-parents : goal.make_diagram-requires-clause-parents
make_diagram-requires-clause-parents c =
    let text = c.args.text.now in
    let nodes = node_blocks c.args.syntax.now in
    rw (c.requires.nodes, c.in_ok-links.ensures.links) (length-map nodes (λ b. block_parents text c.args.syntax.now (block_name text b)) ∙ sym (length-map nodes (head_of text nodes)))

pub make_diagram-requires-clause-tables : goal.make_diagram-requires-clause-tables
make_diagram-requires-clause-tables c =
    let nodes = node_blocks c.args.syntax.now in
    rw c.requires.nodes (c.in_ok-tables.ensures.cells.len ∙ sym (length-map nodes (head_of c.args.text.now nodes)))

pub make_diagram-requires-clause-diagram : goal.make_diagram-requires-clause-diagram
make_diagram-requires-clause-diagram c =
    rw (c.requires.nodes, c.in_ok-links.ensures.links)
    (made_is c.args.text.now c.args.syntax.now c.in_ok-tables.tables c.requires.blocks c.requires.rows
    (rw (c.requires.nodes, c.in_ok-links.ensures.links) at c.in_ok-links.ensures.fit)
    c.in_ok-tables.ensures.cells
    (rw (c.requires.nodes, c.in_ok-links.ensures.links) at c.in_ok-tables.ensures.fit)
    c.in_ok-tables.ensures.few c.in_ok-tables.ensures.scale)

pub returns-in_err-make_diagram-clause-rows : goal.returns-in_err-make_diagram-clause-rows
returns-in_err-make_diagram-clause-rows c = out_of_memory (passes_behind_nodes c.args.text.now c.args.syntax.now) _ c.from_residual-in_err-make_diagram.ensures

pub returns-in_err-make_diagram-clause-diagram : goal.returns-in_err-make_diagram-clause-diagram
returns-in_err-make_diagram-clause-diagram c = IfOk-from_err _ _ c.from_residual-in_err-make_diagram.ensures.0

pub returns-clause-rows : goal.returns-clause-rows
returns-clause-rows c = diagram_clear c.args.text.now c.args.syntax.now c.in_ok-links.ensures.rows c.in_ok-tables.ensures.rows

pub returns-clause-diagram : goal.returns-clause-diagram
returns-clause-diagram c =
    let text = c.args.text.now in
    let tree = c.args.syntax.now in
    let tables = c.in_ok-tables.tables in
    let own = c.requires.blocks in
    let rows = c.requires.rows in
    let links = rw (c.requires.nodes, c.in_ok-links.ensures.links) at c.in_ok-links.ensures.fit in
    let are = c.in_ok-tables.ensures.cells in
    let fit = rw (c.requires.nodes, c.in_ok-links.ensures.links) at c.in_ok-tables.ensures.fit in
    let few = c.in_ok-tables.ensures.few in
    let scale = c.in_ok-tables.ensures.scale in
    let made = made_diagram (node_lists text (node_blocks tree)) (link_lists text tree) tables in
    let stands = made_stands text tree tables own rows links are fit few scale in
    let within = made_is text tree tables own rows links are fit few scale in
    subst (IsDiagramOfTree text tree)
    (sym (c.in_ok-make_diagram.ensures ∙ (λ j. made_diagram (c.requires.nodes j) (c.in_ok-links.ensures.links j) tables)))
    (record {
      stands = stands;
      within = within;
      fit = made_fit text tree tables own rows links are fit few scale;
      form = made_form text tree tables own rows links are fit few scale;
      plain = stands_plain text tree own rows c.in_ok-links.ensures.rows.0 made (names_view text tree) stands within;
    })
