-- A node block's rows find nothing, and its parts are added at the ends of the lists.
use Rattle.std.proofs.Common.{◌≡◌, ℕ, ◌<◌, List, All, map, length, get_or, ap, sym, ◌∙◌}
use Rattle.std.proofs.lemmas.Result.{err_from_is_err_and}
use Rattle.std.specs.Global.{Vec}
use Rattle.net_build.specs.Blocks.{is_node, node_blocks, title_at, block_name, names_of, block_labels, block_states, agents_of}
use Rattle.maid_model.specs.Names.{list_of}
use Rattle.net_build.specs.Stages.{NodeLists, first_owner, more_owners, head_of}
use Rattle.net_build.specs.Table.{node_pass}
use Rattle.net_parser.specs.Owned.{IsBlockOf}
use Rattle.net_parser.specs.Trees.{BlockTree}
use Rattle.net_build.proofs.NodeLemmas.{rows_behind, is_node_block, front_more, front_pushed, entry_new, head_is, first_is, others_are, agents_up_to, owners_up_to, nodes_done, node_is_named}
use Rattle.first_fault.proofs.Leading.{after_skip, after_step, after_refused, after_end, filter_front_no}
use Rattle.net_build.proofs.nodes.add_blocks.Goals as goal
use Rattle.net_build.proofs.nodes.add_blocks.Goals.{then-is_node+in_ok-entry+in_ok-enter, else-is_node}

-- the block at the place is one of the text
own : (text : List ℕ) (blocks : List BlockTree) (i : ℕ) (b : BlockTree) → All (IsBlockOf text) blocks → i < length blocks → b ≡ get_or blocks i b → IsBlockOf text b
own text blocks i b all h is = rw is (all i b h)

pub loop-block-init : goal.loop-block-init
unfolding node_pass
loop-block-init c = record {
  lead = λ outcome h. h;
  names = ap (λ (n : NodeLists). n.names) c.requires.none;
  labels = ap (λ (n : NodeLists). n.labels) c.requires.none;
  agents = ap (λ (n : NodeLists). n.agents) c.requires.none;
  heads = ap (λ (n : NodeLists). n.heads) c.requires.none;
  more = ap (λ (n : NodeLists). n.more) c.requires.none;
}

pub read_entry-requires-clause-own : goal.read_entry-requires-clause-own
read_entry-requires-clause-own c = own c.args.text.now c.args.blocks.now c.loop-block.block-index c.block-item.result c.requires.blocks c.loop-block-test.true c.block-item.is

pub read_entry-requires-clause-named : goal.read_entry-requires-clause-named
read_entry-requires-clause-named c = node_is_named c.block-item.result.kind _
    (ap (λ (b : BlockTree). is_node b.kind) (sym c.block.view_is) ∙ sym c.is_node.ensures ∙ c.if-is_node.true)
    (own c.args.text.now c.args.blocks.now c.loop-block.block-index c.block-item.result c.requires.blocks c.loop-block-test.true c.block-item.is).count

pub returns-in_err-entry-clause-rows : goal.returns-in_err-entry-clause-rows
returns-in_err-entry-clause-rows c =
    let p = err_from_is_err_and c.from_residual.result c.from_residual.ensures.1 in
    rw (p.1, p.2) (after_refused (rows_behind c.args.text.now) is_node_block c.args.blocks.now (node_pass c.args.text.now c.args.blocks.now) c.loop-block.block-index c.block-item.result _ c.loop-block-test.true c.block-item.is
    (ap (λ (b : BlockTree). is_node b.kind) (sym c.block.view_is) ∙ sym c.is_node.ensures ∙ c.if-is_node.true)
    c.loop-block.invariant.lead
    (rw (c.loop-block.invariant.names, c.loop-block.invariant.agents) at c.in_err-entry.ensures.rows))

pub enter-requires : goal.enter-requires
enter-requires c has = entry_new c.args.text.now _ _ c.block-item.result c.in_ok-entry.ensures.rows (rw c.in_ok-entry.ensures.entry.name at has)

pub returns-clause-rows : goal.returns-clause-rows
returns-clause-rows c = after_end (rows_behind c.args.text.now) is_node_block c.args.blocks.now (node_pass c.args.text.now c.args.blocks.now) c.loop-block.block-index c.loop-block-test.false c.loop-block.invariant.lead

pub returns-clause-nodes : goal.returns-clause-nodes
returns-clause-nodes c =
    let done = nodes_done c.args.blocks.now c.loop-block.block-index c.loop-block-test.false in
    let names = c.loop-block.invariant.names ∙ ap (names_of c.args.text.now) done in
    let labels = c.loop-block.invariant.labels ∙ ap (map (block_labels c.args.text.now)) done in
    let agents = c.loop-block.invariant.agents ∙ ap (agents_of c.args.text.now) done in
    let heads = c.loop-block.invariant.heads ∙ ap (map (head_of c.args.text.now (node_blocks c.args.blocks.now))) done in
    let more = c.loop-block.invariant.more ∙ ap (map (more_owners c.args.text.now (node_blocks c.args.blocks.now))) done in
    λ j. record { names = names j; labels = labels j; agents = agents j; heads = heads j; more = more j }

pub loop-block-preserved : goal.loop-block-preserved
loop-block-preserved c = elim c.if-is_node.branch [
  | then-is_node+in_ok-entry+in_ok-enter w ↦
      let text = c.args.text.now in
      let blocks = c.args.blocks.now in
      let b = c.block-item.result in
      let i = c.loop-block.block-index in
      let kept = ap (λ (b : BlockTree). is_node b.kind) (sym c.block.view_is) ∙ sym c.is_node.ensures ∙ w.if-is_node.true in
      let owners = w.in_ok-entry.ensures.entry.owners ∙ owners_up_to text blocks i b _ _ c.loop-block-test.true c.block-item.is kept c.loop-block.invariant.agents w.in_ok-entry.ensures.agents in
      record {
        lead = after_step (rows_behind text) is_node_block blocks (node_pass text blocks) i b c.loop-block-test.true c.block-item.is kept c.loop-block.invariant.lead
            (rw (c.loop-block.invariant.names, c.loop-block.invariant.agents) at w.in_ok-entry.ensures.rows);
        names = rw w.names-is (front_more (block_name text) is_node_block blocks i b c.loop-block.names _ w.in_ok-entry.entry.name.items c.loop-block-test.true c.block-item.is kept c.loop-block.invariant.names w.in_ok-enter.ensures.names w.in_ok-entry.ensures.entry.name);
        labels = rw w.columns-is (front_pushed (λ (v : Vec (Vec ℕ)). list_of v.items) (block_labels text) is_node_block blocks i b c.loop-block.columns.labels.items _ w.in_ok-entry.entry.labels c.loop-block-test.true c.block-item.is kept c.loop-block.invariant.labels w.in_ok-enter.ensures.columns.labels w.in_ok-entry.ensures.entry.labels);
        agents = rw w.agents-is (agents_up_to text blocks i b _ _ c.loop-block-test.true c.block-item.is kept c.loop-block.invariant.agents w.in_ok-entry.ensures.agents);
        heads = rw w.columns-is (front_more (head_of text (node_blocks blocks)) is_node_block blocks i b c.loop-block.columns.heads.items _ w.in_ok-entry.entry.head c.loop-block-test.true c.block-item.is kept c.loop-block.invariant.heads w.in_ok-enter.ensures.columns.heads
            (head_is w.in_ok-entry.entry.head (title_at b) (first_owner text (node_blocks blocks) b) (block_states text b) b w.in_ok-entry.ensures.entry.at w.in_ok-entry.ensures.entry.kind
            (first_is _ _ _ owners)
            w.in_ok-entry.ensures.entry.states));
        more = rw w.columns-is (front_pushed (λ (v : Vec ℕ). v.items) (more_owners text (node_blocks blocks)) is_node_block blocks i b c.loop-block.columns.more.items _ w.in_ok-entry.entry.more c.loop-block-test.true c.block-item.is kept c.loop-block.invariant.more w.in_ok-enter.ensures.columns.more
            (others_are _ _ _ owners));
      }
  | else-is_node w ↦
      let text = c.args.text.now in
      let blocks = c.args.blocks.now in
      let i = c.loop-block.block-index in
      let left = ap (λ (b : BlockTree). is_node b.kind) (sym c.block.view_is) ∙ sym c.is_node.ensures ∙ w.if-is_node.false in
      let front = sym (filter_front_no is_node_block blocks i c.block-item.result c.loop-block-test.true c.block-item.is left) in
      record {
        lead = after_skip (rows_behind text) is_node_block blocks (node_pass text blocks) i c.block-item.result c.loop-block-test.true c.block-item.is left c.loop-block.invariant.lead;
        names = rw w.names-is (c.loop-block.invariant.names ∙ ap (names_of text) front);
        labels = rw w.columns-is (c.loop-block.invariant.labels ∙ ap (map (block_labels text)) front);
        agents = rw w.agents-is (c.loop-block.invariant.agents ∙ ap (agents_of text) front);
        heads = rw w.columns-is (c.loop-block.invariant.heads ∙ ap (map (head_of text (node_blocks blocks))) front);
        more = rw w.columns-is (c.loop-block.invariant.more ∙ ap (map (more_owners text (node_blocks blocks))) front);
      }
]
