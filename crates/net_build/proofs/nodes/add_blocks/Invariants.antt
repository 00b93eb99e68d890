use Rattle.std.proofs.Common.{◌≡◌, map, take}
use Rattle.net_build.specs.Blocks.{is_node, node_blocks, names_of, block_labels, agents_of}
use Rattle.maid_model.specs.Names.{list_of, lists_of}
use Rattle.net_build.specs.Lists.{numbers_of_lists}
use Rattle.net_build.specs.Stages.{head_of, more_owners}
use Rattle.net_build.specs.Table.{node_rows, node_pass}
use Rattle.first_fault.proofs.Leading.{Leads, AfterPass}
use Rattle.net_build.proofs.nodes.add_blocks.Given as goal

-- the blocks still to come find what the whole pass finds, and the lists are those of the blocks
-- before
abbrev pub invariant-loop-block : goal.invariant-loop-block
invariant-loop-block l = record {
  lead : Leads (AfterPass (λ earlier b. node_rows l.text (names_of l.text earlier) (agents_of l.text earlier) b) (λ b. is_node b.kind) l.blocks l.block-index) (node_pass l.text l.blocks);
  names : l.names ≡ names_of l.text (node_blocks (take l.block-index l.blocks));
  labels : lists_of l.columns.labels.items ≡ map (block_labels l.text) (node_blocks (take l.block-index l.blocks));
  agents : list_of l.agents.items ≡ agents_of l.text (node_blocks (take l.block-index l.blocks));
  heads : l.columns.heads.items ≡ map (head_of l.text (node_blocks l.blocks)) (node_blocks (take l.block-index l.blocks));
  more : numbers_of_lists l.columns.more.items ≡ map (more_owners l.text (node_blocks l.blocks)) (node_blocks (take l.block-index l.blocks));
}
