use Rattle.std.proofs.Common.{◌≡◌, ◌++◌, rules}
use Rattle.net_print.specs.Printed.{node_line}
use Rattle.net_print.proofs.Steps.{lines_next}
use Rattle.net_print.proofs.blocks.push_blocks.Goals as goal

pub loop-node-preserved : goal.loop-node-preserved
loop-node-preserved c =
    let text = node_line c.args.diagram.now.nodes c.args.names.now in
    let step : c.push_block.new.out.items ≡ c.loop-node.out.items ++ text c.loop-node.node = search rules in
    lines_next text c.loop-node.node c.loop-node.out.items c.push_block.new.out.items c.args.out.now.items step c.loop-node.invariant
