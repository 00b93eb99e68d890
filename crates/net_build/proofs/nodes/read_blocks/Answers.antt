-- The lists are empty at first.
use Rattle.std.proofs.Common.{ap}
use Rattle.std.proofs.lemmas.Result.{IfOk-from_err}
use Rattle.first_fault.proofs.HandedOn.{hands_on}
use Rattle.maid_model.specs.Names.{list_of, lists_of}
use Rattle.net_build.specs.Lists.{numbers_of_lists}
use Rattle.net_build.specs.Passes.{build_fault}
use Rattle.net_build.specs.Table.{node_pass}
use Rattle.net_build.proofs.nodes.read_blocks.Goals as goal

pub add_blocks-requires-clause-blocks : goal.add_blocks-requires-clause-blocks
add_blocks-requires-clause-blocks c = c.requires

pub add_blocks-requires-clause-none : goal.add_blocks-requires-clause-none
add_blocks-requires-clause-none c =
    let names = c.new-names.ensures in
    let labels = ap lists_of c.new.ensures.items in
    let agents = ap list_of c.new-agents.ensures.items in
    let heads = c.new-2.ensures.items in
    let more = ap numbers_of_lists c.new-3.ensures.items in
    λ j. record { names = names j; labels = labels j; agents = agents j; heads = heads j; more = more j }

pub returns-in_err-add_blocks-clause-rows : goal.returns-in_err-add_blocks-clause-rows
returns-in_err-add_blocks-clause-rows c = hands_on build_fault (node_pass c.args.text.now c.args.blocks.now) _ _ c.from_residual.ensures c.in_err-add_blocks.ensures.rows

pub returns-in_err-add_blocks-clause-nodes : goal.returns-in_err-add_blocks-clause-nodes
returns-in_err-add_blocks-clause-nodes c = IfOk-from_err _ _ c.from_residual.ensures.0

pub returns-clause-rows : goal.returns-clause-rows
returns-clause-rows c = c.in_ok-add_blocks.ensures.rows

pub returns-clause-nodes : goal.returns-clause-nodes
returns-clause-nodes c = c.in_ok-add_blocks.ensures.nodes
