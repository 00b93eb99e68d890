-- The parts of a block's rows, one after the other.
use Rattle.net_lexer.specs.declared.tokens.Token.{Token}
use Rattle.maid_model.specs.Names.{list_of}
use Rattle.std.proofs.Common.{ap, ◌∙◌}
use Rattle.net_build.specs.Blocks.{kind_of}
use Rattle.net_build.specs.Passes.{build_fault}
use Rattle.net_build.specs.Table.{node_rows}
use Rattle.net_parser.specs.Trees.{BlockTree}
use Rattle.first_fault.proofs.HandedOn.{hands_on}
use Rattle.net_build.proofs.OutOfMemory.{out_of_memory}
use Rattle.std.proofs.lemmas.Result.{IfOk-from_err}
use Rattle.net_build.proofs.NodeLemmas.{entry_name, entry_labels, entry_owner, entry_good}
use Rattle.net_build.proofs.nodes.read_entry.Goals as goal

pub read_name-requires-clause-own : goal.read_name-requires-clause-own
read_name-requires-clause-own c = c.requires.own

pub read_name-requires-clause-named : goal.read_name-requires-clause-named
read_name-requires-clause-named c = c.requires.named

pub node_labels-requires : goal.node_labels-requires
node_labels-requires c = c.requires.own

pub read_owners-requires-clause-own : goal.read_owners-requires-clause-own
read_owners-requires-clause-own c = c.requires.own

pub read_owners-requires-clause-named : goal.read_owners-requires-clause-named
read_owners-requires-clause-named c = c.requires.named

pub state_count-requires : goal.state_count-requires
state_count-requires c = ap list_of c.deref.ensures.value ∙ c.in_ok-labels.ensures.labels

pub returns-in_err-name-clause-rows : goal.returns-in_err-name-clause-rows
returns-in_err-name-clause-rows c = hands_on build_fault (node_rows c.args.text.now c.args.names.now (list_of c.args.agents.now.items) c.args.block.now) _ _ c.from_residual.ensures (entry_name c.args.text.now _ _ c.args.block.now _ c.in_err-name.ensures.rows)

pub returns-in_err-labels-clause-rows : goal.returns-in_err-labels-clause-rows
returns-in_err-labels-clause-rows c = hands_on build_fault (node_rows c.args.text.now c.args.names.now (list_of c.args.agents.now.items) c.args.block.now) _ _ c.from_residual-in_err-labels.ensures (entry_labels c.args.text.now _ _ c.args.block.now _ c.in_ok-name.ensures.rows c.in_err-labels.ensures.rows)

pub returns-in_err-owners-clause-rows : goal.returns-in_err-owners-clause-rows
returns-in_err-owners-clause-rows c = hands_on build_fault (node_rows c.args.text.now c.args.names.now (list_of c.args.agents.now.items) c.args.block.now) _ _ c.from_residual-in_err-owners.ensures (entry_owner c.args.text.now _ _ c.args.block.now _ c.in_ok-name.ensures.rows c.in_ok-labels.ensures.rows c.in_err-owners.ensures.rows)

pub returns-in_err-from_slice-clause-rows : goal.returns-in_err-from_slice-clause-rows
returns-in_err-from_slice-clause-rows c = out_of_memory (node_rows c.args.text.now c.args.names.now (list_of c.args.agents.now.items) c.args.block.now) _ c.from_residual-in_err-from_slice.ensures

pub returns-clause-rows : goal.returns-clause-rows
returns-clause-rows c = entry_good c.args.text.now _ _ c.args.block.now c.in_ok-name.ensures.rows c.in_ok-labels.ensures.rows c.in_ok-owners.ensures.rows

pub returns-clause-agents : goal.returns-clause-agents
returns-clause-agents c = c.in_ok-owners.ensures.agents

pub returns-clause-entry : goal.returns-clause-entry
returns-clause-entry c = record {
  name = c.in_ok-from_slice.ensures.items ∙ c.in_ok-name.ensures.name;
  labels = c.in_ok-labels.ensures.labels;
  at = ap (λ (t : Token). t.start) c.title.ensures;
  kind = c.kind_of.ensures ∙ ap (λ (b : BlockTree). kind_of b.kind) c.block.view_is;
  states = c.state_count.ensures;
  owners = c.in_ok-owners.ensures.owners;
}

pub returns-in_err-name-clause-agents : goal.returns-in_err-name-clause-agents
returns-in_err-name-clause-agents c = IfOk-from_err _ _ c.from_residual.ensures.0

pub returns-in_err-name-clause-entry : goal.returns-in_err-name-clause-entry
returns-in_err-name-clause-entry c = IfOk-from_err _ _ c.from_residual.ensures.0

pub returns-in_err-labels-clause-agents : goal.returns-in_err-labels-clause-agents
returns-in_err-labels-clause-agents c = IfOk-from_err _ _ c.from_residual-in_err-labels.ensures.0

pub returns-in_err-labels-clause-entry : goal.returns-in_err-labels-clause-entry
returns-in_err-labels-clause-entry c = IfOk-from_err _ _ c.from_residual-in_err-labels.ensures.0

pub returns-in_err-owners-clause-agents : goal.returns-in_err-owners-clause-agents
returns-in_err-owners-clause-agents c = IfOk-from_err _ _ c.from_residual-in_err-owners.ensures.0

pub returns-in_err-owners-clause-entry : goal.returns-in_err-owners-clause-entry
returns-in_err-owners-clause-entry c = IfOk-from_err _ _ c.from_residual-in_err-owners.ensures.0

pub returns-in_err-from_slice-clause-agents : goal.returns-in_err-from_slice-clause-agents
returns-in_err-from_slice-clause-agents c = IfOk-from_err _ _ c.from_residual-in_err-from_slice.ensures.0

pub returns-in_err-from_slice-clause-entry : goal.returns-in_err-from_slice-clause-entry
returns-in_err-from_slice-clause-entry c = IfOk-from_err _ _ c.from_residual-in_err-from_slice.ensures.0
