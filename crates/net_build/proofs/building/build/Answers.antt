-- The nodes find nothing, and then nothing behind them.
use Rattle.std.proofs.Common.{ap, sym, ◌∙◌, subst}
use Rattle.std.proofs.lemmas.Result.{IfOk-from_err}
use Rattle.first_fault.proofs.HandedOn.{hands_on}
use Rattle.maid_model.specs.Names.{NamesView, NamesFit}
use Rattle.net_build.specs.Building.{StandsFor}
use Rattle.net_build.specs.Form.{HasTextForm}
use Rattle.net_build.specs.NodeCalls.{names_from}
use Rattle.net_build.specs.Passes.{build_fault}
use Rattle.net_build.specs.Table.{all_passes}
use Rattle.net_build.proofs.AllPasses.{nodes_refused, diagram_refused, all_clear}
use Rattle.net_build.proofs.OutOfMemory.{out_of_memory}
use Rattle.net_build.proofs.building.build.Goals as goal

pub read_nodes-requires : goal.read_nodes-requires
read_nodes-requires c = c.blocks_stand_in_their_text.ensures.blocks c.args.text.now c.args.tokens.now c.args.syntax.now c.requires.tokens c.requires.tree

pub read_diagram-requires-clause-blocks : goal.read_diagram-requires-clause-blocks
read_diagram-requires-clause-blocks c = c.blocks_stand_in_their_text.ensures.blocks c.args.text.now c.args.tokens.now c.args.syntax.now c.requires.tokens c.requires.tree

pub read_diagram-requires-clause-nodes : goal.read_diagram-requires-clause-nodes
read_diagram-requires-clause-nodes c = c.in_ok-nodes.ensures.nodes

pub read_diagram-requires-clause-rows : goal.read_diagram-requires-clause-rows
read_diagram-requires-clause-rows c = c.in_ok-nodes.ensures.rows

pub returns-in_err-nodes-clause-rows : goal.returns-in_err-nodes-clause-rows
returns-in_err-nodes-clause-rows c = hands_on build_fault (all_passes c.args.text.now c.args.syntax.now) _ _ c.from_residual.ensures (nodes_refused c.args.text.now c.args.syntax.now _ c.in_err-nodes.ensures.rows)

pub returns-in_err-diagram-clause-rows : goal.returns-in_err-diagram-clause-rows
returns-in_err-diagram-clause-rows c = hands_on build_fault (all_passes c.args.text.now c.args.syntax.now) _ _ c.from_residual-in_err-diagram.ensures (diagram_refused c.args.text.now c.args.syntax.now _ c.in_ok-nodes.ensures.rows c.in_err-diagram.ensures.rows)

pub returns-in_err-names-clause-rows : goal.returns-in_err-names-clause-rows
returns-in_err-names-clause-rows c = out_of_memory (all_passes c.args.text.now c.args.syntax.now) _ c.from_residual-in_err-names.ensures

pub returns-clause-rows : goal.returns-clause-rows
returns-clause-rows c = all_clear c.args.text.now c.args.syntax.now c.in_ok-nodes.ensures.rows c.in_ok-diagram.ensures.rows

pub returns-clause-stands : goal.returns-clause-stands
returns-clause-stands c =
    subst (λ (n : NamesView). StandsFor c.args.text.now c.args.syntax.now c.in_ok-diagram.diagram n)
    (sym (c.in_ok-names.ensures ∙ ap names_from c.in_ok-nodes.ensures.nodes)) c.in_ok-diagram.ensures.diagram.stands

pub returns-clause-diagram : goal.returns-clause-diagram
returns-clause-diagram c = c.in_ok-diagram.ensures.diagram.within

pub returns-clause-fit : goal.returns-clause-fit
returns-clause-fit c =
    subst (λ (n : NamesView). NamesFit c.in_ok-diagram.diagram n)
    (sym (c.in_ok-names.ensures ∙ ap names_from c.in_ok-nodes.ensures.nodes)) c.in_ok-diagram.ensures.diagram.fit

pub returns-clause-form : goal.returns-clause-form
returns-clause-form c =
    subst (λ (n : NamesView). HasTextForm c.in_ok-diagram.diagram n)
    (sym (c.in_ok-names.ensures ∙ ap names_from c.in_ok-nodes.ensures.nodes)) c.in_ok-diagram.ensures.diagram.form

pub returns-clause-plain : goal.returns-clause-plain
returns-clause-plain c = c.in_ok-diagram.ensures.diagram.plain

pub returns-in_err-nodes-clause-stands : goal.returns-in_err-nodes-clause-stands
returns-in_err-nodes-clause-stands c = IfOk-from_err _ _ c.from_residual.ensures.0

pub returns-in_err-nodes-clause-diagram : goal.returns-in_err-nodes-clause-diagram
returns-in_err-nodes-clause-diagram c = IfOk-from_err _ _ c.from_residual.ensures.0

pub returns-in_err-nodes-clause-fit : goal.returns-in_err-nodes-clause-fit
returns-in_err-nodes-clause-fit c = IfOk-from_err _ _ c.from_residual.ensures.0

pub returns-in_err-nodes-clause-form : goal.returns-in_err-nodes-clause-form
returns-in_err-nodes-clause-form c = IfOk-from_err _ _ c.from_residual.ensures.0

pub returns-in_err-nodes-clause-plain : goal.returns-in_err-nodes-clause-plain
returns-in_err-nodes-clause-plain c = IfOk-from_err _ _ c.from_residual.ensures.0

pub returns-in_err-diagram-clause-stands : goal.returns-in_err-diagram-clause-stands
returns-in_err-diagram-clause-stands c = IfOk-from_err _ _ c.from_residual-in_err-diagram.ensures.0

pub returns-in_err-diagram-clause-diagram : goal.returns-in_err-diagram-clause-diagram
returns-in_err-diagram-clause-diagram c = IfOk-from_err _ _ c.from_residual-in_err-diagram.ensures.0

pub returns-in_err-diagram-clause-fit : goal.returns-in_err-diagram-clause-fit
returns-in_err-diagram-clause-fit c = IfOk-from_err _ _ c.from_residual-in_err-diagram.ensures.0

pub returns-in_err-diagram-clause-form : goal.returns-in_err-diagram-clause-form
returns-in_err-diagram-clause-form c = IfOk-from_err _ _ c.from_residual-in_err-diagram.ensures.0

pub returns-in_err-diagram-clause-plain : goal.returns-in_err-diagram-clause-plain
returns-in_err-diagram-clause-plain c = IfOk-from_err _ _ c.from_residual-in_err-diagram.ensures.0

pub returns-in_err-names-clause-stands : goal.returns-in_err-names-clause-stands
returns-in_err-names-clause-stands c = IfOk-from_err _ _ c.from_residual-in_err-names.ensures.0

pub returns-in_err-names-clause-diagram : goal.returns-in_err-names-clause-diagram
returns-in_err-names-clause-diagram c = IfOk-from_err _ _ c.from_residual-in_err-names.ensures.0

pub returns-in_err-names-clause-fit : goal.returns-in_err-names-clause-fit
returns-in_err-names-clause-fit c = IfOk-from_err _ _ c.from_residual-in_err-names.ensures.0

pub returns-in_err-names-clause-form : goal.returns-in_err-names-clause-form
returns-in_err-names-clause-form c = IfOk-from_err _ _ c.from_residual-in_err-names.ensures.0

pub returns-in_err-names-clause-plain : goal.returns-in_err-names-clause-plain
returns-in_err-names-clause-plain c = IfOk-from_err _ _ c.from_residual-in_err-names.ensures.0
