use Rattle.app_forms.specs.Graph.{IsGraphText}
use Rattle.app_forms.proofs.Refusals.{text_given}
use Rattle.app_forms.proofs.forms.graph.answer.Goals as goal

-- the text is that of the diagram
pub returns-clause-ok : goal.returns-clause-ok
returns-clause-ok c = text_given c.args.diagram.now c.args.names.now IsGraphText c.in_ok-graph_text.field-0.items c.in_ok-graph_text.ensures
