use Rattle.std.proofs.Common.{◌∙◌, ◌++◌, ap, flat_map}
use Rattle.maid_model.specs.Nodes.{decisions_of}
use Rattle.relevance_graph.specs.Views.{relied_on_by}
use Rattle.app_forms.specs.Graph.{relies_line}
use Rattle.app_forms.proofs.forms.graph.graph_text.Goals as goal

-- the lines of the decisions, and the last line behind them
pub returns : goal.returns
returns c =
    let view = c.args.relevance.now in
    let lines = flat_map (λ v. relies_line c.args.names.now v (relied_on_by view v)) (decisions_of c.args.diagram.now.nodes) in
    record {
      relied_on = λ v. relied_on_by view v;
      lists = λ v is. record { each = λ e. c.requires.relevance.pairs v e; rising = c.requires.relevance.rising v };
      last = c.in_ok-last_line.field-0.items;
      is_last = c.in_ok-last_line.ensures;
      is = c.in_ok-extend_from_slice.ensures.items ∙ ap (λ xs. c.push_decisions.new.out.items ++ xs) c.deref.ensures.value
          ∙ ap (λ xs. xs ++ c.in_ok-last_line.field-0.items) (c.in_ok-push_decisions.ensures ∙ ap (λ xs. xs ++ lines) c.new-out.ensures.items);
    }
