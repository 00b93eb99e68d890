use Rattle.std.proofs.Common.{◌∙◌, ◌+◌, [], ◌∷◌, ◌++◌, cond, Vec, Global, subst, sym}
use Rattle.std.proofs.lemmas.List.{append-nil, map-append}
use Rattle.std.proofs.lemmas.List.Elements.{All-push}
use Rattle.maid_model.specs.Nodes.{is_decision, node_at}
use Rattle.relevance_graph.specs.declared.searches.KeptSearch.{KeptSearch}
use Rattle.relevance_graph.specs.Kept.{IsKeptSearch}
use Rattle.finite_sums.proofs.Ranges.{filter_more}
use Rattle.relevance_graph.proofs.searches.keep_searches.Invariants.{KeepsSoFar}
use Rattle.relevance_graph.proofs.searches.keep_searches.Goals as goal
use Rattle.relevance_graph.proofs.searches.keep_searches.Goals.{then-is_decision+in_ok-push, else-is_decision}

-- the search for one node more, where it is a decision
pub loop-decision-preserved : goal.loop-decision-preserved
loop-decision-preserved c =
    let nodes = c.args.diagram.now.nodes in
    let v = c.loop-decision.decision in
    let so_far : KeepsSoFar nodes v c.loop-decision.kept.items = c.loop-decision.invariant in
    elim c.if-is_decision.branch [
      | then-is_decision+in_ok-push w ↦
          subst (λ (list : Vec KeptSearch Global). KeepsSoFar nodes (v + 1) list.items) (sym w.kept-is)
          (subst (KeepsSoFar nodes (v + 1)) (sym w.in_ok-push.ensures.items) (record {
            decisions = map-append (λ (k : KeptSearch). k.decision) c.loop-decision.kept.items _ ∙ (λ i. so_far.decisions i ++ cond ((sym w.if-is_decision.true ∙ c.is_decision.ensures.kind) i) (v ∷ []) []) ∙ sym (filter_more (λ u. is_decision (node_at nodes u).kind) v);
            all = All-push (IsKeptSearch nodes) c.loop-decision.kept.items _ so_far.all (record { decision = c.is_decision.ensures.decision.0 w.if-is_decision.true; marks = w.reach_from_goals-marks.ensures.parents });
          }))
      | else-is_decision w ↦
          subst (λ (list : Vec KeptSearch Global). KeepsSoFar nodes (v + 1) list.items) (sym w.kept-is) (record {
            decisions = sym (append-nil _) ∙ (λ i. so_far.decisions i ++ cond ((sym w.if-is_decision.false ∙ c.is_decision.ensures.kind) i) (v ∷ []) []) ∙ sym (filter_more (λ u. is_decision (node_at nodes u).kind) v);
            all = so_far.all;
          })
    ]
