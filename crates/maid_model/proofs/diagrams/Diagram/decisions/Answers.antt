use Rattle.std.proofs.Common.{◌∙◌, ℕ, ◌++◌, [], ◌∷◌, cond, Vec, Global, sym, ap}
use Rattle.std.proofs.lemmas.List.{append-nil}
use Rattle.maid_model.specs.Nodes.{is_decision, node_at}
use Rattle.finite_sums.proofs.Ranges.{filter_more}
use Rattle.maid_model.proofs.diagrams.Diagram.decisions.Goals.{then-is_decision+in_ok-push, else-is_decision}
use Rattle.maid_model.proofs.diagrams.Diagram.decisions.Goals as goal

-- one more node, where it is a decision
pub loop-v-preserved : goal.loop-v-preserved
loop-v-preserved c =
    let v = c.loop-v.v in
    let more = filter_more (λ u. is_decision (node_at c.args.self.now.nodes u).kind) v in
    elim c.if-is_decision.branch [
      | then-is_decision+in_ok-push w ↦
          let is = sym c.is_decision.ensures.kind ∙ w.if-is_decision.true in
          ap (λ (l : Vec ℕ Global). l.items) w.decisions-is ∙ w.in_ok-push.ensures.items ∙ (λ i. c.loop-v.invariant i ++ cond (sym is i) (v ∷ []) []) ∙ sym more
      | else-is_decision w ↦
          let is = sym c.is_decision.ensures.kind ∙ w.if-is_decision.false in
          ap (λ (l : Vec ℕ Global). l.items) w.decisions-is ∙ sym (append-nil c.loop-v.decisions.items) ∙ (λ i. c.loop-v.invariant i ++ cond (sym is i) (v ∷ []) []) ∙ sym more
    ]
