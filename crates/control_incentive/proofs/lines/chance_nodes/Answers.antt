use Rattle.std.proofs.Common.{◌∙◌, ℕ, ◌++◌, [], ◌∷◌, cond, Vec, Global, sym, ap}
use Rattle.std.proofs.lemmas.List.{append-nil}
use Rattle.maid_model.specs.Nodes.{is_chance, node_at}
use Rattle.finite_sums.proofs.Ranges.{filter_more}
use Rattle.control_incentive.proofs.lines.chance_nodes.Goals.{then-is_chance+in_ok-push, else-is_chance}
use Rattle.control_incentive.proofs.lines.chance_nodes.Goals as goal

-- one more node, where it is a chance node
pub loop-v-preserved : goal.loop-v-preserved
loop-v-preserved c =
    let v = c.loop-v.v in
    let more = filter_more (λ u. is_chance (node_at c.args.diagram.now.nodes u).kind) v in
    elim c.if-is_chance.branch [
      | then-is_chance+in_ok-push w ↦
          let is = sym c.is_chance.ensures ∙ w.if-is_chance.true in
          ap (λ (l : Vec ℕ Global). l.items) w.nodes-is ∙ w.in_ok-push.ensures.items ∙ (λ i. c.loop-v.invariant i ++ cond (sym is i) (v ∷ []) []) ∙ sym more
      | else-is_chance w ↦
          let is = sym c.is_chance.ensures ∙ w.if-is_chance.false in
          ap (λ (l : Vec ℕ Global). l.items) w.nodes-is ∙ sym (append-nil c.loop-v.nodes.items) ∙ (λ i. c.loop-v.invariant i ++ cond (sym is i) (v ∷ []) []) ∙ sym more
    ]
