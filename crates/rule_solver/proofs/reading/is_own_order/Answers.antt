-- The list is its front and then its last node.
use Rattle.std.proofs.Common.{◌≡◌, ◌∙◌, ◌++◌, ◌∷◌, [], ap, sym}
use Rattle.rule_solver.proofs.Ends.{parts_same}
use Rattle.rule_solver.proofs.reading.is_own_order.Goals as goal

pub returns-then-last-decision : goal.returns-then-last-decision
returns-then-last-decision c =
    let d = c.args.decision in
    let front = c.in-Some.front.now in
    let own : c.args.list.now ≡ front ++ d ∷ [] = c.in-Some.ensures.cases.0 ∙ (λ i. front ++ c.if-last-decision.true i ∷ []) in
    ((λ t. own ∙ ap (λ us. us ++ d ∷ []) (c.is_same.ensures.0 t)), (λ e. c.is_same.ensures.1 (parts_same front c.args.parents.now d d (sym own ∙ e)).0))
