use Rattle.std.proofs.Common.{◌<◌, ◌∙◌, All, length, sym, subst, ap}
use Rattle.app_forms.proofs.Sights.{order_known}
use Rattle.app_forms.proofs.forms.given.given_text.Goals as goal

-- the order has decisions alone
pub given_front-requires-clause-order : goal.given_front-requires-clause-order
given_front-requires-clause-order c =
    let d = c.args.conditioned.now.diagram in
    let solved = c.args.conditioned.now.solved in
    let order = c.deref.ensures.value ∙ ap (λ s. s.order) c.solved.view_is in
    subst (λ n. All (λ v. v < n) c.deref.result.now) (sym c.requires.fit.nodes) (subst (All (λ v. v < length d.nodes)) (sym order) (order_known d solved c.requires.answers))
