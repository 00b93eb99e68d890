use Rattle.std.proofs.Common.{◌≡◌, ◌∙◌, false, true, ap, sym, subst}
use Rattle.std.specs.Prelude.{Contains}
use Rattle.maid_model.specs.Accepted.{IsReliedFirst}
use Rattle.maid_model.specs.Views.{SolvedView}
use Rattle.tree_checker.proofs.FirstLines.{order_first}
use Rattle.tree_checker.proofs.LineLaws.{members_decided}
use Rattle.tree_checker.proofs.checking.check.Goals as goal

not_both : false ≡ true → ⊥
not_both e = cc

pub is_relied_first-requires-clause-decisions : goal.is_relied_first-requires-clause-decisions
is_relied_first-requires-clause-decisions c v m =
    members_decided c.args.diagram.now c.args.solved.now c.requires.fits v (subst (λ l. Contains l v) (c.deref.ensures.value ∙ ap (λ (x : SolvedView). x.order) c.solved.view_is) m)

pub returns-then-not-is_relied_first-clause-verdict : goal.returns-then-not-is_relied_first-clause-verdict
returns-then-not-is_relied_first-clause-verdict c =
    order_first c.args.diagram.now c.args.solved.now
    (λ right. not_both (sym c.if-not-is_relied_first.true ∙ c.is_relied_first.ensures.1 (subst (IsReliedFirst c.args.diagram.now.nodes) (sym (c.deref.ensures.value ∙ ap (λ (x : SolvedView). x.order) c.solved.view_is)) right)))

pub check_answers-requires-clause-order : goal.check_answers-requires-clause-order
check_answers-requires-clause-order c =
    subst (IsReliedFirst c.args.diagram.now.nodes) (c.deref.ensures.value ∙ ap (λ (x : SolvedView). x.order) c.solved.view_is) (c.is_relied_first.ensures.0 c.if-not-is_relied_first.false)
