use Rattle.std.proofs.Common.{◌≡◌, ◌<◌, ◌++◌, ◌∙◌, ℕ, List, length, All, ap, subst, sym, arith}
use Rattle.maid_model.specs.Answers.{FitsAnswer}
use Rattle.maid_model.specs.Views.{SolvedView}
use Rattle.report_text.proofs.Parents.{order_named}
use Rattle.report_text.proofs.report.print_report.Goals as goal

pub push_order-requires : goal.push_order-requires
push_order-requires c =
    let same : c.deref.result.now ≡ c.args.solved.now.order = c.deref.ensures.value ∙ ap (λ (s : SolvedView). s.order) c.solved.view_is in
    subst (λ list. All (λ v. v < length c.args.names.now.nodes) list) (sym same) (order_named c.args.diagram.now c.args.names.now c.args.solved.now c.requires.names c.requires.solved)

pub push_decisions-requires-clause-answers : goal.push_decisions-requires-clause-answers
push_decisions-requires-clause-answers c =
    let same : c.deref-2.result.now ≡ c.args.solved.now.answers = c.deref-2.ensures.value ∙ ap (λ (s : SolvedView). s.answers) c.solved.view_is in
    subst (λ list. All (FitsAnswer c.args.diagram.now.nodes) list) (sym same) c.requires.solved.answers

pub push_gains-requires : goal.push_gains-requires
push_gains-requires c =
    let same : c.deref-3.result.now ≡ c.args.solved.now.gains = c.deref-3.ensures.value ∙ ap (λ (s : SolvedView). s.gains) c.solved.view_is in
    omega (arith, ap length same, c.requires.solved.gains, c.requires.names.agents)

-- the pieces, each behind those before
glued : (title order decisions gains a b c d : List ℕ) → a ≡ title → b ≡ a ++ order → c ≡ b ++ decisions → d ≡ c ++ gains → d ≡ ((title ++ order) ++ decisions) ++ gains
glued title order decisions gains a b c d p q r s = s ∙ ap (λ x. x ++ gains) (r ∙ ap (λ x. x ++ decisions) (q ∙ ap (λ x. x ++ order) p))

pub returns : goal.returns
returns c =
    let order = rw c.deref.ensures.value at c.in_ok-push_order.ensures in
    let decisions = rw c.deref-2.ensures.value at c.in_ok-push_decisions.ensures in
    let gains = rw c.deref-3.ensures.value at c.in_ok-push_gains.ensures in
    rw (← c.solved.view_is) (glued _ _ _ _ _ _ _ _ c.in_ok-out.ensures.items order decisions gains)
