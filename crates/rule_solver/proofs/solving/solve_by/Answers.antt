use Rattle.std.proofs.Common.{◌≡◌, ◌∙◌, sym, subst, ap}
use Rattle.maid_model.specs.Answers.{FitsAnswers, IsAnswer, pure_profile}
use Rattle.rule_solver.proofs.AnswerLemmas.{answers_fit, is_answer}
use Rattle.rule_solver.specs.Rooms.{AreReady}
use Rattle.size_precheck.specs.Decisions.{ArePlans}
use Rattle.size_precheck.specs.Sizes.{ArePlansOfWorths}
use Rattle.rule_solver.proofs.solving.solve_by.Goals as goal

pub expected_along-requires-clause-profile : goal.expected_along-requires-clause-profile
expected_along-requires-clause-profile c =
    let d = c.args.diagram.now in
    c.in_ok-profile.ensures.profile (subst (FitsAnswers d.nodes) (sym c.deref-2.ensures.value) (answers_fit d.nodes d.decimals c.args.order.now c.in_ok-answers.answers.items c.requires.order c.in_ok-answers.ensures.answers))

pub returns-clause-ok : goal.returns-clause-ok
returns-clause-ok c =
    let d = c.args.diagram.now in
    let pure : c.in_ok-profile.profile ≡ pure_profile d.nodes c.in_ok-answers.answers.items = c.in_ok-profile.ensures.rules ∙ ap (pure_profile d.nodes) c.deref-2.ensures.value in
    subst (λ order. IsAnswer d (record { order = order; answers = c.in_ok-answers.answers.items; gains = c.in_ok-gains.gains.items })) (sym c.in_ok-from_slice.ensures.items)
    (is_answer d c.in_ok-profile.profile c.args.order.now c.in_ok-answers.answers.items c.in_ok-gains.gains.items pure c.requires.order c.in_ok-answers.ensures.answers c.in_ok-gains.ensures.gains)

pub answer_all-requires-clause-bound : goal.answer_all-requires-clause-bound
answer_all-requires-clause-bound c = c.requires.bound

pub answer_all-requires-clause-relevance : goal.answer_all-requires-clause-relevance
answer_all-requires-clause-relevance c = c.requires.relevance

pub answer_all-requires-clause-order : goal.answer_all-requires-clause-order
answer_all-requires-clause-order c = c.requires.order

pub answer_all-requires-clause-planned : goal.answer_all-requires-clause-planned
answer_all-requires-clause-planned c = subst (ArePlans c.args.diagram.now.nodes c.args.order.now) (sym c.deref.ensures.value) c.requires.plans

pub answer_all-requires-clause-ready : goal.answer_all-requires-clause-ready
answer_all-requires-clause-ready c = (c.requires.ready.0, c.requires.ready.1, c.requires.ready.2.decisions)

pub expected_along-requires-clause-bound : goal.expected_along-requires-clause-bound
expected_along-requires-clause-bound c = c.requires.bound

pub expected_along-requires-clause-planned : goal.expected_along-requires-clause-planned
expected_along-requires-clause-planned c = subst (ArePlansOfWorths c.args.diagram.now.nodes) (sym c.deref-3.ensures.value) c.requires.worths

pub expected_along-requires-clause-ready : goal.expected_along-requires-clause-ready
expected_along-requires-clause-ready c =
    (c.requires.ready.0, subst (AreReady c.requires.ready.0) (sym c.in_ok-answers.ensures.again) c.requires.ready.1, c.requires.ready.2.worths)

pub returns-clause-again : goal.returns-clause-again
returns-clause-again c = c.in_ok-gains.ensures.again ∙ c.in_ok-answers.ensures.again
