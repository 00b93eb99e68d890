use Rattle.std.proofs.Common.{◌≡◌, ◌∙◌, sym, subst, ap, arith}
use Rattle.maid_model.specs.Answers.{FitsAnswers, pure_profile}
use Rattle.rule_solver.specs.declared.spaces.Workspaces.{Workspaces}
use Rattle.rule_solver.specs.Rooms.{AreLeft, AreReady}
use Rattle.rule_solver.proofs.ChoiceLemmas.{chosen_fit, is_optimum}
use Rattle.rule_solver.proofs.MadeRooms.{more_rooms}
use Rattle.size_precheck.specs.Decisions.{ArePlans}
use Rattle.size_precheck.specs.Sizes.{ArePlansOfWorths}
use Rattle.rule_solver.proofs.optima.optimum_along.Goals as goal

pub expected_for-requires-clause-profile : goal.expected_for-requires-clause-profile
expected_for-requires-clause-profile c =
    let d = c.args.diagram.now in
    c.in_ok-profile.ensures.profile (subst (FitsAnswers d.nodes) (sym c.deref-2.ensures.value) (chosen_fit d.nodes c.args.order.now c.in_ok-answers.answers.items c.requires.order c.in_ok-answers.ensures.answers))

-- more room than the run asks for is room
pub choose_all-requires-clause-ready : goal.choose_all-requires-clause-ready
choose_all-requires-clause-ready c = (
  c.in_ok-spaces.spaces.cells,
  c.in_ok-spaces.ensures.ready,
  (more_rooms c.args.diagram.now.nodes c.args.run.now.size.cells c.in_ok-spaces.spaces.cells c.in_ok-spaces.ensures.room c.requires.room).decisions,
)

pub expected_for-requires-clause-ready : goal.expected_for-requires-clause-ready
expected_for-requires-clause-ready c = (
  c.in_ok-spaces.spaces.cells,
  subst (AreReady c.in_ok-spaces.spaces.cells) (sym c.in_ok-answers.ensures.again) c.in_ok-spaces.ensures.ready,
  (more_rooms c.args.diagram.now.nodes c.args.run.now.size.cells c.in_ok-spaces.spaces.cells c.in_ok-spaces.ensures.room c.requires.room).worths,
)

pub returns-clause-left : goal.returns-clause-left
returns-clause-left c = subst (λ (spaces : Workspaces). AreReady spaces.cells spaces) (sym (c.in_ok-optimum.ensures.again ∙ c.in_ok-answers.ensures.again)) c.in_ok-spaces.ensures.ready

pub returns-clause-optimum : goal.returns-clause-optimum
returns-clause-optimum c =
    let d = c.args.diagram.now in
    let is = c.count-count.ensures.diagram in
    let pure : c.in_ok-profile.profile ≡ pure_profile d.nodes c.in_ok-answers.answers.items = c.in_ok-profile.ensures.rules ∙ ap (pure_profile d.nodes) c.deref-2.ensures.value in
    is_optimum d c.args.agent c.in_ok-profile.profile c.args.order.now c.in_ok-answers.answers.items c.in_ok-optimum.optimum is.graph is.tables c.answers_are_best.ensures.choices c.exchange.ensures.law c.one_agent.ensures.law c.requires.alone pure c.requires.order c.in_ok-answers.ensures.answers c.in_ok-optimum.ensures.worth

pub overflow_cast-cells : goal.overflow_cast-cells
overflow_cast-cells c = omega (arith, c.requires.limit)

pub choose_all-requires-clause-bound : goal.choose_all-requires-clause-bound
choose_all-requires-clause-bound c = c.requires.bound

pub choose_all-requires-clause-relevance : goal.choose_all-requires-clause-relevance
choose_all-requires-clause-relevance c = c.requires.relevance

pub choose_all-requires-clause-order : goal.choose_all-requires-clause-order
choose_all-requires-clause-order c = c.requires.order

pub choose_all-requires-clause-planned : goal.choose_all-requires-clause-planned
choose_all-requires-clause-planned c = subst (ArePlans c.args.diagram.now.nodes c.args.order.now) (sym c.deref.ensures.value) c.requires.plans

pub expected_for-requires-clause-agent : goal.expected_for-requires-clause-agent
expected_for-requires-clause-agent c = c.requires.within

pub expected_for-requires-clause-bound : goal.expected_for-requires-clause-bound
expected_for-requires-clause-bound c = c.requires.bound

pub expected_for-requires-clause-planned : goal.expected_for-requires-clause-planned
expected_for-requires-clause-planned c = subst (ArePlansOfWorths c.args.diagram.now.nodes) (sym c.deref-3.ensures.value) c.requires.worths

pub with_room-requires-clause-limit : goal.with_room-requires-clause-limit
with_room-requires-clause-limit c = c.requires.limit

pub with_room-requires-clause-left : goal.with_room-requires-clause-left
with_room-requires-clause-left c = subst AreLeft (sym c.take.ensures.value) c.requires.left

pub returns-in_err-spaces-clause-left : goal.returns-in_err-spaces-clause-left
returns-in_err-spaces-clause-left c = rw c.take.ensures.after tt

pub returns-in_err-answers-clause-left : goal.returns-in_err-answers-clause-left
returns-in_err-answers-clause-left c = rw c.take.ensures.after tt

pub returns-in_err-profile-clause-left : goal.returns-in_err-profile-clause-left
returns-in_err-profile-clause-left c = rw c.take.ensures.after tt

pub expected_for-requires-clause-pure : goal.expected_for-requires-clause-pure
expected_for-requires-clause-pure c = c.in_ok-profile.ensures.total

pub returns-in_err-optimum-clause-left : goal.returns-in_err-optimum-clause-left
returns-in_err-optimum-clause-left c = rw c.take.ensures.after tt
