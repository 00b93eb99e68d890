use Rattle.std.proofs.Common.{rules, arith, ◌≡◌, [], ◌<◌, length, ◌∙◌, ◌+◌, Contains, refl, sym, subst, take, slice_index, ℕ, List}
use Rattle.maid_model.specs.Answers.{IsBase, pure_profile}
use Rattle.maid_model.specs.Graph.{AllDifferent}
use Rattle.rule_solver.specs.Answered.{AnswersAll}
use Rattle.rule_solver.specs.Bases.{IsTurningBase}
use Rattle.rule_solver.specs.Rooms.{AreReady}
use Rattle.std.proofs.lemmas.Slice.Zip.{AllZip-long}
use Rattle.size_precheck.specs.Decisions.{AreDecisionPlans}
use Rattle.rule_solver.proofs.GoalPlans.{zip_at}
use Rattle.rule_solver.proofs.AnswerLemmas.{answers-none, answers-push-all}
use Rattle.rule_solver.proofs.BaseTurns.{turning_more}
use Rattle.rule_solver.proofs.Orders.{first_differ, placed_decision, relied_before}
use Rattle.std.proofs.lemmas.List.{take_all}
use Rattle.rule_solver.proofs.answering.answer_all.Goals as goal

-- a decision of the order relies on answered decisions alone
pub turn-requires : goal.turn-requires
turn-requires c =
    let nodes = c.args.diagram.now.nodes in
    let order = c.args.order.now in
    let so : AnswersAll nodes c.args.diagram.now.decimals (take c.loop-place.place order) c.deref.result.now = subst (AnswersAll nodes c.args.diagram.now.decimals (take c.loop-place.place order)) (sym c.deref.ensures.value) c.loop-place.invariant.0 in
    record {
      decision = placed_decision nodes order c.requires.order c.loop-place.place c.loop-place-test.true;
      relevance = c.requires.relevance;
      fits = so.fits;
      once = subst AllDifferent (sym so.follow) (first_differ nodes order c.requires.order c.loop-place.place);
      relied = λ e r. subst (λ l. Contains l e) (sym so.follow) (relied_before nodes order c.requires.order c.loop-place.place c.loop-place-test.true e r);
      turning = subst (λ l. IsTurningBase nodes l c.loop-place.base) (sym c.deref.ensures.value) c.loop-place.invariant.2;
    }

pub loop-place-init : goal.loop-place-init
loop-place-init c =
    let nodes = c.args.diagram.now.nodes in
    let none : c.in_ok-answers.answers.items ≡ [] = c.in_ok-answers.ensures.items in (
      subst (AnswersAll nodes c.args.diagram.now.decimals (take 0 c.args.order.now)) (sym none) (answers-none nodes c.args.diagram.now.decimals c.args.order.now),
      refl,
      subst (λ l. IsTurningBase nodes l c.in_ok-base.base) (sym none) c.in_ok-base.ensures,
    )

pub answer_decision-requires-clause-rules : goal.answer_decision-requires-clause-rules
answer_decision-requires-clause-rules c e is apart = c.in_ok-turn.ensures.room e is

pub answer_decision-requires-clause-profile : goal.answer_decision-requires-clause-profile
answer_decision-requires-clause-profile c = c.in_ok-turn.ensures.base.profile

pub answer_decision-requires-clause-totals : goal.answer_decision-requires-clause-totals
answer_decision-requires-clause-totals c = c.in_ok-turn.ensures.turning.has_totals

pub answer_decision-requires-clause-ready : goal.answer_decision-requires-clause-ready
answer_decision-requires-clause-ready c = (
  c.requires.ready.0,
  subst (AreReady c.requires.ready.0) (sym c.loop-place.invariant.1) c.requires.ready.1,
  c.requires.ready.2 (slice_index c.args.order.now c.loop-place.place) (placed_decision c.args.diagram.now.nodes c.args.order.now c.requires.order c.loop-place.place c.loop-place-test.true),
)

pub loop-place-preserved : goal.loop-place-preserved
loop-place-preserved c =
    let nodes = c.args.diagram.now.nodes in
    let order = c.args.order.now in
    let decision = slice_index order c.loop-place.place in (
      subst (AnswersAll nodes c.args.diagram.now.decimals (take (c.loop-place.place + 1) order)) (sym c.in_ok-push.ensures.items)
          (answers-push-all nodes c.args.diagram.now.decimals order c.loop-place.place c.loop-place.answers.items c.turn.new.self.profile c.in_ok-rows.rows.items c.requires.order c.loop-place-test.true c.loop-place.invariant.0
          (subst (λ l. IsBase nodes (pure_profile nodes l) decision c.turn.new.self.profile) c.deref.ensures.value c.in_ok-turn.ensures.base)
          c.in_ok-rows.ensures.rows),
      c.in_ok-rows.ensures.again ∙ c.loop-place.invariant.1,
      subst (λ l. IsTurningBase nodes l c.turn.new.self) (sym c.in_ok-push.ensures.items)
          (turning_more nodes c.loop-place.answers.items c.turn.new.self (subst (λ l. IsTurningBase nodes l c.turn.new.self) c.deref.ensures.value c.in_ok-turn.ensures.turning)
          (record { decision = decision; rows = c.in_ok-rows.rows.items })),
    )

pub bounds-plans-place : goal.bounds-plans-place
bounds-plans-place c =
    let here = c.loop-place-test.true in
    let long = AllZip-long (AreDecisionPlans c.args.diagram.now.nodes) c.args.order.now c.args.plans.now c.requires.planned in
    omega (arith, here, long)

pub offset_bounds-plans-place : goal.offset_bounds-plans-place
offset_bounds-plans-place c = let here : c.loop-place.place < length c.args.plans.now = bounds-plans-place c in search (rules, here)

pub answer_decision-requires-clause-planned : goal.answer_decision-requires-clause-planned
answer_decision-requires-clause-planned c =
    let nodes = c.args.diagram.now.nodes in
    let order = c.args.order.now in
    let plans = c.args.plans.now in
    let long = AllZip-long (AreDecisionPlans nodes) order plans c.requires.planned in
    let here = c.loop-place-test.true in
    subst (AreDecisionPlans nodes (slice_index order c.loop-place.place)) (sym c.index-plans-place.is)
    (zip_at (AreDecisionPlans nodes) order plans c.loop-place.place 0 c.index-plans-place.result c.requires.planned (omega (arith, here, long)))

pub answer_decision-requires-clause-decision : goal.answer_decision-requires-clause-decision
answer_decision-requires-clause-decision c =
    placed_decision c.args.diagram.now.nodes c.args.order.now c.requires.order c.loop-place.place c.loop-place-test.true

pub answer_decision-requires-clause-bound : goal.answer_decision-requires-clause-bound
answer_decision-requires-clause-bound c = c.requires.bound

pub returns-clause-answers : goal.returns-clause-answers
returns-clause-answers c =
    subst (λ (l : List ℕ). AnswersAll c.args.diagram.now.nodes c.args.diagram.now.decimals l c.loop-place.answers.items) (take_all c.loop-place.place c.args.order.now c.loop-place-test.false) c.loop-place.invariant.0

pub returns-clause-again : goal.returns-clause-again
returns-clause-again c = c.loop-place.invariant.1
