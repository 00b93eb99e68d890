use Rattle.std.proofs.Common.{ap, sym, subst}
use Rattle.maid_model.specs.declared.limits.TheConstants.{MOST_PLAN_CELLS}
use Rattle.maid_model.specs.Nodes.{IsDecision}
use Rattle.maid_model.specs.Views.{AnswerView}
use Rattle.rule_solver.specs.declared.spaces.Workspaces.{Workspaces}
use Rattle.rule_solver.specs.Rooms.{AreLeft, AreReady, AreReadyForDecision, HasRoomForDecision}
use Rattle.size_precheck.specs.Decisions.{AreDecisionPlans}
use Rattle.threshold.proofs.Holding.{answer_decides}
use Rattle.threshold.proofs.answers.Question.narrow.Goals as goal

pub plan_decision_by-requires-clause-decision : goal.plan_decision_by-requires-clause-decision
plan_decision_by-requires-clause-decision c =
    let q = c.args.self.now in
    subst (IsDecision q.diagram.now.nodes) (sym (ap (λ (a : AnswerView). a.decision) c.answer.view_is)) (answer_decides q.diagram.now q.solved.now c.requires.setting.setting.answer.fits c.args.answer.now c.requires.answer)

pub plan_decision_by-requires-clause-planner : goal.plan_decision_by-requires-clause-planner
plan_decision_by-requires-clause-planner c = c.requires.planner

pub spaces_for-requires-clause-decision : goal.spaces_for-requires-clause-decision
spaces_for-requires-clause-decision c =
    let q = c.args.self.now in
    subst (IsDecision q.diagram.now.nodes) (sym (ap (λ (a : AnswerView). a.decision) c.answer.view_is)) (answer_decides q.diagram.now q.solved.now c.requires.setting.setting.answer.fits c.args.answer.now c.requires.answer)

pub spaces_for-requires-clause-planned : goal.spaces_for-requires-clause-planned
spaces_for-requires-clause-planned c = c.in_ok-plans.ensures

pub spaces_for-requires-clause-room : goal.spaces_for-requires-clause-room
spaces_for-requires-clause-room c =
    let q = c.args.self.now in
    subst (λ d. HasRoomForDecision q.diagram.now.nodes d MOST_PLAN_CELLS) (sym (ap (λ (a : AnswerView). a.decision) c.answer.view_is))
    (c.requires.room c.args.answer.now.decision (answer_decides q.diagram.now q.solved.now c.requires.setting.setting.answer.fits c.args.answer.now c.requires.answer))

pub spaces_for-requires-clause-left : goal.spaces_for-requires-clause-left
spaces_for-requires-clause-left c = subst AreLeft (sym c.take.ensures.value) c.requires.left

pub narrow_by_gains-requires-clause-setting : goal.narrow_by_gains-requires-clause-setting
narrow_by_gains-requires-clause-setting c = c.requires.setting

pub narrow_by_gains-requires-clause-answer : goal.narrow_by_gains-requires-clause-answer
narrow_by_gains-requires-clause-answer c = c.requires.answer

pub narrow_by_gains-requires-clause-planned : goal.narrow_by_gains-requires-clause-planned
narrow_by_gains-requires-clause-planned c =
    subst (λ d. AreDecisionPlans c.args.self.now.diagram.now.nodes d c.in_ok-plans.plans) (ap (λ (a : AnswerView). a.decision) c.answer.view_is) c.in_ok-plans.ensures

pub narrow_by_gains-requires-clause-ready : goal.narrow_by_gains-requires-clause-ready
narrow_by_gains-requires-clause-ready c =
    subst (λ d. AreReadyForDecision c.args.self.now.diagram.now.nodes d c.in_ok-spaces.spaces) (ap (λ (a : AnswerView). a.decision) c.answer.view_is) c.in_ok-spaces.ensures

pub narrow_by_gains-requires-clause-range : goal.narrow_by_gains-requires-clause-range
narrow_by_gains-requires-clause-range c = c.requires.range

pub returns-in_err-plans-clause-left : goal.returns-in_err-plans-clause-left
returns-in_err-plans-clause-left c = c.requires.left

pub returns-in_err-spaces-clause-left : goal.returns-in_err-spaces-clause-left
returns-in_err-spaces-clause-left c = rw c.take.ensures.after tt

pub returns-in_err-held-clause-left : goal.returns-in_err-held-clause-left
returns-in_err-held-clause-left c = rw c.take.ensures.after tt

pub returns-clause-held : goal.returns-clause-held
returns-clause-held c = c.in_ok-held.ensures.held

-- they are left as they were found
pub returns-clause-left : goal.returns-clause-left
returns-clause-left c =
    let spaces = c.in_ok-spaces.spaces in
    let ready = c.in_ok-spaces.ensures.1 in
    let own : AreReady spaces.cells spaces = subst (λ cells. AreReady cells spaces) (sym ready.room) ready in
    subst (λ (s : Workspaces). AreReady s.cells s) (sym c.in_ok-held.ensures.again) own
