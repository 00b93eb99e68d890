use Rattle.std.proofs.Common.{◌≡◌, ◌∙◌, Contains, map, length, ap, sym, subst, All, List, ◌<◌}
use Rattle.maid_model.specs.Answers.{IsBase, answered, pure_profile, FitsAnswer}
use Rattle.maid_model.specs.Nodes.{states_of, IsDecision}
use Rattle.maid_model.specs.Views.{AnswerView, SolvedView}
use Rattle.rule_solver.specs.Sums.{IsRowGains}
use Rattle.rule_solver.specs.Rooms.{AreReady, HasRoomForDecision}
use Rattle.size_precheck.specs.Decisions.{AreDecisionPlans}
use Rattle.threshold.specs.Answers.{HoldsAtFraction}
use Rattle.threshold.specs.Held.{AreBestIn}
use Rattle.threshold.proofs.Narrowing.{narrows_map}
use Rattle.threshold.proofs.Ready.{plans_nought, plans_one, profile_nought, profile_one, room_nought, room_one, ready_as, decides_nought, decides_one, rules_nought, rules_one}
use Rattle.threshold.proofs.Holding.{answer_decides, answer_fits}
use Rattle.maid_model.specs.declared.answers.Row.{Row}
use Rattle.maid_model.specs.Graph.{AllDifferent}
use Rattle.part_laws.specs.ScopeLaws.{HasSmallRules}
use Rattle.threshold.proofs.answers.Question.narrow_by_gains.Goals as goal

-- all decisions are answered, also those that it relies on
pub base_of-requires-clause-relied : goal.base_of-requires-clause-relied
base_of-requires-clause-relied c = λ e r.
    let fits = c.requires.setting.setting.answer.fits in
    subst (λ l. Contains (map (λ (a : AnswerView). a.decision) l) e) (sym (c.deref.ensures.value ∙ ap (λ (s : SolvedView). s.answers) c.solved.view_is)) (subst (λ l. Contains l e) (sym fits.follow) (fits.all e r.on_decision))

pub row_gains_by-requires-clause-profile : goal.row_gains_by-requires-clause-profile
row_gains_by-requires-clause-profile c =
    let q = c.args.self.now in
    profile_nought q.diagram.now q.solved.now q.place q.nought.now q.one.now c.requires.setting.setting c.args.answer.now c.requires.answer c.in_ok-base.base c.in_ok-base.ensures.base.profile

pub row_gains_by-requires-clause-planned : goal.row_gains_by-requires-clause-planned
row_gains_by-requires-clause-planned c =
    let q = c.args.self.now in
    subst (λ v. AreDecisionPlans q.nought.now.nodes v c.args.plans.now) (sym (ap (λ (a : AnswerView). a.decision) c.answer.view_is))
    (plans_nought q.diagram.now q.solved.now q.place q.nought.now q.one.now c.requires.setting.setting c.args.answer.now c.requires.answer c.kept_plans_stand.ensures c.args.plans.now c.requires.planned)

pub row_gains_by-requires-clause-ready : goal.row_gains_by-requires-clause-ready
row_gains_by-requires-clause-ready c =
    let q = c.args.self.now in
    let ready = c.requires.ready in (
      ready.0,
      ready.1,
      subst (λ v. HasRoomForDecision q.nought.now.nodes v ready.0) (sym (ap (λ (a : AnswerView). a.decision) c.answer.view_is))
          (room_nought q.diagram.now q.solved.now q.place q.nought.now q.one.now c.requires.setting.setting c.args.answer.now c.requires.answer c.greedy_orders.ensures.orders ready.0 ready.2),
    )

pub row_gains_by-requires-2-clause-profile : goal.row_gains_by-requires-2-clause-profile
row_gains_by-requires-2-clause-profile c =
    let q = c.args.self.now in
    profile_one q.diagram.now q.solved.now q.place q.nought.now q.one.now c.requires.setting.setting c.args.answer.now c.requires.answer c.in_ok-base.base c.in_ok-base.ensures.base.profile

pub row_gains_by-requires-2-clause-planned : goal.row_gains_by-requires-2-clause-planned
row_gains_by-requires-2-clause-planned c =
    let q = c.args.self.now in
    subst (λ v. AreDecisionPlans q.one.now.nodes v c.args.plans.now) (sym (ap (λ (a : AnswerView). a.decision) c.answer.view_is))
    (plans_one q.diagram.now q.solved.now q.place q.nought.now q.one.now c.requires.setting.setting c.args.answer.now c.requires.answer c.kept_plans_stand.ensures c.args.plans.now c.requires.planned)

pub row_gains_by-requires-2-clause-ready : goal.row_gains_by-requires-2-clause-ready
row_gains_by-requires-2-clause-ready c =
    let q = c.args.self.now in
    let ready = c.requires.ready in (
      ready.0,
      subst (AreReady ready.0) (sym c.in_ok-nought.ensures.again) ready.1,
      subst (λ v. HasRoomForDecision q.one.now.nodes v ready.0) (sym (ap (λ (a : AnswerView). a.decision) c.answer.view_is))
          (room_one q.diagram.now q.solved.now q.place q.nought.now q.one.now c.requires.setting.setting c.args.answer.now c.requires.answer c.greedy_orders.ensures.orders ready.0 ready.2),
    )

pub narrow_rows-requires-clause-gains : goal.narrow_rows-requires-clause-gains
narrow_rows-requires-clause-gains c =
    let q = c.args.self.now in
    let at : c.answer.inside.decision ≡ c.args.answer.now.decision = ap (λ (a : AnswerView). a.decision) c.answer.view_is in
    let base = subst (λ v. IsBase q.diagram.now.nodes (answered q.diagram.now q.solved.now) v c.in_ok-base.base) at (subst (λ l. IsBase q.diagram.now.nodes (pure_profile q.diagram.now.nodes l) c.answer.inside.decision c.in_ok-base.base) (c.deref.ensures.value ∙ ap (λ (s : SolvedView). s.answers) c.solved.view_is) c.in_ok-base.ensures.base) in
    let ready = ready_as q.diagram.now q.solved.now q.place q.nought.now q.one.now c.requires.setting.setting c.args.answer.now c.requires.answer c.in_ok-base.base base c.in_ok-base.ensures.room c.in_ok-nought.nought.items c.in_ok-one.one.items
    (subst (λ v. IsRowGains q.nought.now.nodes c.in_ok-base.base v c.in_ok-nought.nought.items) at c.in_ok-nought.ensures.gains) (subst (λ v. IsRowGains q.one.now.nodes c.in_ok-base.base v c.in_ok-one.one.items) at c.in_ok-one.ensures.gains)
    c.deref-2.result.now c.deref-3.result.now c.deref-4.result.now c.states.result c.deref-2.ensures.value c.deref-3.ensures.value (c.deref-4.ensures.value ∙ ap (λ (a : AnswerView). a.rows) c.answer.view_is) (c.states.ensures.states ∙ ap (states_of q.diagram.now.nodes) at) in
    ready.gains

pub returns-clause-held : goal.returns-clause-held
returns-clause-held c =
    let q = c.args.self.now in
    let at : c.answer.inside.decision ≡ c.args.answer.now.decision = ap (λ (a : AnswerView). a.decision) c.answer.view_is in
    let base = subst (λ v. IsBase q.diagram.now.nodes (answered q.diagram.now q.solved.now) v c.in_ok-base.base) at (subst (λ l. IsBase q.diagram.now.nodes (pure_profile q.diagram.now.nodes l) c.answer.inside.decision c.in_ok-base.base) (c.deref.ensures.value ∙ ap (λ (s : SolvedView). s.answers) c.solved.view_is) c.in_ok-base.ensures.base) in
    let ready = ready_as q.diagram.now q.solved.now q.place q.nought.now q.one.now c.requires.setting.setting c.args.answer.now c.requires.answer c.in_ok-base.base base c.in_ok-base.ensures.room c.in_ok-nought.nought.items c.in_ok-one.one.items
    (subst (λ v. IsRowGains q.nought.now.nodes c.in_ok-base.base v c.in_ok-nought.nought.items) at c.in_ok-nought.ensures.gains) (subst (λ v. IsRowGains q.one.now.nodes c.in_ok-base.base v c.in_ok-one.one.items) at c.in_ok-one.ensures.gains)
    c.deref-2.result.now c.deref-3.result.now c.deref-4.result.now c.states.result c.deref-2.ensures.value c.deref-3.ensures.value (c.deref-4.ensures.value ∙ ap (λ (a : AnswerView). a.rows) c.answer.view_is) (c.states.ensures.states ∙ ap (states_of q.diagram.now.nodes) at) in
    narrows_map (AreBestIn c.deref-2.result.now c.deref-3.result.now c.states.result c.deref-4.result.now (length c.deref-4.result.now)) (HoldsAtFraction q.diagram.now.nodes (answered q.diagram.now q.solved.now) q.place c.args.answer.now.decision) c.args.held c.narrow_rows.result ready.same c.narrow_rows.ensures

pub base_of-requires-clause-decision : goal.base_of-requires-clause-decision
base_of-requires-clause-decision c =
    let q = c.args.self.now in
    subst (IsDecision q.diagram.now.nodes) (sym (ap (λ (a : AnswerView). a.decision) c.answer.view_is)) (answer_decides q.diagram.now q.solved.now c.requires.setting.setting.answer.fits c.args.answer.now c.requires.answer)

pub base_of-requires-clause-relevance : goal.base_of-requires-clause-relevance
base_of-requires-clause-relevance c = c.requires.setting.relevance

pub base_of-requires-clause-fits : goal.base_of-requires-clause-fits
base_of-requires-clause-fits c =
    subst (λ (l : List AnswerView). All (FitsAnswer c.args.self.now.diagram.now.nodes) l) (sym (c.deref.ensures.value ∙ ap (λ (s : SolvedView). s.answers) c.solved.view_is)) c.requires.setting.setting.answer.fits.answers

pub base_of-requires-clause-once : goal.base_of-requires-clause-once
base_of-requires-clause-once c =
    let fits = c.requires.setting.setting.answer.fits in
    subst (λ (l : List AnswerView). AllDifferent (map (λ (a : AnswerView). a.decision) l)) (sym (c.deref.ensures.value ∙ ap (λ (s : SolvedView). s.answers) c.solved.view_is)) (subst AllDifferent (sym fits.follow) fits.once)

pub row_gains_by-requires-clause-decision : goal.row_gains_by-requires-clause-decision
row_gains_by-requires-clause-decision c =
    let q = c.args.self.now in
    subst (IsDecision q.nought.now.nodes) (sym (ap (λ (a : AnswerView). a.decision) c.answer.view_is)) (decides_nought q.diagram.now q.solved.now q.place q.nought.now q.one.now c.requires.setting.setting c.args.answer.now c.requires.answer)

pub row_gains_by-requires-clause-rules : goal.row_gains_by-requires-clause-rules
row_gains_by-requires-clause-rules c =
    let q = c.args.self.now in
    subst (HasSmallRules q.nought.now.nodes c.in_ok-base.base) (sym (ap (λ (a : AnswerView). a.decision) c.answer.view_is)) (rules_nought q.diagram.now q.solved.now q.place q.nought.now q.one.now c.requires.setting.setting c.args.answer.now c.requires.answer c.in_ok-base.base c.in_ok-base.ensures.room)

pub row_gains_by-requires-clause-bound : goal.row_gains_by-requires-clause-bound
row_gains_by-requires-clause-bound c = c.requires.setting.setting.ends.bound_nought

pub row_gains_by-requires-2-clause-decision : goal.row_gains_by-requires-2-clause-decision
row_gains_by-requires-2-clause-decision c =
    let q = c.args.self.now in
    subst (IsDecision q.one.now.nodes) (sym (ap (λ (a : AnswerView). a.decision) c.answer.view_is)) (decides_one q.diagram.now q.solved.now q.place q.nought.now q.one.now c.requires.setting.setting c.args.answer.now c.requires.answer)

pub row_gains_by-requires-2-clause-rules : goal.row_gains_by-requires-2-clause-rules
row_gains_by-requires-2-clause-rules c =
    let q = c.args.self.now in
    subst (HasSmallRules q.one.now.nodes c.in_ok-base.base) (sym (ap (λ (a : AnswerView). a.decision) c.answer.view_is)) (rules_one q.diagram.now q.solved.now q.place q.nought.now q.one.now c.requires.setting.setting c.args.answer.now c.requires.answer c.in_ok-base.base c.in_ok-base.ensures.room)

pub row_gains_by-requires-2-clause-bound : goal.row_gains_by-requires-2-clause-bound
row_gains_by-requires-2-clause-bound c = c.requires.setting.setting.ends.bound_one

pub states-requires : goal.states-requires
states-requires c =
    let q = c.args.self.now in
    subst (λ v. v < length q.diagram.now.nodes) (sym (ap (λ (a : AnswerView). a.decision) c.answer.view_is)) (answer_decides q.diagram.now q.solved.now c.requires.setting.setting.answer.fits c.args.answer.now c.requires.answer).within

pub narrow_rows-requires-clause-range : goal.narrow_rows-requires-clause-range
narrow_rows-requires-clause-range c = c.requires.range

pub narrow_rows-requires-clause-choices : goal.narrow_rows-requires-clause-choices
narrow_rows-requires-clause-choices c =
    let q = c.args.self.now in
    let at : c.answer.inside.decision ≡ c.args.answer.now.decision = ap (λ (a : AnswerView). a.decision) c.answer.view_is in
    subst (λ n. All (λ (r : Row). r.choice < n) c.deref-4.result.now) (sym (c.states.ensures.states ∙ ap (states_of q.diagram.now.nodes) at))
    (subst (λ (l : List Row). All (λ (r : Row). r.choice < states_of q.diagram.now.nodes c.args.answer.now.decision) l) (sym (c.deref-4.ensures.value ∙ ap (λ (a : AnswerView). a.rows) c.answer.view_is)) (answer_fits q.diagram.now q.solved.now c.requires.setting.setting.answer.fits c.args.answer.now c.requires.answer).choices)

pub returns-clause-again : goal.returns-clause-again
returns-clause-again c = c.in_ok-one.ensures.again ∙ c.in_ok-nought.ensures.again
