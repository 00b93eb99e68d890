use Rattle.std.proofs.Common.{◌≡◌, ◌∙◌, ◌<◌, List, All, get_or, length, map, sym, ap, subst, refl}
use Rattle.maid_model.specs.declared.answers.Row.{Row}
use Rattle.maid_model.specs.Nodes.{states_of}
use Rattle.maid_model.specs.Profiles.{HasRule, IsRule, Replaces, pure_rule}
use Rattle.maid_model.specs.Views.{AnswerView, RuleView}
use Rattle.maid_laws.specs.Optimum.{IsPure}
use Rattle.policy_update.specs.Steps.{AreSameChoices, ImprovesOrKeeps, ImprovesRows, KeepsRows}
use Rattle.policy_update.proofs.Plans.{IsImprovement, IsPut, changed_new, choices_new, count_new, fits_here, improvement_is, keeping_is, place_is, places, plan_new, plan_pure, step_new, step_same}
use Rattle.policy_update.proofs.rounds.improve.Goals as goal
use Rattle.policy_update.proofs.rounds.improve.Goals.{After-drop-answers}

pub improvement-requires-clause-pure : goal.improvement-requires-clause-pure
improvement-requires-clause-pure c = plan_pure c.args.diagram.now.nodes c.pure_profiles_listed.ensures.choices c.args.answers.now c.args.profile.now c.requires.plan

-- ---- the decision
pub improvement-requires-clause-place : goal.improvement-requires-clause-place
improvement-requires-clause-place c = subst (λ n. c.args.place < n) (places c.args.diagram.now.nodes c.args.answers.now c.requires.plan.choices) c.requires.place

pub improvement-requires-clause-here : goal.improvement-requires-clause-here
improvement-requires-clause-here c = place_is c.args.diagram.now.nodes c.args.answers.now c.requires.plan.choices c.args.place c.index-answers-place.result c.requires.place

-- ---- the choices stay
pub returns-in-None-clause-step : goal.returns-in-None-clause-step
returns-in-None-clause-step c =
    let nodes = c.args.diagram.now.nodes in
    let a : AnswerView = record { decision = c.answer.inside.decision; rows = c.answer.inside.rows.items } in
    let keeps : KeepsRows nodes c.args.profile.now (get_or c.args.answers.now c.args.place c.index-answers-place.result) =
    subst (ImprovesOrKeeps nodes c.args.profile.now (get_or c.args.answers.now c.args.place c.index-answers-place.result)) c.in-None.is c.in_ok-improved.ensures.rows in
    step_same nodes c.pure_profiles_listed.ensures.choices c.args.answers.now c.args.profile.now c.args.place a a.rows
    (keeping_is nodes c.args.answers.now c.args.profile.now c.args.place a c.index-answers-place.result c.requires.plan c.requires.place c.answer.view_is keeps) (λ row l. refl)

pub returns-in-None-clause-plan : goal.returns-in-None-clause-plan
returns-in-None-clause-plan c = c.requires.plan

pub returns-in-None-clause-again : goal.returns-in-None-clause-again
returns-in-None-clause-again c = c.in_ok-improved.ensures.again

pub returns-in-None-clause-changed : goal.returns-in-None-clause-changed
returns-in-None-clause-changed c = refl

-- ---- a choice changes
-- the answer at the place, and the rows that improve its own
abbrev before : After-drop-answers → AnswerView
before c = record { decision = c.answer.inside.decision; rows = c.answer.inside.rows.items }

found : (c : After-drop-answers) → ImprovesRows c.args.diagram.now.nodes c.args.profile.now (get_or c.args.answers.now c.args.place c.index-answers-place.result) c.in-Some.rows
found c = subst (ImprovesOrKeeps c.args.diagram.now.nodes c.args.profile.now (get_or c.args.answers.now c.args.place c.index-answers-place.result)) c.in-Some.is c.in_ok-improved.ensures.rows

improved : (c : After-drop-answers) → IsImprovement c.args.diagram.now.nodes c.args.answers.now c.args.profile.now c.args.place (before c) c.in-Some.rows.items
improved c =
    improvement_is c.args.diagram.now.nodes c.args.answers.now c.args.profile.now c.args.place (before c) c.index-answers-place.result c.in-Some.rows.items c.requires.plan c.requires.place c.answer.view_is (found c).0

-- the new rule is put in the place of the old one
put : (c : After-drop-answers) → IsPut c.args.diagram.now.nodes c.args.profile.now c.put.new.self (before c) c.in-Some.rows.items
put c =
    let nodes = c.args.diagram.now.nodes in
    let law = c.pure_profiles_listed.ensures.choices in
    let pure : IsPure nodes c.args.profile.now = plan_pure nodes law c.args.answers.now c.args.profile.now c.requires.plan in
    let rows : c.deref.result.now ≡ c.in-Some.rows.items = c.deref.ensures.value in
    let is : IsRule nodes c.in_ok-pure-in-Some.field-0 = c.in_ok-pure-in-Some.ensures.rule
    (ap length rows ∙ count_new nodes law c.args.answers.now c.args.profile.now c.args.place (before c) c.in-Some.rows.items (improved c))
    (subst (All (λ (r : Row). r.choice < states_of nodes c.answer.inside.decision)) (sym rows) (choices_new nodes law c.args.answers.now c.args.profile.now c.args.place (before c) c.in-Some.rows.items (improved c))) in
    record {
      profile = c.put.ensures.profile nodes pure.profile is;
      replaces = subst (Replaces c.args.profile.now c.put.new.self) (c.in_ok-pure-in-Some.ensures.choices ∙ ap (λ (x : List Row). pure_rule nodes c.answer.inside.decision (map (λ (r : Row). r.choice) x)) rows) c.put.ensures.replaced;
    }

pub returns-in_ok-pure-in-Some-clause-plan : goal.returns-in_ok-pure-in-Some-clause-plan
returns-in_ok-pure-in-Some-clause-plan c = plan_new c.args.diagram.now.nodes c.pure_profiles_listed.ensures.choices c.args.answers.now c.args.profile.now c.args.place (before c) c.in-Some.rows.items (improved c) c.put.new.self (put c)

pub returns-in_ok-pure-in-Some-clause-step : goal.returns-in_ok-pure-in-Some-clause-step
returns-in_ok-pure-in-Some-clause-step c = step_new c.args.diagram.now.nodes c.pure_profiles_listed.ensures.choices c.args.answers.now c.args.profile.now c.args.place (before c) c.in-Some.rows.items (improved c) c.put.new.self (put c)

pub returns-in_ok-pure-in-Some-clause-changed : goal.returns-in_ok-pure-in-Some-clause-changed
returns-in_ok-pure-in-Some-clause-changed c =
    changed_new c.args.diagram.now.nodes c.pure_profiles_listed.ensures.choices c.args.answers.now c.args.profile.now c.args.place (before c) c.in-Some.rows.items (improved c) c.put.new.self (put c)
    (λ h. (found c).1 (subst (λ (x : AnswerView). AreSameChoices c.in-Some.rows.items x.rows) c.answer.view_is h))

pub put-requires : goal.put-requires
put-requires c =
    let nodes = c.args.diagram.now.nodes in
    let a : AnswerView = record { decision = c.answer.inside.decision; rows = c.answer.inside.rows.items } in
    let more : ImprovesRows nodes c.args.profile.now (get_or c.args.answers.now c.args.place c.index-answers-place.result) c.in-Some.rows =
    subst (ImprovesOrKeeps nodes c.args.profile.now (get_or c.args.answers.now c.args.place c.index-answers-place.result)) c.in-Some.is c.in_ok-improved.ensures.rows in
    let h = improvement_is nodes c.args.answers.now c.args.profile.now c.args.place a c.index-answers-place.result c.in-Some.rows.items c.requires.plan c.requires.place c.answer.view_is more.0 in
    let law = c.pure_profiles_listed.ensures.choices in
    let pure : IsPure nodes c.args.profile.now = plan_pure nodes law c.args.answers.now c.args.profile.now c.requires.plan in
    subst (HasRule c.args.profile.now) (sym (ap (λ (r : RuleView). r.decision) c.in_ok-pure-in-Some.ensures.choices))
    (c.profile_has_rules.ensures nodes c.args.profile.now a.decision pure.profile (fits_here nodes law c.args.answers.now c.args.profile.now c.args.place a c.in-Some.rows.items h).decision)

pub returns-in_ok-pure-in-Some-clause-again : goal.returns-in_ok-pure-in-Some-clause-again
returns-in_ok-pure-in-Some-clause-again c = c.in_ok-improved.ensures.again

-- ---- what is asked of the improvement
pub improvement-requires-clause-bound : goal.improvement-requires-clause-bound
improvement-requires-clause-bound c = c.requires.bound

pub improvement-requires-clause-kept : goal.improvement-requires-clause-kept
improvement-requires-clause-kept c = c.requires.kept

pub improvement-requires-clause-fits : goal.improvement-requires-clause-fits
improvement-requires-clause-fits c = c.requires.plan.choices.fits c.args.place c.index-answers-place.result c.requires.place
