-- The part of the scope decides as the whole does.
use Rattle.std.proofs.Common.{◌≡◌, ◌∙◌, ℕ, ℤ, List, false, true, get_or, sym, ap, subst, length, ◌<◌, ◌≤◌, arith, rules}
use Rattle.maid_model.specs.declared.answers.Row.{Row}
use Rattle.maid_model.specs.Gains.{gain_in}
use Rattle.maid_model.specs.Nodes.{states_of, IsDecision, decisions_of}
use Rattle.maid_model.specs.Scopes.{scope_of}
use Rattle.maid_model.specs.Views.{AnswerView}
use Rattle.part_laws.specs.PartLaws.{DecidesAlike}
use Rattle.rule_solver.specs.Sums.{IsRowGains}
use Rattle.rule_solver.specs.Totals.{HasTotals}
use Rattle.size_precheck.specs.Decisions.{ListsStepsOrNone}
use Rattle.size_precheck.specs.Sizes.{ArePlansOfGoals, SizedPlan}
use Rattle.policy_update.specs.Kept.{IsScopeOf}
use Rattle.policy_update.specs.Steps.{AreSameChoices, KeepChoices}
use Rattle.policy_update.proofs.Kept.{plans_at, plans_within, scope_at, scopes_within}
use Rattle.policy_update.proofs.Scopes.{improve_by, keep_by, kept_by_same}
use Rattle.policy_update.proofs.rounds.improvement.Goals as goal

pub states-states-requires : goal.states-states-requires
states-states-requires c = subst (λ v. v < length c.args.diagram.now.nodes) (sym (ap (λ (a : AnswerView). a.decision) c.answer.view_is)) c.requires.fits.decision.within

-- ---- what is kept of the decision
pub index-requires : goal.index-requires
index-requires c =
    let within = scopes_within c.args.diagram.now.nodes c.args.kept.now c.requires.kept.is_kept c.args.place c.requires.place in
    omega (arith, within, c.args.kept.now.scopes.ok.0)

pub bounds-kept-place : goal.bounds-kept-place
bounds-kept-place c = plans_within c.args.diagram.now.nodes c.args.kept.now c.requires.kept.is_kept c.args.place c.requires.place

pub offset_bounds-kept-place : goal.offset_bounds-kept-place
offset_bounds-kept-place c = let here : c.args.place < length c.args.kept.now.plans.now = bounds-kept-place c in search (rules, here)

pub row_gains-requires-clause-setting : goal.row_gains-requires-clause-setting
row_gains-requires-clause-setting c =
    let nodes = c.args.diagram.now.nodes in
    let same : c.answer.inside.decision ≡ c.args.answer.now.decision = ap (λ (a : AnswerView). a.decision) c.answer.view_is in
    let is : IsDecision nodes c.answer.inside.decision = subst (IsDecision nodes) (sym same) c.requires.fits.decision in
    let kept = c.requires.kept.is_kept in
    record {
      is_diagram = c.states-states.ensures.diagram;
      is_decision = is;
      profile = c.requires.pure.profile;
      rules = λ e k apart. subst (λ n. n ≤ states_of nodes e) (sym (c.requires.pure.total e k)) (c.states-states.ensures.diagram.graph.has_state e);
      bound = c.requires.bound.decisions c.answer.inside.decision is;
      has_totals = subst (HasTotals nodes c.args.profile.now) (sym c.deref.ensures.value) (kept.has_totals c.args.profile.now c.requires.pure);
      is_scope = subst (λ d. IsScopeOf nodes d c.index.result.now) (sym (same ∙ c.requires.here))
          (subst (IsScopeOf nodes (get_or (decisions_of nodes) c.args.place 0)) (sym c.index.ensures) (scope_at nodes c.args.kept.now kept c.args.place c.requires.place c.index.result.now));
    }

pub row_gains-requires-clause-planned : goal.row_gains-requires-clause-planned
row_gains-requires-clause-planned c =
    let nodes = c.args.diagram.now.nodes in
    let same : c.answer.inside.decision ≡ c.args.answer.now.decision = ap (λ (a : AnswerView). a.decision) c.answer.view_is in
    subst (λ d. ArePlansOfGoals nodes d c.deref-2.result.now) (sym (same ∙ c.requires.here))
    (subst (λ (l : List SizedPlan). ArePlansOfGoals nodes (get_or (decisions_of nodes) c.args.place 0) l) (sym c.deref-2.ensures.value)
    (plans_at nodes c.args.kept.now c.requires.kept.is_kept c.args.place c.requires.place c.index-kept-place.result).of_goals)

pub row_gains-requires-clause-order : goal.row_gains-requires-clause-order
row_gains-requires-clause-order c =
    let plan = get_or c.args.kept.now.plans.now c.args.place c.index-kept-place.result in
    subst (λ (goals : List SizedPlan). ListsStepsOrNone goals c.deref-3.result.now) (sym c.deref-2.ensures.value)
    (subst (λ (order : List ℕ). ListsStepsOrNone plan.goals.items order) (sym c.deref-3.ensures.value)
    (plans_at c.args.diagram.now.nodes c.args.kept.now c.requires.kept.is_kept c.args.place c.requires.place c.index-kept-place.result).order)

pub row_gains-requires-clause-ready : goal.row_gains-requires-clause-ready
row_gains-requires-clause-ready c =
    let nodes = c.args.diagram.now.nodes in
    let is : IsDecision nodes c.answer.inside.decision = subst (IsDecision nodes) (sym (ap (λ (a : AnswerView). a.decision) c.answer.view_is)) c.requires.fits.decision in
    (c.requires.kept.cells, c.requires.kept.ready, (c.requires.kept.room.decisions c.answer.inside.decision is).goals)

-- ---- what becomes of the rows
pub returns-then-keep_choices-clause-rows : goal.returns-then-keep_choices-clause-rows
returns-then-keep_choices-clause-rows c =
    let nodes = c.args.diagram.now.nodes in
    let p = c.args.profile.now in
    let d = c.args.answer.now.decision in
    let same : c.answer.inside.decision ≡ d = ap (λ (a : AnswerView). a.decision) c.answer.view_is in
    let is = c.states-states.ensures.diagram in
    let scope = c.scopes_are_parts.ensures.decisions nodes d is.graph c.requires.fits.decision in
    let alike : (row : ℕ) → DecidesAlike nodes p (scope_of nodes d) d row =
    (λ row. c.parts_decide.ensures.choices nodes p (scope_of nodes d) d row is.graph is.tables c.requires.pure.profile scope.0 c.requires.fits.decision scope.2 scope.3) in
    let sums : IsRowGains nodes p d c.in_ok-gains.gains.items = subst (λ e. IsRowGains nodes p e c.in_ok-gains.gains.items) same c.in_ok-gains.ensures.gains in
    keep_by nodes p d alike c.in_ok-gains.gains.items sums c.deref-4.result.now c.states-states.result c.args.answer.now.rows c.deref-5.result.now c.deref-4.ensures.value (c.states-states.ensures.states ∙ ap (states_of nodes) same)
    (c.deref-5.ensures.value ∙ ap (λ (a : AnswerView). a.rows) c.answer.view_is) c.requires.fits.rows (c.keep_choices.ensures.0 c.if-keep_choices.true)

pub returns-clause-rows : goal.returns-clause-rows
returns-clause-rows c =
    let nodes = c.args.diagram.now.nodes in
    let p = c.args.profile.now in
    let d = c.args.answer.now.decision in
    let same : c.answer.inside.decision ≡ d = ap (λ (a : AnswerView). a.decision) c.answer.view_is in
    let is = c.states-states.ensures.diagram in
    let scope = c.scopes_are_parts.ensures.decisions nodes d is.graph c.requires.fits.decision in
    let alike : (row : ℕ) → DecidesAlike nodes p (scope_of nodes d) d row =
    (λ row. c.parts_decide.ensures.choices nodes p (scope_of nodes d) d row is.graph is.tables c.requires.pure.profile scope.0 c.requires.fits.decision scope.2 scope.3) in
    let sums : IsRowGains nodes p d c.in_ok-gains.gains.items = subst (λ e. IsRowGains nodes p e c.in_ok-gains.gains.items) same c.in_ok-gains.ensures.gains in
    let own : c.deref-7.result.now ≡ c.args.answer.now.rows = c.deref-7.ensures.value ∙ ap (λ (a : AnswerView). a.rows) c.answer.view_is in
    let after = c.in_ok-improved_rows.field-0.items in
    let states = c.states-states.result in (
      improve_by nodes p d alike c.in_ok-gains.gains.items sums c.deref-6.result.now states c.args.answer.now.rows c.deref-7.result.now after c.deref-6.ensures.value (c.states-states.ensures.states ∙ ap (states_of nodes) same) own c.requires.fits.rows c.in_ok-improved_rows.ensures,
      (λ h. not_both (sym c.if-keep_choices.false ∙ c.keep_choices.ensures.1
          (subst (λ (g : List ℤ). KeepChoices (gain_in g states) states c.deref-5.result.now) (c.deref-6.ensures.value ∙ sym c.deref-4.ensures.value)
          (subst (λ (r : List Row). KeepChoices (gain_in c.deref-6.result.now states) states r) (c.deref-7.ensures.value ∙ sym c.deref-5.ensures.value)
          (kept_by_same (gain_in c.deref-6.result.now states) states c.deref-7.result.now after c.in_ok-improved_rows.ensures (subst (λ (r : List Row). AreSameChoices after r) (sym own) h)))))),
    )
  where
    not_both : false ≡ true → ⊥
    not_both e = cc
