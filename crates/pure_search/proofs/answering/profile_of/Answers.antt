use Rattle.std.proofs.Common.{◌≡◌, ◌∙◌, ◌<◌, length, All, sym, ap, subst}
use Rattle.std.proofs.lemmas.Result.{IfOk-weaker}
use Rattle.std.specs.Result.{IfOk}
use Rattle.maid_model.specs.Answers.{pure_profile}
use Rattle.maid_model.specs.Profiles.{IsProfile}
use Rattle.reach_laws.specs.Equilibria.{profile_of}
use Rattle.part_laws.specs.ScopeLaws.{HasUnitRules}
use Rattle.pure_search.specs.Games.{answers_of}
use Rattle.pure_search.proofs.Answered.{answered_profile, pure_choices}
use Rattle.pure_search.proofs.Chosen.{decisions_known}
use Rattle.pure_search.proofs.answering.profile_of.Goals as goal
use Rattle.pure_search.proofs.answering.profile_of.Goals.{After-drop-answers}

-- the profile of the answers is that of the choices
is_profile : (c : After-drop-answers) → pure_profile c.args.diagram.now.nodes c.deref.result.now ≡ profile_of c.args.diagram.now.nodes c.args.choices.now
is_profile c =
    ap (pure_profile c.args.diagram.now.nodes) (c.deref.ensures.value ∙ c.in_ok-answers.ensures ∙ ap (λ ds. answers_of c.args.diagram.now.nodes ds c.args.choices.now) c.requires.decisions)
    ∙ answered_profile c.args.diagram.now.nodes c.args.choices.now

pub answers_of-requires-clause-decisions : goal.answers_of-requires-clause-decisions
answers_of-requires-clause-decisions c = subst (All (λ v. v < length c.args.diagram.now.nodes)) (sym c.requires.decisions) (decisions_known c.args.diagram.now.nodes)

pub returns-clause-rules : goal.returns-clause-rules
returns-clause-rules c = subst (λ q. IfOk c.pure.result (λ p. p ≡ q)) (is_profile c) c.pure.ensures.rules

pub returns-clause-profile : goal.returns-clause-profile
returns-clause-profile c =
    IfOk-weaker c.pure.result (λ p. p ≡ pure_profile c.args.diagram.now.nodes c.deref.result.now) (IsProfile c.args.diagram.now.nodes)
    (λ p e. subst (IsProfile c.args.diagram.now.nodes) (sym (e ∙ is_profile c)) (pure_choices c.args.diagram.now.nodes c.args.choices.now c.requires.choices).profile) c.pure.ensures.rules

pub returns-clause-unit : goal.returns-clause-unit
returns-clause-unit c =
    IfOk-weaker c.pure.result (λ p. p ≡ pure_profile c.args.diagram.now.nodes c.deref.result.now) (HasUnitRules c.args.diagram.now.nodes)
    (λ p e. subst (HasUnitRules c.args.diagram.now.nodes) (sym (e ∙ is_profile c)) (pure_choices c.args.diagram.now.nodes c.args.choices.now c.requires.choices).total) c.pure.ensures.rules
