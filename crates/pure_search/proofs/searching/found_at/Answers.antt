use Rattle.std.proofs.Common.{◌≡◌, ◌∙◌, ◌<◌, [], length, slice_index_or, All, sym, ap, subst}
use Rattle.std.proofs.lemmas.Result.{IfOk-from_err}
use Rattle.maid_model.specs.Nodes.{decisions_of}
use Rattle.maid_model.specs.Answers.{IsGains}
use Rattle.maid_model.specs.Worlds.{IsWorld, worlds}
use Rattle.reach_laws.specs.Equilibria.{profile_of}
use Rattle.pure_search.specs.Games.{answers_of, choices_at, counts_for}
use Rattle.pure_search.proofs.Chosen.{decisions_known}
use Rattle.pure_search.proofs.Steps.{counts_some}
use Rattle.pure_search.proofs.Finding.{as_many_profiles, what_is_found}
use Rattle.pure_search.proofs.searching.found_at.Goals as goal

pub choices_at-requires-clause-counts : goal.choices_at-requires-clause-counts
choices_at-requires-clause-counts c = subst (All (λ n. 0 < n)) (sym (c.deref.ensures.value ∙ c.requires.game.counts_are)) (counts_some c.args.diagram.now.nodes c.count-count.ensures.diagram.graph.has_state)

pub answers_of-requires-clause-decisions : goal.answers_of-requires-clause-decisions
answers_of-requires-clause-decisions c = subst (All (λ v. v < length c.args.diagram.now.nodes)) (sym (c.deref-2.ensures.value ∙ c.requires.game.decisions_are)) (decisions_known c.args.diagram.now.nodes)

pub returns : goal.returns
returns c =
    let nodes = c.args.diagram.now.nodes in
    let choices : c.in_ok-choices.choices.items ≡ choices_at nodes c.args.place = c.in_ok-choices.ensures.choices ∙ ap (λ cs. slice_index_or (worlds cs) c.args.place []) (c.deref.ensures.value ∙ c.requires.game.counts_are) in
    let answers : c.in_ok-answers.answers.items ≡ answers_of nodes (decisions_of nodes) (choices_at nodes c.args.place) =
    c.in_ok-answers.ensures ∙ (λ i. answers_of nodes ((c.deref-2.ensures.value ∙ c.requires.game.decisions_are) i) ((c.deref-3.ensures.value ∙ choices) i)) in
    what_is_found c.args.diagram.now c.args.place (record { answers = c.in_ok-answers.answers.items; gains = c.in_ok-gains.gains.items }) c.requires.first answers c.in_ok-gains.ensures.count
    (subst (λ p. IsGains c.args.diagram.now p c.in_ok-gains.gains.items) (c.in_ok-profile.ensures.rules ∙ ap (profile_of nodes) (c.deref-5.ensures.value ∙ choices)) c.in_ok-gains.ensures.gains)

pub choices_at-requires-clause-place : goal.choices_at-requires-clause-place
choices_at-requires-clause-place c =
    let nodes = c.args.diagram.now.nodes in
    subst (λ l. c.args.place < length (worlds l)) (sym (c.deref.ensures.value ∙ c.requires.game.counts_are)) (subst (λ n. c.args.place < n) (as_many_profiles nodes) c.requires.first.within)

pub profile_of-requires-clause-decisions : goal.profile_of-requires-clause-decisions
profile_of-requires-clause-decisions c = c.deref-4.ensures.value ∙ c.requires.game.decisions_are

pub profile_of-requires-clause-choices : goal.profile_of-requires-clause-choices
profile_of-requires-clause-choices c =
    subst (IsWorld (counts_for c.args.diagram.now.nodes)) (sym c.deref-5.ensures.value) (subst (λ l. IsWorld l c.in_ok-choices.choices.items) (c.deref.ensures.value ∙ c.requires.game.counts_are) c.in_ok-choices.ensures.world)

pub worths-requires-clause-chosen : goal.worths-requires-clause-chosen
worths-requires-clause-chosen c = c.in_ok-profile.ensures.profile

pub worths-requires-clause-pure : goal.worths-requires-clause-pure
worths-requires-clause-pure c = c.in_ok-profile.ensures.unit

pub worths-requires-clause-bound : goal.worths-requires-clause-bound
worths-requires-clause-bound c = c.requires.bound.bound

pub returns-in_err-choices : goal.returns-in_err-choices
returns-in_err-choices c = IfOk-from_err _ _ c.from_residual.ensures.0

pub returns-in_err-answers : goal.returns-in_err-answers
returns-in_err-answers c = IfOk-from_err _ _ c.from_residual-in_err-answers.ensures.0

pub returns-in_err-profile : goal.returns-in_err-profile
returns-in_err-profile c = IfOk-from_err _ _ c.from_residual-in_err-profile.ensures.0

pub returns-in_err-gains : goal.returns-in_err-gains
returns-in_err-gains c = IfOk-from_err _ _ c.from_residual-in_err-gains.ensures.0
