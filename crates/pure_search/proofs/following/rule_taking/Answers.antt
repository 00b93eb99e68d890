use Rattle.std.proofs.Common.{◌≡◌, ◌∙◌, ◌++◌, [], flat_map, get_or, take, sym, ap}
use Rattle.std.proofs.lemmas.List.{flat_map_more, take_all, take_more}
use Rattle.std.proofs.lemmas.Result.{IfOk-from_err}
use borrow.Author.Count.{falls}
use Rattle.maid_model.specs.Profiles.{pure_row}
use Rattle.pure_search.proofs.following.rule_taking.Goals as goal

pub loop-choice-init : goal.loop-choice-init
loop-choice-init c = c.new-weights.ensures.items

pub bounds-choices-choice-index : goal.bounds-choices-choice-index
bounds-choices-choice-index c = c.loop-choice-test.true

pub returns-in_err-push_row : goal.returns-in_err-push_row
returns-in_err-push_row c = IfOk-from_err _ _ c.from_residual.ensures.0

pub loop-choice-smaller : goal.loop-choice-smaller
loop-choice-smaller c = falls _ _ c.loop-choice-test.true

pub loop-choice-preserved : goal.loop-choice-preserved
loop-choice-preserved c =
    let choices = c.args.choices.now in
    let row = pure_row c.args.states in
    let i = c.loop-choice.choice-index in
    c.in_ok-push_row.ensures
    ∙ ap (λ l. l ++ row (get_or choices i 0)) c.loop-choice.invariant
    ∙ flat_map_more row [] (take i choices) (get_or choices i 0)
    ∙ ap (flat_map row) (sym (take_more choices i 0 c.loop-choice-test.true))

pub returns : goal.returns
returns c =
    let all : c.loop-choice.weights.items ≡ flat_map (pure_row c.args.states) c.args.choices.now =
    c.loop-choice.invariant ∙ ap (flat_map (pure_row c.args.states)) (take_all c.loop-choice.choice-index c.args.choices.now c.loop-choice-test.false) in
    λ k. record { decision = c.args.place; total = 1; weights = all k }
