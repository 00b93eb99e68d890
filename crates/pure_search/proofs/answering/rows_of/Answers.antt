-- The row of one choice more.
use Rattle.std.proofs.Common.{◌≡◌, ◌∙◌, ℕ, ◌+◌, ◌<◌, ◌++◌, ◌∷◌, [], List, get_or, length, map, take, sym, ap}
use Rattle.std.proofs.lemmas.List.{map-append, take_all, take_more}
use Rattle.std.proofs.lemmas.Result.{IfOk-from_err}
use borrow.Author.Count.{falls}
use Rattle.maid_model.specs.declared.answers.Row.{Row}
use Rattle.pure_search.specs.Games.{unpriced}
use Rattle.pure_search.proofs.answering.rows_of.Goals as goal

one_more : (cs : List ℕ) (n : ℕ) → n < length cs → map unpriced (take n cs) ++ unpriced (get_or cs n 0) ∷ [] ≡ map unpriced (take (n + 1) cs)
one_more cs n h = sym (map-append unpriced (take n cs) (get_or cs n 0 ∷ [])) ∙ ap (λ (l : List ℕ). map unpriced l) (sym (take_more cs n 0 h))

pub bounds-choices-choice-index : goal.bounds-choices-choice-index
bounds-choices-choice-index c = c.loop-choice-test.true

pub returns-in_err-rows : goal.returns-in_err-rows
returns-in_err-rows c = IfOk-from_err _ _ c.from_residual.ensures.0

pub returns-in_err-push : goal.returns-in_err-push
returns-in_err-push c = IfOk-from_err _ _ c.from_residual-in_err-push.ensures.0

pub loop-choice-smaller : goal.loop-choice-smaller
loop-choice-smaller c = falls _ _ c.loop-choice-test.true

pub returns : goal.returns
returns c = c.loop-choice.invariant ∙ ap (map unpriced) (take_all c.loop-choice.choice-index c.args.choices.now c.loop-choice-test.false)

pub loop-choice-preserved : goal.loop-choice-preserved
loop-choice-preserved c =
    c.in_ok-push.ensures.items ∙ ap (λ (l : List Row). l ++ unpriced (get_or c.args.choices.now c.loop-choice.choice-index 0) ∷ []) c.loop-choice.invariant ∙ one_more c.args.choices.now c.loop-choice.choice-index c.loop-choice-test.true
