use Rattle.std.proofs.Common.{◌≡◌, ◌∙◌, ℕ, ◌+◌, ◌<◌, List, [], ◌∷◌, ◌++◌, length, take, flat_map, slice_index_or, sym, ap, subst, append_assoc, arith}
use Rattle.std.proofs.lemmas.List.{append-nil, take_more, take_all}
use Rattle.std.proofs.lemmas.List.Concat.{flat_map-append}
use Rattle.std.proofs.lemmas.Result.{err_from_is_err_and}
use Rattle.maid_model.specs.Answers.{FitsAnswer}
use Rattle.maid_model.specs.Views.{AnswerView}
use Rattle.maid_model.specs.Reports.{decision_lines}
use Rattle.report_text.proofs.report.push_decisions.Goals as goal

-- the text of one element more behind those so far
text_more : {A : Type 0} (f : A → List ℕ) (before now after : List ℕ) (xs : List A) (i : ℕ) (d : A) → i < length xs → now ≡ before ++ flat_map f (take i xs) → after ≡ now ++ f (slice_index_or xs i d) → after ≡ before ++ flat_map f (take (i + 1) xs)
text_more f before now after xs i d within so more =
    more
    ∙ ap (λ l. l ++ f (slice_index_or xs i d)) so
    ∙ append_assoc before (flat_map f (take i xs)) (f (slice_index_or xs i d))
    ∙ ap (λ l. before ++ (flat_map f (take i xs) ++ l)) (sym (append-nil (f (slice_index_or xs i d))))
    ∙ ap (λ l. before ++ l) (sym (ap (flat_map f) (take_more xs i d within) ∙ flat_map-append f (take i xs) (slice_index_or xs i d ∷ [])))

pub loop-answer-init : goal.loop-answer-init
loop-answer-init c = sym (append-nil c.args.out.now.items)

pub bounds-answers-answer-index : goal.bounds-answers-answer-index
bounds-answers-answer-index c = c.loop-answer-test.true

pub push_decision-requires-clause-fit : goal.push_decision-requires-clause-fit
push_decision-requires-clause-fit c = c.requires.fit

pub push_decision-requires-clause-answer : goal.push_decision-requires-clause-answer
push_decision-requires-clause-answer c =
    subst (FitsAnswer c.args.diagram.now.nodes) (sym c.answer-item.is) (c.requires.answers c.loop-answer.answer-index c.answer-item.result c.loop-answer-test.true)

pub returns-in_err-push_decision : goal.returns-in_err-push_decision
returns-in_err-push_decision c = rw (err_from_is_err_and c.from_residual.result c.from_residual.ensures.1).1 tt

pub loop-answer-smaller : goal.loop-answer-smaller
loop-answer-smaller c = omega (arith, c.loop-answer-test.true)

pub loop-answer-preserved : goal.loop-answer-preserved
loop-answer-preserved c =
    let lines = decision_lines c.args.diagram.now.nodes c.args.names.now in
    text_more lines c.args.out.now.items c.loop-answer.out.items c.push_decision.new.out.items c.args.answers.now c.loop-answer.answer-index c.answer-item.result c.loop-answer-test.true c.loop-answer.invariant
    (c.in_ok-push_decision.ensures ∙ ap (λ (a : AnswerView). c.loop-answer.out.items ++ lines a) c.answer-item.is)

pub returns : goal.returns
returns c =
    c.loop-answer.invariant
    ∙ ap (λ l. c.args.out.now.items ++ flat_map (decision_lines c.args.diagram.now.nodes c.args.names.now) l) (take_all c.loop-answer.answer-index c.args.answers.now c.loop-answer-test.false)
