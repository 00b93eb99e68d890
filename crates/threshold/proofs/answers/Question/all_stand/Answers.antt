-- What holds of the answers so far and of the next holds up to behind it.
use Rattle.std.proofs.Common.{◌≡◌, ◌∙◌, ℕ, ◌+◌, ◌<◌, List, length, get_or, refl, sym, ap, subst, arith}
use Rattle.std.proofs.Math.Decide.{ℕ_discrete}
use Rattle.std.proofs.lemmas.Bool.{false≢true}
use Rattle.std.proofs.lemmas.List.{get_or_default}
use Rattle.maid_model.specs.Views.{AnswerView, SolvedView}
use Rattle.threshold.specs.Answers.{AnswerStands}
use Rattle.threshold.proofs.answers.Question.all_stand.Goals as goal

one_more : (P : AnswerView → Type 0) (answers : List AnswerView) (n : ℕ) (next : AnswerView) → n < length answers → next ≡ get_or answers n next → P next → ((k : ℕ) (d : AnswerView) → k < n → P (get_or answers k d)) → (k : ℕ) (d : AnswerView) → k < n + 1 → P (get_or answers k d)
one_more P answers n next within is here before k d h = go (ℕ_discrete k n)
  where
    below : k < n + 1 → (k ≡ n → ⊥) → k < n
    below l m = omega (arith, l, m)

    go : Dec (k ≡ n) → P (get_or answers k d)
    go (yes e) = subst P (is ∙ get_or_default answers n next d within ∙ ap (λ i. get_or answers i d) (sym e)) here
    go (no m) = before k d (below h m)

pub loop-answer-init : goal.loop-answer-init
loop-answer-init c k d h = absurd (omega (arith, h))

pub stands-requires-clause-setting : goal.stands-requires-clause-setting
stands-requires-clause-setting c = c.requires.setting

pub stands-requires-clause-answer : goal.stands-requires-clause-answer
stands-requires-clause-answer c =
    let items : c.deref-answer-items.result.now ≡ c.args.self.now.solved.now.answers = c.deref-answer-items.ensures.value ∙ ap (λ (s : SolvedView). s.answers) c.solved.view_is in (
      c.loop-answer.answer-index,
      subst (λ (l : List AnswerView). c.loop-answer.answer-index < length l) items c.loop-answer-test.true,
      c.answer-item.is ∙ ap (λ (l : List AnswerView). get_or l c.loop-answer.answer-index c.answer-item.result) items,
    )

pub returns-then-not-stands : goal.returns-then-not-stands
returns-then-not-stands c =
    let n = c.loop-answer.answer-index in
    let items : c.deref-answer-items.result.now ≡ c.args.self.now.solved.now.answers = c.deref-answer-items.ensures.value ∙ ap (λ (s : SolvedView). s.answers) c.solved.view_is in
    let is = c.answer-item.is ∙ ap (λ (l : List AnswerView). get_or l n c.answer-item.result) items in (
      (λ e. absurd (false≢true e)),
      (λ all. sym c.if-not-stands.true ∙ c.stands.ensures.1 (subst (AnswerStands c.args.self.now) (sym is) (all n c.answer-item.result (subst (λ (l : List AnswerView). n < length l) items c.loop-answer-test.true)))),
    )

pub loop-answer-preserved : goal.loop-answer-preserved
loop-answer-preserved c =
    let q = c.args.self.now in
    let n = c.loop-answer.answer-index in
    let items : c.deref-answer-items.result.now ≡ q.solved.now.answers = c.deref-answer-items.ensures.value ∙ ap (λ (s : SolvedView). s.answers) c.solved.view_is in
    one_more (AnswerStands q) q.solved.now.answers n c.answer-item.result (subst (λ (l : List AnswerView). n < length l) items c.loop-answer-test.true) (c.answer-item.is ∙ ap (λ (l : List AnswerView). get_or l n c.answer-item.result) items)
    (c.stands.ensures.0 c.if-not-stands.false) c.loop-answer.invariant

pub returns : goal.returns
returns c =
    let items : c.deref-answer-items.result.now ≡ c.args.self.now.solved.now.answers = c.deref-answer-items.ensures.value ∙ ap (λ (s : SolvedView). s.answers) c.solved.view_is in (
      (λ e k d h. c.loop-answer.invariant k d (omega (arith, h, ap (λ (l : List AnswerView). length l) items, c.loop-answer-test.false))),
      (λ all. refl),
    )
