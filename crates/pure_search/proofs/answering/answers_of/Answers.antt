-- The answer of one decision more: its rows stand behind those so far, and before those still to
-- come.
use Rattle.std.proofs.Common.{◌≡◌, ◌∙◌, ℕ, ◌+◌, ◌-◌, ◌<◌, List, [], ◌∷◌, ◌++◌, append_assoc, drop, drop-drop, get_or, length, map, take, sym, ap, arith}
use Rattle.std.proofs.lemmas.List.{drop_more}
use Rattle.std.proofs.lemmas.Result.{IfOk-from_err}
use borrow.Author.Count.{falls}
use Rattle.maid_model.specs.declared.answers.Row.{Row}
use Rattle.maid_model.specs.Nodes.{rows_of}
use Rattle.maid_model.specs.Views.{AnswerView, NodeView}
use Rattle.pure_search.specs.Games.{answers_of, unpriced}
use Rattle.pure_search.proofs.Chosen.{rows_counted}
use Rattle.pure_search.proofs.answering.answers_of.Goals as goal

-- the answers from a place on are that of the decision there and those behind it
parted : (nodes : List NodeView) (ds choices : List ℕ) (i start count : ℕ) → i < length ds → count ≡ rows_of nodes (get_or ds i 0)
    → record { decision = get_or ds i 0; rows = map unpriced (take (start + count - start) (drop start choices)) } ∷ answers_of nodes (drop (i + 1) ds) (drop (start + count) choices) ≡ answers_of nodes (drop i ds) (drop start choices)
parted nodes ds choices i start count h e =
    (λ k. record { decision = v; rows = map unpriced (take ((own ∙ e) k) (drop start choices)) } ∷ answers_of nodes (drop (i + 1) ds) (moved k))
    ∙ ap (λ l. answers_of nodes l (drop start choices)) (sym (drop_more ds i 0 h))
  where
    v : ℕ
    v = get_or ds i 0

    own : start + count - start ≡ count
    own = omega arith

    moved : drop (start + count) choices ≡ drop (rows_of nodes (get_or ds i 0)) (drop start choices)
    moved = sym (drop-drop count start choices) ∙ ap (λ n. drop n (drop start choices)) e

pub loop-decision-preserved : goal.loop-decision-preserved
loop-decision-preserved c =
    let nodes = c.args.diagram.now.nodes in
    let ds = c.args.decisions.now in
    let choices = c.args.choices.now in
    let i = c.loop-decision.decision-index in
    let start = c.loop-decision.start in
    let count = c.rows.result in
    let rest = answers_of nodes (drop (i + 1) ds) (drop (start + count) choices) in
    let answer : List Row → AnswerView = λ rows. record { decision = get_or ds i 0; rows = rows } in (
      ap (λ l. l ++ rest) c.in_ok-push.ensures.items
          ∙ append_assoc c.loop-decision.answers.items (answer c.in_ok-rows_of.field-0.items ∷ []) rest
          ∙ ap (λ rows. c.loop-decision.answers.items ++ answer rows ∷ rest) c.in_ok-rows_of.ensures
          ∙ ap (λ l. c.loop-decision.answers.items ++ l) (parted nodes ds choices i start count c.loop-decision-test.true c.rows.ensures)
          ∙ c.loop-decision.invariant.0,
      omega (arith, rows_counted nodes ds i c.loop-decision-test.true, c.rows.ensures, c.loop-decision.invariant.1),
    )

pub bounds-decisions-decision-index : goal.bounds-decisions-decision-index
bounds-decisions-decision-index c = c.loop-decision-test.true

pub slice_bounds-rows_of-start : goal.slice_bounds-rows_of-start
slice_bounds-rows_of-start c = omega arith

pub slice_bounds-rows_of-end : goal.slice_bounds-rows_of-end
slice_bounds-rows_of-end c =
    omega (arith, rows_counted c.args.diagram.now.nodes c.args.decisions.now c.loop-decision.decision-index c.loop-decision-test.true, c.rows.ensures, c.loop-decision.invariant.1)

pub returns-in_err-answers : goal.returns-in_err-answers
returns-in_err-answers c = IfOk-from_err _ _ c.from_residual.ensures.0

pub returns-in_err-rows_of : goal.returns-in_err-rows_of
returns-in_err-rows_of c = IfOk-from_err _ _ c.from_residual-in_err-rows_of.ensures.0

pub returns-in_err-push : goal.returns-in_err-push
returns-in_err-push c = IfOk-from_err _ _ c.from_residual-in_err-push.ensures.0

pub loop-decision-smaller : goal.loop-decision-smaller
loop-decision-smaller c = falls _ _ c.loop-decision-test.true

pub loop-decision-init : goal.loop-decision-init
loop-decision-init c = (ap (λ l. l ++ answers_of c.args.diagram.now.nodes c.args.decisions.now c.args.choices.now) c.in_ok-answers.ensures.items, omega (arith, c.requires.len))

pub rows-requires : goal.rows-requires
rows-requires c = c.requires.decisions c.loop-decision.decision-index 0 c.loop-decision-test.true

pub slice_bounds-rows_of-count : goal.slice_bounds-rows_of-count
slice_bounds-rows_of-count c = omega arith
