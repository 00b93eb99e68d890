use Rattle.std.proofs.Common.{◌≡◌, ◌∙◌, ℕ, ◌+◌, ◌<◌, ◌≤◌, List, ◌++◌, All, None, length, get_or, drop, sym, ap, subst, append_assoc}
use Rattle.std.proofs.lemmas.List.{append-nil, drop_all, drop_more}
use Rattle.std.proofs.lemmas.List.Elements.{All-get_or}
use Rattle.std.proofs.lemmas.Result.{err_from_is_err_and}
use Rattle.maid_model.specs.declared.answers.Row.{Row}
use Rattle.maid_model.specs.Names.{NamesView}
use Rattle.maid_model.specs.Nodes.{IsDecision, rows_of, states_of}
use Rattle.maid_model.specs.Reports.{decision_head}
use Rattle.maid_model.specs.Views.{AnswerView, NodeView}
use Rattle.app_lines.specs.Choices.{choice_line, choice_rows}
use Rattle.app_lines.proofs.choices.push_choices.Goals as goal

-- the row whose turn it is, behind those so far
next_row : (nodes : List NodeView) (names : NamesView) (d : ℕ) (rows : List Row) (i : ℕ) (x : Row) (old now whole : List ℕ) → i < length rows → now ≡ old ++ choice_line nodes names d i (get_or rows i x).choice → old ++ choice_rows nodes names d i (drop i rows) ≡ whole → now ++ choice_rows nodes names d (i + 1) (drop (i + 1) rows) ≡ whole
next_row nodes names d rows i x old now whole within is so_far =
    let rest = choice_rows nodes names d (i + 1) (drop (i + 1) rows) in
    ap (λ ts. ts ++ rest) is ∙ append_assoc old (choice_line nodes names d i (get_or rows i x).choice) rest ∙ ap (λ rs. old ++ choice_rows nodes names d i rs) (sym (drop_more rows i x within)) ∙ so_far

pub push_head-requires-clause-decision : goal.push_head-requires-clause-decision
push_head-requires-clause-decision c = subst (λ (a : AnswerView). IsDecision c.args.diagram.now.nodes a.decision) (sym c.answer.view_is) c.requires.answer.decision

pub returns-in_err-push_head : goal.returns-in_err-push_head
returns-in_err-push_head c = rw (err_from_is_err_and c.from_residual.result c.from_residual.ensures.1).1 tt

pub loop-number-init : goal.loop-number-init
loop-number-init c =
    let nodes = c.args.diagram.now.nodes in
    let head = c.in_ok-push_head.ensures ∙ ap (λ (a : AnswerView). c.args.out.now.items ++ decision_head nodes c.args.names.now a.decision) c.answer.view_is in
    ap (λ ts. ts ++ choice_rows nodes c.args.names.now c.args.answer.now.decision 0 c.args.answer.now.rows) head ∙ append_assoc c.args.out.now.items _ _

pub bounds-row-items-number : goal.bounds-row-items-number
bounds-row-items-number c = c.loop-number-test.true

pub push_choice-requires-clause-fit : goal.push_choice-requires-clause-fit
push_choice-requires-clause-fit c = c.requires.fit

pub push_choice-requires-clause-decision : goal.push_choice-requires-clause-decision
push_choice-requires-clause-decision c = subst (λ (a : AnswerView). IsDecision c.args.diagram.now.nodes a.decision) (sym c.answer.view_is) c.requires.answer.decision

pub push_choice-requires-clause-rows : goal.push_choice-requires-clause-rows
push_choice-requires-clause-rows c =
    c.len-rows.ensures ∙ sym c.deref-row-items.ensures.len ∙ ap length c.deref-row-items.ensures.value
    ∙ subst (λ (a : AnswerView). length a.rows ≡ rows_of c.args.diagram.now.nodes a.decision) (sym c.answer.view_is) c.requires.answer.rows

pub push_choice-requires-clause-number : goal.push_choice-requires-clause-number
push_choice-requires-clause-number c = subst (λ n. c.loop-number.number < n) (c.deref-row-items.ensures.len ∙ sym c.len-rows.ensures) c.loop-number-test.true

pub push_choice-requires-clause-choice : goal.push_choice-requires-clause-choice
push_choice-requires-clause-choice c =
    let nodes = c.args.diagram.now.nodes in
    let choices = subst (λ (a : AnswerView). All (λ (r : Row). r.choice < states_of nodes a.decision) a.rows) (sym c.answer.view_is) c.requires.answer.choices in
    All-get_or (λ (r : Row). r.choice < states_of nodes c.answer.inside.decision) c.deref-row-items.result.now c.loop-number.number (record { choice = 0; worth = None }) c.loop-number-test.true
    (subst (All (λ (r : Row). r.choice < states_of nodes c.answer.inside.decision)) (sym c.deref-row-items.ensures.value) choices)

pub returns-in_err-push_choice : goal.returns-in_err-push_choice
returns-in_err-push_choice c = rw (err_from_is_err_and c.from_residual-in_err-push_choice.result c.from_residual-in_err-push_choice.ensures.1).1 tt

pub loop-number-preserved : goal.loop-number-preserved
loop-number-preserved c =
    let nodes = c.args.diagram.now.nodes in
    let names = c.args.names.now in
    let i = c.loop-number.number in
    let old = c.loop-number.out.items in
    let none : Row = record { choice = 0; worth = None } in
    let within = subst (λ n. i < n) (ap length c.deref-row-items.ensures.value ∙ ap (λ (a : AnswerView). length a.rows) c.answer.view_is) c.loop-number-test.true in
    let is = c.in_ok-push_choice.ensures ∙ ap (λ (rows : List Row). old ++ choice_line nodes names c.answer.inside.decision i (get_or rows i none).choice) c.deref-row-items.ensures.value ∙ ap (λ (a : AnswerView). old ++ choice_line nodes names a.decision i (get_or a.rows i none).choice) c.answer.view_is in
    next_row nodes names c.args.answer.now.decision c.args.answer.now.rows i none old c.push_choice.new.out.items _ within is c.loop-number.invariant

pub returns : goal.returns
returns c =
    let text = λ (rows : List Row). c.loop-number.out.items ++ choice_rows c.args.diagram.now.nodes c.args.names.now c.args.answer.now.decision c.loop-number.number rows in
    let past = subst (λ n. n ≤ c.loop-number.number) (ap length c.deref-row-items.ensures.value ∙ ap (λ (a : AnswerView). length a.rows) c.answer.view_is) c.loop-number-test.false in
    sym (append-nil c.loop-number.out.items) ∙ sym (ap text (drop_all c.loop-number.number c.args.answer.now.rows past)) ∙ c.loop-number.invariant
