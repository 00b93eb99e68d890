use Rattle.std.proofs.Common.{rules, refl, ◌≡◌, ◌≢◌, ◌∙◌, ℕ, suc, ◌+◌, ◌*◌, ◌<◌, ◌≤◌, List, [], ◌∷◌, ◌++◌, All, length, drop, take, slice_index_or, sym, ap, subst, append_assoc, drop-cons, arith}
use Rattle.std.proofs.Math.Nat.{mul-le-mul_right}
use Rattle.std.proofs.lemmas.List.{append-nil, get_or_default, length-drop, take_at}
use Rattle.std.proofs.lemmas.Result.{err_from_is_err_and}
use Rattle.maid_model.specs.declared.answers.Row.{Row}
use Rattle.maid_model.specs.declared.diagrams.Kind.TheVariants.{Utility}
use Rattle.maid_model.specs.Answers.{no_row}
use Rattle.maid_model.specs.Names.{label_of}
use Rattle.maid_model.specs.Nodes.{IsDecision, node_at, rows_under, states_of}
use Rattle.maid_model.specs.Reports.{quoted}
use Rattle.maid_model.specs.Views.{AnswerView, NodeView}
use Rattle.report_text.specs.Runs.{labelled_line, run_lines}
use Rattle.report_text.proofs.Asked.{empty, filled}
use Rattle.report_text.proofs.RunLemmas.{run_one, run_step}
use Rattle.report_text.proofs.row_runs.+push_run.Goals as goal

-- the first node and the others
split : (us rest : List ℕ) → rest ≡ drop 1 us → 0 < length us → us ≡ slice_index_or us 0 0 ∷ rest
split us rest e h = drop-cons us 0 0 h ∙ ap (λ l. slice_index_or us 0 0 ∷ l) (sym e)

-- the rows under one state more are rows of the answer
row_room : (first next s c below total rows : ℕ) → next ≡ first + s * below → s < c → total ≡ c * below → first + total ≤ rows → next + below ≤ rows
row_room first next s c below total rows e h f k =
    let l : (s + 1) * below ≤ c * below = mul-le-mul_right below (omega (arith, h)) in
    omega (arith, e, f, k, l)

-- the row that is left alone is one of the answer's
one_left : (nodes : List NodeView) (answer : AnswerView) (us : List ℕ) (first : ℕ) → us ≡ [] → first + rows_under (states_of nodes) us ≤ length answer.rows → first < length answer.rows
one_left nodes answer us first none h = omega (arith, h, ap (rows_under (states_of nodes)) none)

pub index-row-requires : goal.index-row-requires
index-row-requires t c =
    let answer : AnswerView = c.args.sheet.now.answer.now in
    let within = one_left c.args.sheet.now.diagram.now.nodes answer c.args.others.now c.args.first (empty c.args.others.now c.if-is_empty.ensures) c.requires.rows in
    omega (arith, within, ap (λ (a : AnswerView). length a.rows) c.answer.view_is, c.answer.inside.rows.ok.0)

pub push_labelled-requires-clause-fit : goal.push_labelled-requires-clause-fit
push_labelled-requires-clause-fit t c = c.requires.fit

pub push_labelled-requires-clause-decision : goal.push_labelled-requires-clause-decision
push_labelled-requires-clause-decision t c =
    subst (λ (a : AnswerView). IsDecision c.args.sheet.now.diagram.now.nodes a.decision) (sym c.answer.view_is) c.requires.answer.decision

pub push_labelled-requires-clause-choice : goal.push_labelled-requires-clause-choice
push_labelled-requires-clause-choice t c =
    let nodes = c.args.sheet.now.diagram.now.nodes in
    let answer : AnswerView = c.args.sheet.now.answer.now in
    let within = one_left nodes answer c.args.others.now c.args.first (empty c.args.others.now c.if-is_empty.ensures) c.requires.rows in
    let row = c.index-row.ensures ∙ ap (λ (a : AnswerView). slice_index_or a.rows c.args.first c.index-row.result.now) c.answer.view_is in
    let decided = ap (λ (a : AnswerView). states_of nodes a.decision) c.answer.view_is in
    let fits = c.requires.answer.choices c.args.first c.index-row.result.now within in
    omega (arith, fits, decided, ap (λ (r : Row). r.choice) row)

pub overflow_add-result : goal.overflow_add-result
overflow_add-result t c =
    let answer : AnswerView = c.args.sheet.now.answer.now in
    let within = one_left c.args.sheet.now.diagram.now.nodes answer c.args.others.now c.args.first (empty c.args.others.now c.if-is_empty.ensures) c.requires.rows in
    search rules

pub returns-in_err-push_labelled-clause-lines : goal.returns-in_err-push_labelled-clause-lines
returns-in_err-push_labelled-clause-lines t c = rw (err_from_is_err_and c.from_residual.result c.from_residual.ensures.1).1 tt

pub returns-in_err-push_labelled-clause-next : goal.returns-in_err-push_labelled-clause-next
returns-in_err-push_labelled-clause-next t c = rw (err_from_is_err_and c.from_residual.result c.from_residual.ensures.1).1 tt

pub returns-in_err-push_labelled-clause-labels : goal.returns-in_err-push_labelled-clause-labels
returns-in_err-push_labelled-clause-labels t c = rw (err_from_is_err_and c.from_residual.result c.from_residual.ensures.1).1 tt

pub returns-then-is_empty-clause-next : goal.returns-then-is_empty-clause-next
returns-then-is_empty-clause-next t c =
    sym (ap (λ l. c.args.first + rows_under (states_of c.args.sheet.now.diagram.now.nodes) l) (empty c.args.others.now c.if-is_empty.ensures))

pub bounds-others-0 : goal.bounds-others-0
bounds-others-0 t c = filled c.args.others.now c.if-is_empty.ensures

pub behind_first-rest-requires : goal.behind_first-rest-requires
behind_first-rest-requires t c = filled c.args.others.now c.if-is_empty.ensures

pub states_of-state-end-requires : goal.states_of-state-end-requires
states_of-state-end-requires t c = (c.requires.others 0 0 (filled c.args.others.now c.if-is_empty.ensures)).0

pub loop-state-init : goal.loop-state-init
loop-state-init t c =
    let nodes = c.args.sheet.now.diagram.now.nodes in
    let none : 0 * rows_under (states_of nodes) c.behind_first-rest.result.now ≡ 0 = omega arith in
    record {
      next = omega arith;
      labels = refl;
      lines = sym (ap (λ n. c.args.out.now.items ++ run_lines nodes c.args.sheet.now.names.now c.args.sheet.now.answer.now c.args.labels.now.items c.args.others.now c.args.first 0 n) none ∙ append-nil c.args.out.now.items);
    }

pub push_label-requires-clause-fit : goal.push_label-requires-clause-fit
push_label-requires-clause-fit t c = c.requires.fit

pub push_label-requires-clause-node : goal.push_label-requires-clause-node
push_label-requires-clause-node t c = (c.requires.others 0 0 (filled c.args.others.now c.if-is_empty.ensures)).0

pub push_label-requires-clause-kind : goal.push_label-requires-clause-kind
push_label-requires-clause-kind t c = (c.requires.others 0 0 (filled c.args.others.now c.if-is_empty.ensures)).1

pub push_label-requires-clause-state : goal.push_label-requires-clause-state
push_label-requires-clause-state t c = subst (λ n. c.loop-state.state < n) c.states_of-state-end.ensures.states c.loop-state-test.true

pub returns-in_err-push_label-clause-lines : goal.returns-in_err-push_label-clause-lines
returns-in_err-push_label-clause-lines t c = rw (err_from_is_err_and c.from_residual-in_err-push_label.result c.from_residual-in_err-push_label.ensures.1).1 tt

pub returns-in_err-push_label-clause-next : goal.returns-in_err-push_label-clause-next
returns-in_err-push_label-clause-next t c = rw (err_from_is_err_and c.from_residual-in_err-push_label.result c.from_residual-in_err-push_label.ensures.1).1 tt

pub returns-in_err-push_label-clause-labels : goal.returns-in_err-push_label-clause-labels
returns-in_err-push_label-clause-labels t c = rw (err_from_is_err_and c.from_residual-in_err-push_label.result c.from_residual-in_err-push_label.ensures.1).1 tt

pub returns-in_err-next-clause-lines : goal.returns-in_err-next-clause-lines
returns-in_err-next-clause-lines t c = rw (err_from_is_err_and c.from_residual-in_err-next.result c.from_residual-in_err-next.ensures.1).1 tt

pub returns-in_err-next-clause-next : goal.returns-in_err-next-clause-next
returns-in_err-next-clause-next t c = rw (err_from_is_err_and c.from_residual-in_err-next.result c.from_residual-in_err-next.ensures.1).1 tt

pub returns-in_err-next-clause-labels : goal.returns-in_err-next-clause-labels
returns-in_err-next-clause-labels t c = rw (err_from_is_err_and c.from_residual-in_err-next.result c.from_residual-in_err-next.ensures.1).1 tt

pub loop-state-smaller : goal.loop-state-smaller
loop-state-smaller t c = omega (arith, c.loop-state-test.true)

pub push_run-requires : goal.push_run-requires
push_run-requires t c =
    let nodes = c.args.sheet.now.diagram.now.nodes in
    let us = c.args.others.now in
    let rest = c.behind_first-rest.result.now in
    let some = filled us c.if-is_empty.ensures in
    let whole = split us rest c.behind_first-rest.ensures some in
    let shorter : length rest < length us = omega (arith, ap length c.behind_first-rest.ensures, length-drop 1 us) in
    let known : All (λ u. (u < length nodes) × ((node_at nodes u).kind ≢ Utility)) rest =
    (λ k d h. subst (All (λ u. (u < length nodes) × ((node_at nodes u).kind ≢ Utility))) whole c.requires.others (suc k) d (omega (arith, h))) in
    let room = row_room c.args.first c.loop-state.next c.loop-state.state (states_of nodes (slice_index_or us 0 0)) (rows_under (states_of nodes) rest) (rows_under (states_of nodes) us) (length c.args.sheet.now.answer.now.rows)
    c.loop-state.invariant.next (subst (λ n. c.loop-state.state < n) c.states_of-state-end.ensures.states c.loop-state-test.true) (ap (rows_under (states_of nodes)) whole) c.requires.rows in
    (search rules, (c.requires.fit, (c.requires.answer, (known, room))))

pub loop-state-preserved : goal.loop-state-preserved
loop-state-preserved t c =
    let nodes = c.args.sheet.now.diagram.now.nodes in
    let names = c.args.sheet.now.names.now in
    let answer : AnswerView = c.args.sheet.now.answer.now in
    let us = c.args.others.now in
    let u = slice_index_or us 0 0 in
    let rest = c.behind_first-rest.result.now in
    let below = rows_under (states_of nodes) rest in
    let some = filled us c.if-is_empty.ensures in
    let whole = split us rest c.behind_first-rest.ensures some in
    let labels = c.args.labels.now.items in
    let label = 32 ∷ quoted (label_of names u c.loop-state.state) in
    let added : c.push_label.new.out.items ≡ labels ++ label = c.in_ok-push_label.ensures ∙ ap (λ l. l ++ label) c.loop-state.invariant.labels in
    record {
      next = c.in_ok-next.ensures.next ∙ omega (arith, c.loop-state.invariant.next);
      labels = c.truncate.ensures.items ∙ ap (λ l. take c.len-chosen.result l) (c.in_ok-next.ensures.labels ∙ added) ∙ take_at labels label c.len-chosen.result (omega (arith, c.len-chosen.ensures, c.args.labels.now.ok.0));
      lines = c.in_ok-next.ensures.lines
          ∙ (λ i. c.loop-state.invariant.lines i ++ run_lines nodes names answer (added i) rest (c.loop-state.invariant.next i) 0 below)
          ∙ append_assoc c.args.out.now.items (run_lines nodes names answer labels us c.args.first 0 (c.loop-state.state * below)) (run_lines nodes names answer (labels ++ label) rest (c.args.first + c.loop-state.state * below) 0 below)
          ∙ ap (λ l. c.args.out.now.items ++ (run_lines nodes names answer labels l c.args.first 0 (c.loop-state.state * below) ++ run_lines nodes names answer (labels ++ label) rest (c.args.first + c.loop-state.state * below) 0 below)) whole
          ∙ ap (λ l. c.args.out.now.items ++ l) (sym (run_step nodes names answer labels u rest c.args.first c.loop-state.state))
          ∙ ap (λ l. c.args.out.now.items ++ run_lines nodes names answer labels l c.args.first 0 ((c.loop-state.state + 1) * below)) (sym whole);
    }

pub returns-then-is_empty-clause-lines : goal.returns-then-is_empty-clause-lines
returns-then-is_empty-clause-lines t c =
    let nodes = c.args.sheet.now.diagram.now.nodes in
    let names = c.args.sheet.now.names.now in
    let answer : AnswerView = c.args.sheet.now.answer.now in
    let us = c.args.others.now in
    let labels = c.args.labels.now.items in
    let none : us ≡ [] = empty us c.if-is_empty.ensures in
    let within : c.args.first < length answer.rows = omega (arith, c.requires.rows, ap (rows_under (states_of nodes)) none) in
    let row : c.index-row.result.now ≡ slice_index_or answer.rows c.args.first no_row =
    c.index-row.ensures ∙ ap (λ (a : AnswerView). slice_index_or a.rows c.args.first c.index-row.result.now) c.answer.view_is ∙ get_or_default answer.rows c.args.first c.index-row.result.now no_row within in
    let decided : c.answer.inside.decision ≡ answer.decision = ap (λ (a : AnswerView). a.decision) c.answer.view_is in
    c.in_ok-push_labelled.ensures
    ∙ (λ i. c.args.out.now.items ++ labelled_line names (decided i) (c.deref.ensures.value i) c.args.first (row i))
    ∙ ap (λ l. c.args.out.now.items ++ l) (sym (run_one nodes names answer labels c.args.first))
    ∙ ap (λ l. c.args.out.now.items ++ run_lines nodes names answer labels l c.args.first 0 (rows_under (states_of nodes) l)) (sym none)

-- the rows so far are those under all others
all_under : (count : ℕ → ℕ) (us rest : List ℕ) (s : ℕ) → us ≡ slice_index_or us 0 0 ∷ rest → s ≡ count (slice_index_or us 0 0) → s * rows_under count rest ≡ rows_under count us
all_under count us rest s whole e = ap (λ n. n * rows_under count rest) e ∙ sym (ap (rows_under count) whole)

pub returns-clause-lines : goal.returns-clause-lines
returns-clause-lines t c =
    let nodes = c.args.sheet.now.diagram.now.nodes in
    let us = c.args.others.now in
    let rest = c.behind_first-rest.result.now in
    let whole = split us rest c.behind_first-rest.ensures (filled us c.if-is_empty.ensures) in
    let done : c.loop-state.state ≡ states_of nodes (slice_index_or us 0 0) = omega (arith, c.loop-state-test.false, c.states_of-state-end.ensures.states) in
    c.loop-state.invariant.lines ∙ ap (λ n. c.args.out.now.items ++ run_lines nodes c.args.sheet.now.names.now c.args.sheet.now.answer.now c.args.labels.now.items us c.args.first 0 n) (all_under (states_of nodes) us rest c.loop-state.state whole done)

pub returns-clause-next : goal.returns-clause-next
returns-clause-next t c =
    let nodes = c.args.sheet.now.diagram.now.nodes in
    let us = c.args.others.now in
    let rest = c.behind_first-rest.result.now in
    let whole = split us rest c.behind_first-rest.ensures (filled us c.if-is_empty.ensures) in
    let done : c.loop-state.state ≡ states_of nodes (slice_index_or us 0 0) = omega (arith, c.loop-state-test.false, c.states_of-state-end.ensures.states) in
    c.loop-state.invariant.next ∙ ap (λ n. c.args.first + n) (all_under (states_of nodes) us rest c.loop-state.state whole done)

pub returns-clause-labels : goal.returns-clause-labels
returns-clause-labels t c = c.loop-state.invariant.labels
