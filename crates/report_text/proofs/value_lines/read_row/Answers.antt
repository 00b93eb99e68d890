-- Each piece of the line is the one that the row is made of, since what stands behind a known front
-- is known.
use Rattle.std.proofs.Common.{◌≡◌, ◌+◌, ◌<◌, ◌++◌, sym, ◌∙◌, ap, subst, append_assoc, arith}
use Rattle.std.specs.Prelude.{decimal}
use Rattle.maid_model.specs.Names.{label_of}
use Rattle.maid_model.specs.Reports.{quoted, worth_text}
use Rattle.report_text.specs.Slots.{row_front, state_text}
use Rattle.report_text.proofs.Tails.{behind_is}
use Rattle.report_text.proofs.value_lines.read_row.Goals as goal

pub returns-in_default : goal.returns-in_default
returns-in_default c row is e =
    let front : c.deref.result.now ≡ row_front c.args.diagram.now.nodes c.args.names.now c.args.decision c.args.number = c.deref.ensures.value ∙ c.in_ok-push_row_front.ensures ∙ ap (λ xs. xs ++ row_front c.args.diagram.now.nodes c.args.names.now c.args.decision c.args.number) c.clear.ensures.items in
    let wanted = state_text c.args.names.now c.args.decision row.choice ++ worth_text row.worth in
    c.in_default.ensures wanted (e ∙ ap (λ x. x ++ wanted) (sym front))

pub returns-in_default-read_state : goal.returns-in_default-read_state
returns-in_default-read_state c row is e =
    let front : c.deref.result.now ≡ row_front c.args.diagram.now.nodes c.args.names.now c.args.decision c.args.number = c.deref.ensures.value ∙ c.in_ok-push_row_front.ensures ∙ ap (λ xs. xs ++ row_front c.args.diagram.now.nodes c.args.names.now c.args.decision c.args.number) c.clear.ensures.items in
    let wanted = state_text c.args.names.now c.args.decision row.choice ++ worth_text row.worth in
    let rest = behind_is c.args.line.now c.deref.result.now (row_front c.args.diagram.now.nodes c.args.names.now c.args.decision c.args.number) c.in-Some.state_on.now wanted c.in-Some.ensures front e in
    let choice = subst (λ n. row.choice < n) (sym c.states.ensures.states) is.choice in
    c.in_default-read_state.ensures.none row.choice (quoted (label_of c.args.names.now c.args.decision row.choice) ++ worth_text row.worth) choice (rest ∙ append_assoc (decimal (row.choice + 1)) _ _)

pub returns-in_default-behind : goal.returns-in_default-behind
returns-in_default-behind c row is e =
    let front : c.deref.result.now ≡ row_front c.args.diagram.now.nodes c.args.names.now c.args.decision c.args.number = c.deref.ensures.value ∙ c.in_ok-push_row_front.ensures ∙ ap (λ xs. xs ++ row_front c.args.diagram.now.nodes c.args.names.now c.args.decision c.args.number) c.clear.ensures.items in
    let wanted = state_text c.args.names.now c.args.decision row.choice ++ worth_text row.worth in
    let rest = behind_is c.args.line.now c.deref.result.now (row_front c.args.diagram.now.nodes c.args.names.now c.args.decision c.args.number) c.in-Some.state_on.now wanted c.in-Some.ensures front e in
    let choice = subst (λ n. row.choice < n) (sym c.states.ensures.states) is.choice in
    let same = c.in-Some-read_state.ensures.value row.choice (quoted (label_of c.args.names.now c.args.decision row.choice) ++ worth_text row.worth) choice (rest ∙ append_assoc (decimal (row.choice + 1)) _ _) in
    let state : c.deref-2.result.now ≡ state_text c.args.names.now c.args.decision c.in-Some-read_state.choice = c.deref-2.ensures.value ∙ c.in_ok-push_state.ensures ∙ ap (λ xs. xs ++ state_text c.args.names.now c.args.decision c.in-Some-read_state.choice) c.clear-2.ensures.items in
    c.in_default-behind.ensures (worth_text row.worth) (rest ∙ ap (λ x. x ++ worth_text row.worth) (sym (state ∙ ap (state_text c.args.names.now c.args.decision) same)))

pub returns-in-None : goal.returns-in-None
returns-in-None c row is e =
    let front : c.deref.result.now ≡ row_front c.args.diagram.now.nodes c.args.names.now c.args.decision c.args.number = c.deref.ensures.value ∙ c.in_ok-push_row_front.ensures ∙ ap (λ xs. xs ++ row_front c.args.diagram.now.nodes c.args.names.now c.args.decision c.args.number) c.clear.ensures.items in
    let wanted = state_text c.args.names.now c.args.decision row.choice ++ worth_text row.worth in
    let rest = behind_is c.args.line.now c.deref.result.now (row_front c.args.diagram.now.nodes c.args.names.now c.args.decision c.args.number) c.in-Some.state_on.now wanted c.in-Some.ensures front e in
    let choice = subst (λ n. row.choice < n) (sym c.states.ensures.states) is.choice in
    let same = c.in-Some-read_state.ensures.value row.choice (quoted (label_of c.args.names.now c.args.decision row.choice) ++ worth_text row.worth) choice (rest ∙ append_assoc (decimal (row.choice + 1)) _ _) in
    let state : c.deref-2.result.now ≡ state_text c.args.names.now c.args.decision c.in-Some-read_state.choice = c.deref-2.ensures.value ∙ c.in_ok-push_state.ensures ∙ ap (λ xs. xs ++ state_text c.args.names.now c.args.decision c.in-Some-read_state.choice) c.clear-2.ensures.items in
    c.in-None.ensures.none row.worth is.worth (behind_is c.in-Some.state_on.now c.deref-2.result.now (state_text c.args.names.now c.args.decision row.choice) c.in-Some-behind.worth_on.now (worth_text row.worth) c.in-Some-behind.ensures (state ∙ ap (state_text c.args.names.now c.args.decision) same) rest)

pub returns-in-Some-read_worth : goal.returns-in-Some-read_worth
returns-in-Some-read_worth c =
    let front : c.deref.result.now ≡ row_front c.args.diagram.now.nodes c.args.names.now c.args.decision c.args.number = c.deref.ensures.value ∙ c.in_ok-push_row_front.ensures ∙ ap (λ xs. xs ++ row_front c.args.diagram.now.nodes c.args.names.now c.args.decision c.args.number) c.clear.ensures.items in
    let state : c.deref-2.result.now ≡ state_text c.args.names.now c.args.decision c.in-Some-read_state.choice = c.deref-2.ensures.value ∙ c.in_ok-push_state.ensures ∙ ap (λ xs. xs ++ state_text c.args.names.now c.args.decision c.in-Some-read_state.choice) c.clear-2.ensures.items in
    let shown = c.in-Some-read_worth.ensures.some in
    let behind = c.in-Some-behind.ensures ∙ ap (λ xs. xs ++ c.in-Some-behind.worth_on.now) state ∙ ap (λ xs. state_text c.args.names.now c.args.decision c.in-Some-read_state.choice ++ xs) shown.1 in
    (record { choice = omega (arith, c.in-Some-read_state.ensures.some, c.states.ensures.states); worth = shown.0 }, c.in-Some.ensures ∙ ap (λ xs. xs ++ c.in-Some.state_on.now) front ∙ ap (λ xs. row_front c.args.diagram.now.nodes c.args.names.now c.args.decision c.args.number ++ xs) behind)
