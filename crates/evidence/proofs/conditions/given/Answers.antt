use Rattle.maid_model.specs.Nodes.{states_of}
use Rattle.evidence.specs.Conditional.{IsWorthIn}
use Rattle.evidence.proofs.Seen.{count_same, states_at}
use Rattle.evidence.proofs.HandedOn.{first_fault}
use Rattle.std.proofs.lemmas.Result.{IfOk-from_err}
use Rattle.std.proofs.Common.{rules, None, subst, sym, ◌<◌, length}
use Rattle.first_fault.specs.Answers.{Passes}
use Rattle.first_fault.proofs.Leading.{passes_on}
use Rattle.maid_model.specs.Answers.{IsAnswer}
use Rattle.maid_model.specs.Views.{DiagramView}
use Rattle.reach_laws.specs.Evidence.{IsEvidence, all_seeing_diagram}
use Rattle.evidence.specs.Faults.{answer_pass, given_fault, sight_pass}
use Rattle.evidence.proofs.conditions.given.Goals as goal

pub condition-requires-clause-evidence : goal.condition-requires-clause-evidence
condition-requires-clause-evidence c =
    let d = c.args.diagram.now in
    let old = c.in_ok-seen.ensures.diagram in
    subst (λ (seen : DiagramView). IsEvidence seen.nodes c.args.node) (sym c.in_ok-seen.ensures.seen) (c.seen_everywhere.ensures.kept d.nodes c.args.node old.graph old.tables c.in_ok-seen.ensures.evidence).2

-- what refuses the answer refuses the evidence
pub returns-in_err-solved-clause-rows : goal.returns-in_err-solved-clause-rows
returns-in_err-solved-clause-rows c =
    let d = c.args.diagram.now in
    let x = c.args.node in
    let state = c.args.state in
    let rows : Passes given_fault (answer_pass c.in_ok-seen.seen x state) c.from_residual-in_err-solved.result = search rules in
    passes_on given_fault (sight_pass d x) (answer_pass (all_seeing_diagram d x) x state) c.from_residual-in_err-solved.result c.in_ok-seen.ensures.rows
    (subst (λ seen. Passes given_fault (answer_pass seen x state) c.from_residual-in_err-solved.result) c.in_ok-seen.ensures.seen rows)

-- or nothing does
pub returns-clause-rows : goal.returns-clause-rows
returns-clause-rows c = (c.in_ok-seen.ensures.rows, subst (λ seen. answer_pass seen c.args.node c.args.state None) c.in_ok-seen.ensures.seen c.in_ok-solved.ensures.rows)

-- an answer of a diagram is subgame-perfect
pub returns-clause-subgame_perfect : goal.returns-clause-subgame_perfect
returns-clause-subgame_perfect c =
    let d = c.args.diagram.now in
    let x = c.args.node in
    let old = c.in_ok-seen.ensures.diagram in
    let kept = c.seen_everywhere.ensures.kept d.nodes x old.graph old.tables c.in_ok-seen.ensures.evidence in
    let solved = c.in_ok-solved.solved in
    c.answers_are_subgame_perfect.ensures.law (all_seeing_diagram d x) solved kept.0 kept.1 (subst (λ seen. IsAnswer seen solved) c.in_ok-seen.ensures.seen c.in_ok-solved.ensures.ok)

-- and best given the state where one agent owns all decisions
pub returns-clause-best : goal.returns-clause-best
returns-clause-best c =
    let d = c.args.diagram.now in
    let x = c.args.node in
    let old = c.in_ok-seen.ensures.diagram in
    let solved = c.in_ok-solved.solved in
    let h = subst (λ seen. IsAnswer seen solved) c.in_ok-seen.ensures.seen c.in_ok-solved.ensures.ok in
    record { greatest = λ agent t owns p. c.best_given.ensures.answer d solved t agent x c.args.state old.graph old.tables c.in_ok-seen.ensures.evidence owns h p }

pub see-requires-clause-within : goal.see-requires-clause-within
see-requires-clause-within c = c.requires.within

pub see-requires-clause-kind : goal.see-requires-clause-kind
see-requires-clause-kind c = c.requires.kind

pub returns-in_err-seen-clause-rows : goal.returns-in_err-seen-clause-rows
returns-in_err-seen-clause-rows c = first_fault given_fault (sight_pass c.args.diagram.now c.args.node) (answer_pass (all_seeing_diagram c.args.diagram.now c.args.node) c.args.node c.args.state) _ _ c.in_err-seen.ensures.rows c.from_residual.ensures

pub returns-in_err-seen-clause-diagram : goal.returns-in_err-seen-clause-diagram
returns-in_err-seen-clause-diagram c = IfOk-from_err _ _ c.from_residual.ensures.0

pub returns-in_err-seen-clause-ok : goal.returns-in_err-seen-clause-ok
returns-in_err-seen-clause-ok c = IfOk-from_err _ _ c.from_residual.ensures.0

pub returns-in_err-seen-clause-gains : goal.returns-in_err-seen-clause-gains
returns-in_err-seen-clause-gains c = IfOk-from_err _ _ c.from_residual.ensures.0

pub returns-in_err-seen-clause-subgame_perfect : goal.returns-in_err-seen-clause-subgame_perfect
returns-in_err-seen-clause-subgame_perfect c = IfOk-from_err _ _ c.from_residual.ensures.0

pub returns-in_err-seen-clause-best : goal.returns-in_err-seen-clause-best
returns-in_err-seen-clause-best c = IfOk-from_err _ _ c.from_residual.ensures.0

pub condition-requires-clause-within : goal.condition-requires-clause-within
condition-requires-clause-within c =
    subst (λ (seen : DiagramView). c.args.node < length seen.nodes) (sym c.in_ok-seen.ensures.seen) (subst (λ n. c.args.node < n) (sym (count_same c.args.diagram.now.nodes c.args.node)) c.requires.within)

pub condition-requires-clause-state : goal.condition-requires-clause-state
condition-requires-clause-state c =
    subst (λ (seen : DiagramView). c.args.state < states_of seen.nodes c.args.node) (sym c.in_ok-seen.ensures.seen)
    (subst (λ n. c.args.state < n) (sym (states_at c.args.diagram.now.nodes c.args.node c.args.node)) c.requires.state)

pub returns-in_err-solved-clause-diagram : goal.returns-in_err-solved-clause-diagram
returns-in_err-solved-clause-diagram c = IfOk-from_err _ _ c.from_residual-in_err-solved.ensures.0

pub returns-in_err-solved-clause-ok : goal.returns-in_err-solved-clause-ok
returns-in_err-solved-clause-ok c = IfOk-from_err _ _ c.from_residual-in_err-solved.ensures.0

pub returns-in_err-solved-clause-gains : goal.returns-in_err-solved-clause-gains
returns-in_err-solved-clause-gains c = IfOk-from_err _ _ c.from_residual-in_err-solved.ensures.0

pub returns-in_err-solved-clause-subgame_perfect : goal.returns-in_err-solved-clause-subgame_perfect
returns-in_err-solved-clause-subgame_perfect c = IfOk-from_err _ _ c.from_residual-in_err-solved.ensures.0

pub returns-in_err-solved-clause-best : goal.returns-in_err-solved-clause-best
returns-in_err-solved-clause-best c = IfOk-from_err _ _ c.from_residual-in_err-solved.ensures.0

pub returns-clause-diagram : goal.returns-clause-diagram
returns-clause-diagram c = c.in_ok-seen.ensures.seen

pub returns-clause-ok : goal.returns-clause-ok
returns-clause-ok c = subst (λ seen. IsAnswer seen c.in_ok-solved.solved) c.in_ok-seen.ensures.seen c.in_ok-solved.ensures.ok

pub returns-clause-gains : goal.returns-clause-gains
returns-clause-gains c = subst (λ seen. IsWorthIn seen c.args.node c.args.state c.in_ok-solved.solved c.in_ok-solved.gains.items) c.in_ok-seen.ensures.seen c.in_ok-solved.ensures.gains
