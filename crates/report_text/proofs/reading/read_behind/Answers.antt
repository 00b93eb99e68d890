use Rattle.std.proofs.Common.{◌∷◌, [], ◌++◌, subst, sym, All, arith}
use Rattle.maid_model.specs.Nodes.{IsDecision}
use Rattle.std.specs.List.{flat_map}
use Rattle.std.proofs.lemmas.Result.{err_from_is_err_and}
use Rattle.report_text.specs.Slots.{End, IsStuck, ReadsAnswers, ReadsGains, answer_slots, gain_slots}
use Rattle.report_text.proofs.Standing.{stands}
use Rattle.report_text.proofs.Stops.{passes_then, stuck_behind, stuck_front}
use Rattle.report_text.proofs.Turns.{behind_bytes}
use Rattle.report_text.proofs.reading.read_behind.Goals as goal

pub returns-in_err-answers-clause-err : goal.returns-in_err-answers-clause-err
returns-in_err-answers-clause-err c =
    let p = err_from_is_err_and c.from_residual.result c.from_residual.ensures.1 in
    let stuck = subst (λ xs. IsStuck c.args.diagram.now.nodes c.args.names.now (flat_map (answer_slots c.args.diagram.now.nodes c.args.names.now) xs) c.args.lines.now c.in_err-answers.field-0.0) c.deref.ensures.value c.in_err-answers.ensures.err in
    rw (p.1, p.2)
    (stuck_front c.args.diagram.now.nodes c.args.names.now (flat_map (answer_slots c.args.diagram.now.nodes c.args.names.now) c.args.order.items ++ gain_slots 0 c.args.diagram.now.agents) (End ∷ []) c.args.lines.now c.in_err-answers.field-0.0
    (stuck_front c.args.diagram.now.nodes c.args.names.now (flat_map (answer_slots c.args.diagram.now.nodes c.args.names.now) c.args.order.items) (gain_slots 0 c.args.diagram.now.agents) c.args.lines.now c.in_err-answers.field-0.0 stuck))

pub returns-in_err-gains-clause-err : goal.returns-in_err-gains-clause-err
returns-in_err-gains-clause-err c =
    let p = err_from_is_err_and c.from_residual-in_err-gains.result c.from_residual-in_err-gains.ensures.1 in
    let a = (subst (λ xs. ReadsAnswers c.args.diagram.now.nodes c.args.names.now xs c.in_ok-answers.answers.items c.args.lines.now c.next_answers.new.lines) c.deref.ensures.value c.in_ok-answers.ensures.ok) in
    let stuck = subst (λ n. IsStuck c.args.diagram.now.nodes c.args.names.now (gain_slots 0 n) c.next_answers.new.lines c.in_err-gains.field-0.0) c.requires.agents (c.in_err-gains.ensures.err c.args.diagram.now.nodes) in
    rw (p.1, p.2)
    (stuck_front c.args.diagram.now.nodes c.args.names.now (flat_map (answer_slots c.args.diagram.now.nodes c.args.names.now) c.args.order.items ++ gain_slots 0 c.args.diagram.now.agents) (End ∷ []) c.args.lines.now c.in_err-gains.field-0.0
    (stuck_behind c.args.diagram.now.nodes c.args.names.now (flat_map (answer_slots c.args.diagram.now.nodes c.args.names.now) c.args.order.items) (gain_slots 0 c.args.diagram.now.agents) c.args.lines.now c.next_answers.new.lines c.in_err-gains.field-0.0 a.passes stuck))

pub returns-in_err-pass_end-clause-err : goal.returns-in_err-pass_end-clause-err
returns-in_err-pass_end-clause-err c =
    let p = err_from_is_err_and c.from_residual-in_err-pass_end.result c.from_residual-in_err-pass_end.ensures.1 in
    let a = (subst (λ xs. ReadsAnswers c.args.diagram.now.nodes c.args.names.now xs c.in_ok-answers.answers.items c.args.lines.now c.next_answers.new.lines) c.deref.ensures.value c.in_ok-answers.ensures.ok) in
    let g = (subst (λ n. ReadsGains c.args.diagram.now.nodes c.args.names.now n c.in_ok-gains.gains.items c.next_answers.new.lines c.next_gains.new.lines) c.requires.agents (c.in_ok-gains.ensures.ok c.args.diagram.now.nodes)) in
    rw (p.1, p.2)
    (stuck_behind c.args.diagram.now.nodes c.args.names.now (flat_map (answer_slots c.args.diagram.now.nodes c.args.names.now) c.args.order.items ++ gain_slots 0 c.args.diagram.now.agents) (End ∷ []) c.args.lines.now c.next_gains.new.lines c.in_err-pass_end.field-0.0
    (passes_then c.args.diagram.now.nodes c.args.names.now (flat_map (answer_slots c.args.diagram.now.nodes c.args.names.now) c.args.order.items) (gain_slots 0 c.args.diagram.now.agents) c.args.lines.now c.next_answers.new.lines c.next_gains.new.lines a.passes g.passes) (c.in_err-pass_end.ensures.err c.args.diagram.now.nodes c.args.names.now))

pub returns-clause-value : goal.returns-clause-value
returns-clause-value c =
    let a = (subst (λ xs. ReadsAnswers c.args.diagram.now.nodes c.args.names.now xs c.in_ok-answers.answers.items c.args.lines.now c.next_answers.new.lines) c.deref.ensures.value c.in_ok-answers.ensures.ok) in
    let g = (subst (λ n. ReadsGains c.args.diagram.now.nodes c.args.names.now n c.in_ok-gains.gains.items c.next_answers.new.lines c.next_gains.new.lines) c.requires.agents (c.in_ok-gains.ensures.ok c.args.diagram.now.nodes)) in
    stands c.args.diagram.now c.args.order.items c.in_ok-answers.answers.items c.in_ok-gains.gains.items c.requires.order a.follow a.each g.count g.gains

pub returns-clause-bytes : goal.returns-clause-bytes
returns-clause-bytes c =
    let a = (subst (λ xs. ReadsAnswers c.args.diagram.now.nodes c.args.names.now xs c.in_ok-answers.answers.items c.args.lines.now c.next_answers.new.lines) c.deref.ensures.value c.in_ok-answers.ensures.ok) in
    let g = (subst (λ n. ReadsGains c.args.diagram.now.nodes c.args.names.now n c.in_ok-gains.gains.items c.next_answers.new.lines c.next_gains.new.lines) c.requires.agents (c.in_ok-gains.ensures.ok c.args.diagram.now.nodes)) in
    behind_bytes c.args.diagram.now.nodes c.args.names.now c.args.order.items c.args.diagram.now.agents c.in_ok-answers.answers.items c.in_ok-gains.gains.items c.args.lines.now c.next_answers.new.lines c.next_gains.new.lines a g c.in_ok-pass_end.ensures.ok

pub next_answers-requires-clause-order : goal.next_answers-requires-clause-order
next_answers-requires-clause-order c = subst (λ xs. All (IsDecision c.args.diagram.now.nodes) xs) (sym c.deref.ensures.value) c.requires.order.decisions

pub next_gains-requires : goal.next_gains-requires
next_gains-requires c = omega (arith, c.requires.agents, c.requires.fit.agents)
