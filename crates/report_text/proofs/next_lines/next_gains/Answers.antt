use Rattle.std.proofs.Common.{◌≡◌, ◌∷◌, [], ◌++◌, subst, rules, arith}
use Rattle.std.proofs.lemmas.Result.{err_from_is_err_and}
use Rattle.report_text.specs.Slots.{ReadsGains}
use Rattle.report_text.proofs.Turns.{gains_step, gains_stuck}
use Rattle.report_text.proofs.next_lines.next_gains.Goals as goal

pub returns-in_err-gain-clause-err : goal.returns-in_err-gain-clause-err
returns-in_err-gain-clause-err c =
    let p = err_from_is_err_and c.from_residual.result c.from_residual.ensures.1 in
    rw (p.1, p.2)
    (λ nodes. gains_stuck nodes c.args.names.now c.loop-agent.agent c.args.agents c.loop-agent.gains.items c.args.lines.now c.loop-agent.lines c.in_err-gain.field-0.0 c.loop-agent-test.true (c.loop-agent.invariant nodes) (c.in_err-gain.ensures.err nodes))

pub loop-agent-preserved : goal.loop-agent-preserved
loop-agent-preserved c nodes =
    let items : c.push.new.self.items ≡ c.loop-agent.gains.items ++ c.in_ok-gain.gain ∷ [] = search rules in
    rw items
    (gains_step nodes c.args.names.now c.loop-agent.agent c.loop-agent.gains.items c.in_ok-gain.gain c.args.lines.now c.loop-agent.lines c.next_gain.new.lines (c.loop-agent.invariant nodes) c.in_ok-gain.ensures.ok.0 c.in_ok-gain.ensures.ok.1)

pub returns-clause-ok : goal.returns-clause-ok
returns-clause-ok c nodes =
    let done : c.loop-agent.agent ≡ c.args.agents = omega arith in
    subst (λ n. ReadsGains nodes c.args.names.now n c.loop-agent.gains.items c.args.lines.now c.loop-agent.lines) done (c.loop-agent.invariant nodes)
