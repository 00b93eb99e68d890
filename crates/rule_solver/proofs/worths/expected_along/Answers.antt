use Rattle.std.proofs.Common.{◌≡◌, ◌<◌, ◌+◌, arith, refl, sym, subst}
use Rattle.std.proofs.lemmas.Result.{IfOk-from_err}
use Rattle.rule_solver.specs.Masses.{HasGains}
use Rattle.rule_solver.specs.Totals.{HasTotals}
use Rattle.rule_solver.specs.Worths.{HasWorthsFor}
use Rattle.rule_solver.proofs.GainLemmas.{gains-push}
use Rattle.rule_solver.proofs.StakeLemmas.{worths_for}
use Rattle.rule_solver.proofs.worths.expected_along.Goals as goal

pub expected-requires : goal.expected-requires
expected-requires c =
    let d = c.args.diagram.now in
    let within : c.loop-agent.agent < d.agents = subst (λ n. c.loop-agent.agent < n) c.agents-agent-end.ensures.agents c.loop-agent-test.true in
    record {
      stake = record {
        is_diagram = c.agents.ensures.diagram;
        within = within;
        profile = c.requires.profile;
        rules = c.requires.pure;
        bound = c.requires.bound.agents c.loop-agent.agent within;
        has_totals = subst (HasTotals d.nodes c.args.profile.now) (sym c.deref-in-loop-agent.ensures.value) c.in_ok-totals.ensures.totals;
        has_worths = subst (HasWorthsFor d.nodes c.args.profile.now c.loop-agent.agent) (sym c.deref-in-loop-agent-2.ensures.value) (worths_for d.nodes c.args.profile.now c.loop-agent.agent c.in_ok-worths.worths.items c.in_ok-worths.ensures.worths);
        is_scope = c.agent_scope.ensures;
      };
    }

pub loop-agent-preserved : goal.loop-agent-preserved
loop-agent-preserved c =
    subst (HasGains c.args.diagram.now c.args.profile.now (c.loop-agent.agent + 1)) (sym c.in_ok-push.ensures.items)
    (gains-push c.args.diagram.now c.args.profile.now c.loop-agent.agent c.loop-agent.gains.items c.expected.result c.loop-agent.invariant c.expected.ensures)

pub list_worths-requires-clause-totals : goal.list_worths-requires-clause-totals
list_worths-requires-clause-totals c = subst (HasTotals c.args.diagram.now.nodes c.args.profile.now) (sym c.deref.ensures.value) c.in_ok-totals.ensures.totals

pub list_worths-requires-clause-planned : goal.list_worths-requires-clause-planned
list_worths-requires-clause-planned c = c.requires.planned

pub list_worths-requires-clause-ready : goal.list_worths-requires-clause-ready
list_worths-requires-clause-ready c = (c.requires.ready.0, c.requires.ready.1.small, c.requires.ready.1.wide, c.requires.ready.2)

pub returns-clause-gains : goal.returns-clause-gains
returns-clause-gains c =
    let all : c.loop-agent.agent ≡ c.args.diagram.now.agents = omega (arith, c.loop-agent-test.false, c.loop-agent.auto.agent-end, c.agents-agent-end.ensures.agents) in
    subst (λ n. HasGains c.args.diagram.now c.args.profile.now n c.loop-agent.gains.items) all c.loop-agent.invariant

pub returns-clause-again : goal.returns-clause-again
returns-clause-again c =
    let again = c.in_ok-worths.ensures.again in
    λ i. record { small = again.0 i; wide = again.1 i; pairs = c.args.spaces.now.pairs; lists = tt; cells = c.args.spaces.now.cells; pair_cells = c.args.spaces.now.pair_cells }

pub list_worths-requires-clause-profile : goal.list_worths-requires-clause-profile
list_worths-requires-clause-profile c = c.requires.profile

pub list_worths-requires-clause-rules : goal.list_worths-requires-clause-rules
list_worths-requires-clause-rules c = c.requires.pure

pub list_worths-requires-clause-bound : goal.list_worths-requires-clause-bound
list_worths-requires-clause-bound c = c.requires.bound

pub loop-agent-init : goal.loop-agent-init
loop-agent-init c = subst (HasGains c.args.diagram.now c.args.profile.now 0) (sym c.in_ok-gains.ensures.items) (record { count = refl; each = λ agent r h. absurd (omega (arith, h)); reduced = λ k e h. absurd (omega (arith, h)) })

pub returns-in_err-push-clause-again : goal.returns-in_err-push-clause-again
returns-in_err-push-clause-again c = IfOk-from_err _ _ c.from_residual-in_err-push.ensures.0

pub returns-in_err-gains-clause-again : goal.returns-in_err-gains-clause-again
returns-in_err-gains-clause-again c = IfOk-from_err _ _ c.from_residual-in_err-gains.ensures.0
