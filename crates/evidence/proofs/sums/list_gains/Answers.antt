use borrow.Author.Count.{falls}
use Rattle.std.proofs.Common.{◌<◌, ◌+◌, List, sym, subst}
use Rattle.maid_model.specs.declared.answers.Ratio.{Ratio}
use Rattle.rule_solver.specs.Totals.{HasTotals}
use Rattle.evidence.specs.Conditional.{HasGainsGiven}
use Rattle.evidence.specs.Stakes.{HasWorthsAt}
use Rattle.evidence.proofs.Conditional.{expected_is, gains_push, stake}
use Rattle.scope_sums.proofs.Shares.{scale_some}
use Rattle.evidence.proofs.sums.list_gains.Goals as goal

pub expected-requires : goal.expected-requires
expected-requires c =
    let d = c.args.diagram.now in
    let p = c.args.profile.now in
    let within : c.loop-agent.agent < d.agents = subst (λ n. c.loop-agent.agent < n) c.agents-agent-end.ensures.agents c.loop-agent-test.true in
    record {
      stake = stake d c.args.node c.args.state c.agents.ensures.diagram c.requires.setting.within c.requires.setting.has_state p c.requires.setting.profile c.requires.setting.rules c.args.mass c.requires.mass c.deref-in-loop-agent.result.now
          (subst (HasWorthsAt d.nodes p c.args.node c.args.state) (sym c.deref-in-loop-agent.ensures.value) c.in_ok-worths.ensures)
          c.requires.setting.kind c.requires.setting.bounds c.requires.positive c.loop-agent.agent within c.scope_given.result c.scope_given.ensures;
    }

pub loop-agent-preserved : goal.loop-agent-preserved
loop-agent-preserved c =
    let d = c.args.diagram.now in
    let p = c.args.profile.now in
    subst (HasGainsGiven d p c.args.node c.args.state (c.loop-agent.agent + 1)) (sym {A = List Ratio} c.in_ok-push.ensures.items)
    (gains_push d p c.args.node c.args.state c.loop-agent.agent c.loop-agent.gains.items c.expected.result c.loop-agent.invariant
    (expected_is d c.args.node c.args.state c.agents.ensures.diagram c.requires.setting.within c.requires.setting.has_state p c.requires.setting.profile c.requires.setting.rules c.args.mass c.requires.mass c.deref-in-loop-agent.result.now
    (subst (HasWorthsAt d.nodes p c.args.node c.args.state) (sym c.deref-in-loop-agent.ensures.value) c.in_ok-worths.ensures)
    c.scopes_of_evidence.ensures.utilities c.requires.positive c.loop-agent.agent c.expected.result c.expected.ensures (scale_some d.decimals)))

pub list_worths-requires-clause-totals : goal.list_worths-requires-clause-totals
list_worths-requires-clause-totals c = subst (HasTotals c.args.diagram.now.nodes c.args.profile.now) (sym c.deref.ensures.value) c.in_ok-totals.ensures.totals

pub loop-agent-smaller : goal.loop-agent-smaller
loop-agent-smaller c = falls _ _ c.loop-agent-test.true
