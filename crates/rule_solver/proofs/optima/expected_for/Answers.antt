use Rattle.std.proofs.Common.{sym, subst}
use Rattle.rule_solver.specs.Totals.{HasTotals}
use Rattle.rule_solver.specs.Worths.{HasWorthsFor}
use Rattle.rule_solver.proofs.optima.expected_for.Goals as goal

pub expected-requires : goal.expected-requires
expected-requires c =
    let d = c.args.diagram.now in
    record {
      stake = record {
        is_diagram = c.agents-agents.ensures.diagram;
        within = c.requires.agent;
        profile = c.requires.profile;
        rules = c.requires.pure;
        bound = c.requires.bound.agents c.args.agent c.requires.agent;
        has_totals = subst (HasTotals d.nodes c.args.profile.now) (sym c.deref-2.ensures.value) c.in_ok-totals.ensures.totals;
        has_worths = subst (HasWorthsFor d.nodes c.args.profile.now c.args.agent) (sym c.deref-3.ensures.value) c.in_ok-worths.ensures.worths;
        is_scope = c.agent_scope.ensures;
      };
    }

pub list_worths_for-requires-clause-profile : goal.list_worths_for-requires-clause-profile
list_worths_for-requires-clause-profile c = c.requires.profile

pub list_worths_for-requires-clause-rules : goal.list_worths_for-requires-clause-rules
list_worths_for-requires-clause-rules c = c.requires.pure

pub list_worths_for-requires-clause-bound : goal.list_worths_for-requires-clause-bound
list_worths_for-requires-clause-bound c = c.requires.bound

pub list_worths_for-requires-clause-totals : goal.list_worths_for-requires-clause-totals
list_worths_for-requires-clause-totals c = subst (HasTotals c.args.diagram.now.nodes c.args.profile.now) (sym c.deref.ensures.value) c.in_ok-totals.ensures.totals

pub list_worths_for-requires-clause-planned : goal.list_worths_for-requires-clause-planned
list_worths_for-requires-clause-planned c = c.requires.planned

pub list_worths_for-requires-clause-ready : goal.list_worths_for-requires-clause-ready
list_worths_for-requires-clause-ready c = (c.requires.ready.0, c.requires.ready.1.small, c.requires.ready.1.wide, c.requires.ready.2)

pub returns-clause-worth : goal.returns-clause-worth
returns-clause-worth c = c.expected.ensures

pub returns-clause-again : goal.returns-clause-again
returns-clause-again c =
    let again = c.in_ok-worths.ensures.again in
    λ i. record { small = again.0 i; wide = again.1 i; pairs = c.args.spaces.now.pairs; lists = tt; cells = c.args.spaces.now.cells; pair_cells = c.args.spaces.now.pair_cells }
