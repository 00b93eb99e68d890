-- The part of the scope decides as the whole does.
use Rattle.std.proofs.Common.{ℕ, ◌<◌, List, ℤ, IfOk, sym, subst}
use Rattle.std.proofs.lemmas.Result.{IfOk-weaker}
use Rattle.maid_model.specs.Nodes.{rows_of, states_of}
use Rattle.maid_model.specs.Scopes.{scope_of}
use Rattle.maid_model.specs.Gains.{gain_in}
use Rattle.part_laws.specs.PartLaws.{DecidesAlike}
use Rattle.rule_solver.specs.Optima.{ChoosesRows, IsChosenBy}
use Rattle.rule_solver.specs.Sums.{IsRowGains}
use Rattle.rule_solver.specs.Totals.{HasTotals}
use Rattle.rule_solver.proofs.ChoiceLemmas.{chosen_by}
use Rattle.rule_solver.proofs.optima.choose.Goals as goal

pub returns-clause-rows : goal.returns-clause-rows
returns-clause-rows c =
    let nodes = c.args.diagram.now.nodes in
    let base = c.args.base.now.profile in
    let d = c.args.decision in
    let is = c.states-states.ensures.diagram in
    let scope = c.scopes_are_parts.ensures.decisions nodes d is.graph c.requires.decision in
    let alike : (row : ℕ) → DecidesAlike nodes base (scope_of nodes d) d row =
    (λ row. c.parts_decide.ensures.choices nodes base (scope_of nodes d) d row is.graph is.tables c.requires.profile scope.0 c.requires.decision scope.2 scope.3) in
    let gains = c.deref-4.result.now in
    let sums : IsRowGains nodes base d gains = subst (λ (g : List ℤ). IsRowGains nodes base d g) (sym c.deref-4.ensures.value) c.in_ok-gains.ensures.gains in
    IfOk-weaker c.choose_rows.result (λ v. ChoosesRows (gain_in gains (states_of nodes d)) (states_of nodes d) (rows_of nodes d) v.items) (λ v. IsChosenBy nodes base d v.items)
    (λ v h. chosen_by nodes base d gains v.items alike sums h)
    (subst (λ n. IfOk c.choose_rows.result (λ v. ChoosesRows (gain_in gains n) n (rows_of nodes d) v.items)) c.states-states.ensures.states
    (subst (λ n. IfOk c.choose_rows.result (λ v. ChoosesRows (gain_in gains c.states-states.result) c.states-states.result n v.items)) c.rows-rows.ensures c.choose_rows.ensures))

-- the setting has the totals of the base
pub row_gains-requires-clause-setting : goal.row_gains-requires-clause-setting
row_gains-requires-clause-setting c = record {
  is_diagram = c.states-states.ensures.diagram;
  is_decision = c.requires.decision;
  profile = c.requires.profile;
  rules = c.requires.rules;
  bound = c.requires.bound.decisions c.args.decision c.requires.decision;
  has_totals = subst (HasTotals c.args.diagram.now.nodes c.args.base.now.profile) (sym c.deref.ensures.value) c.requires.totals;
  is_scope = c.decision_scope.ensures;
}

pub states-states-requires : goal.states-states-requires
states-states-requires c = c.requires.decision.within

pub rows-rows-requires : goal.rows-rows-requires
rows-rows-requires c = c.requires.decision.within

pub choose_rows-requires-clause-some : goal.choose_rows-requires-clause-some
choose_rows-requires-clause-some c = subst (λ n. 0 < n) (sym c.states-states.ensures.states) (c.states-states.ensures.diagram.graph.has_state c.args.decision)

pub returns-clause-again : goal.returns-clause-again
returns-clause-again c = IfOk-weaker c.choose_rows.result _ _ (λ v h. c.in_ok-gains.ensures.again) c.choose_rows.ensures
