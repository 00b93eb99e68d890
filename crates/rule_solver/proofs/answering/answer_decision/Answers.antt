-- The part of the scope decides as the whole does.
use Rattle.std.proofs.Common.{◌≡◌, ◌*◌, ◌<◌, ◌≤◌, nat_abs, pos, slice_index_or, ◌^◌, ℕ, ℤ, List, length, slice_index, subst, sym, IfOk, ◌∙◌, ap}
use Rattle.std.proofs.lemmas.Result.{IfOk-weaker}
use Rattle.maid_model.specs.Nodes.{rows_of, states_of}
use Rattle.maid_model.specs.Diagrams.{greatest_number}
use Rattle.maid_model.specs.Scopes.{goals_of, greatest_of, scope_of, scope_product}
use Rattle.maid_model.specs.Gains.{gain_in}
use Rattle.part_laws.specs.PartLaws.{DecidesAlike}
use Rattle.rule_solver.specs.Answered.{IsAnsweredBy}
use Rattle.rule_solver.specs.Rows.{AnswersRows}
use Rattle.rule_solver.specs.Sums.{IsRowSums}
use Rattle.rule_solver.specs.Totals.{HasTotals}
use Rattle.rule_solver.proofs.DecisionLemmas.{answered_by}
use Rattle.rule_solver.proofs.PlanLemmas.{values_bound, within_bound}
use Rattle.rule_solver.proofs.answering.answer_decision.Goals as goal

pub returns-clause-rows : goal.returns-clause-rows
returns-clause-rows c =
    let nodes = c.args.diagram.now.nodes in
    let base = c.args.base.now.profile in
    let is = c.states-states.ensures.diagram in
    let scope = c.scopes_are_parts.ensures.decisions nodes c.args.decision is.graph c.requires.decision in
    let alike : (row : ℕ) → DecidesAlike nodes base (scope_of nodes c.args.decision) c.args.decision row =
    (λ row. c.parts_decide.ensures.choices nodes base (scope_of nodes c.args.decision) c.args.decision row is.graph is.tables c.requires.profile scope.0 c.requires.decision scope.2 scope.3) in
    let gains = c.deref-2.result.now in
    let masses = c.deref-3.result.now in
    let sums : IsRowSums nodes base c.args.decision gains masses =
    subst (λ (g : List ℤ). IsRowSums nodes base c.args.decision g masses) (sym c.deref-2.ensures.value)
    (subst (λ (m : List ℕ). IsRowSums nodes base c.args.decision c.in_ok-sums.sums.gains.items m) (sym c.deref-3.ensures.value) c.in_ok-sums.ensures.sums) in
    IfOk-weaker c.answer_rows.result (λ v. AnswersRows (gain_in gains (states_of nodes c.args.decision)) (slice_index masses) (states_of nodes c.args.decision) (10 ^ c.args.diagram.now.decimals) (length masses) v.items)
    (λ v. IsAnsweredBy nodes c.args.diagram.now.decimals base c.args.decision v.items)
    (λ v h. answered_by nodes c.args.diagram.now.decimals base c.args.decision gains masses v.items alike sums h)
    (subst (λ n. IfOk c.answer_rows.result (λ v. AnswersRows (gain_in gains n) (slice_index masses) n (10 ^ c.args.diagram.now.decimals) (length masses) v.items)) c.states-states.ensures.states
    (subst (λ k. IfOk c.answer_rows.result (λ v. AnswersRows (gain_in gains c.states-states.result) (slice_index masses) c.states-states.result k (length masses) v.items)) c.scale.ensures.scale c.answer_rows.ensures.rows))

-- masses and gains keep the bound
pub answer_rows-requires-clause-room : goal.answer_rows-requires-clause-room
answer_rows-requires-clause-room c row h =
    let d = c.args.diagram.now in
    let masses : c.deref-3.result.now ≡ c.in_ok-sums.sums.masses.items = c.deref-3.ensures.value in
    let within : slice_index c.in_ok-sums.sums.masses.items row * (10 ^ d.decimals) ≤ greatest_number =
    within_bound (scope_product d.nodes c.args.decision) (10 ^ d.decimals) (greatest_of d.nodes (goals_of d.nodes c.args.decision)) (slice_index c.in_ok-sums.sums.masses.items row)
    (c.in_ok-sums.ensures.room.mass_there row (subst (λ (l : List ℕ). row < length l) masses h)) (c.requires.bound.decisions c.args.decision c.requires.decision) in
    subst (λ n. slice_index c.deref-3.result.now row * n ≤ greatest_number) (sym c.scale.ensures.scale) (subst (λ (l : List ℕ). slice_index l row * (10 ^ d.decimals) ≤ greatest_number) (sym masses) within)

pub answer_rows-requires-clause-small : goal.answer_rows-requires-clause-small
answer_rows-requires-clause-small c i h =
    let d = c.args.diagram.now in
    let gains : c.deref-2.result.now ≡ c.in_ok-sums.sums.gains.items = c.deref-2.ensures.value in
    let within : nat_abs (slice_index_or c.in_ok-sums.sums.gains.items i (pos 0)) ≤ greatest_number =
    values_bound (scope_product d.nodes c.args.decision) (10 ^ d.decimals) (greatest_of d.nodes (goals_of d.nodes c.args.decision)) (nat_abs (slice_index_or c.in_ok-sums.sums.gains.items i (pos 0)))
    (c.in_ok-sums.ensures.room.gain i (subst (λ (l : List ℤ). i < length l) gains h)) (c.requires.bound.decisions c.args.decision c.requires.decision) in
    subst (λ (l : List ℤ). nat_abs (slice_index_or l i (pos 0)) ≤ greatest_number) (sym gains) within

-- the setting has the totals of the base
pub row_sums-requires-clause-setting : goal.row_sums-requires-clause-setting
row_sums-requires-clause-setting c = record {
  is_diagram = c.states-states.ensures.diagram;
  is_decision = c.requires.decision;
  profile = c.requires.profile;
  rules = c.requires.rules;
  bound = c.requires.bound.decisions c.args.decision c.requires.decision;
  has_totals = subst (HasTotals c.args.diagram.now.nodes c.args.base.now.profile) (sym c.deref.ensures.value) c.requires.totals;
  is_scope = c.decision_scope.ensures;
}

pub states-states-requires : goal.states-states-requires
states-states-requires c = c.requires.decision.within

pub answer_rows-requires-clause-all : goal.answer_rows-requires-clause-all
answer_rows-requires-clause-all c =
    let masses : length c.deref-3.result.now ≡ rows_of c.args.diagram.now.nodes c.args.decision = ap (λ (l : List ℕ). length l) c.deref-3.ensures.value ∙ c.in_ok-sums.ensures.sums.mass_count in
    ap (λ (l : List ℤ). length l) c.deref-2.ensures.value ∙ c.in_ok-sums.ensures.sums.gain_count ∙ (λ i. sym masses i * sym c.states-states.ensures.states i)

pub answer_rows-requires-clause-some : goal.answer_rows-requires-clause-some
answer_rows-requires-clause-some c =
    subst (λ n. 0 < n) (sym c.states-states.ensures.states) (c.states-states.ensures.diagram.graph.has_state c.args.decision)

pub answer_rows-requires-clause-scale : goal.answer_rows-requires-clause-scale
answer_rows-requires-clause-scale c = c.scale.ensures.some
