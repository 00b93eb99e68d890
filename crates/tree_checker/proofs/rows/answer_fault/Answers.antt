use Rattle.maid_model.specs.declared.answers.Row.{Row}
use Rattle.std.proofs.lemmas.Result.{err_from_is_err_and}
use Rattle.std.specs.Prelude.{All}
use Rattle.std.proofs.Common.{◌∙◌, ◌*◌, sym, subst, ◌<◌, ◌≤◌, slice_index}
use Rattle.maid_model.specs.Answers.{no_row}
use Rattle.maid_model.specs.Nodes.{states_of}
use Rattle.maid_model.specs.Scopes.{scope_of}
use Rattle.tree_checker.specs.Judged.{FailsListed, JudgesRows, PassesListed}
use Rattle.tree_checker.proofs.RowTransfer.{gain_count, mass_count, rows_judged}
use Rattle.maid_model.specs.Diagrams.{greatest_number}
use Rattle.tree_checker.proofs.rows.answer_fault.Goals as goal

pub scope_sums-requires-clause-rules : goal.scope_sums-requires-clause-rules
scope_sums-requires-clause-rules c = c.scoped_sums_fit.ensures.bases c.args.diagram.now.nodes c.args.chosen.now c.in_ok-base.base c.args.decision c.states-states.ensures.diagram.graph c.requires.pure c.in_ok-base.ensures

pub first_fault-requires-clause-gains : goal.first_fault-requires-clause-gains
first_fault-requires-clause-gains c =
    let d = c.args.diagram.now in
    gain_count d c.in_ok-base.base c.args.decision c.states-states.ensures.diagram.graph c.requires.decision c.parts_are_diagrams.ensures.nodes c.scopes_are_parts.ensures.decisions c.in_ok-sums.sums.gains.items c.in_ok-sums.sums.masses.items c.in_ok-sums.ensures
    ∙ (λ i. sym c.requires.count i * sym c.states-states.ensures.states i)

pub first_fault-requires-clause-masses : goal.first_fault-requires-clause-masses
first_fault-requires-clause-masses c =
    let d = c.args.diagram.now in
    mass_count d c.in_ok-base.base c.args.decision c.states-states.ensures.diagram.graph c.requires.decision c.parts_are_diagrams.ensures.nodes c.scopes_are_parts.ensures.decisions c.in_ok-sums.sums.gains.items c.in_ok-sums.sums.masses.items c.in_ok-sums.ensures
    ∙ sym c.requires.count

pub returns : goal.returns
returns c =
    let d = c.args.diagram.now in
    let v = c.args.decision in
    let g = c.states-states.ensures.diagram.graph in
    let t = c.states-states.ensures.diagram.tables in
    let base = c.in_ok-base.base in
    let scope = c.scopes_are_parts.ensures.decisions d.nodes v g c.requires.decision in
    record {
      base = base;
      is_base = c.in_ok-base.ensures;
      judged = rows_judged d base v g c.requires.decision c.parts_are_diagrams.ensures.nodes c.scopes_are_parts.ensures.decisions c.in_ok-sums.sums.gains.items c.in_ok-sums.sums.masses.items c.in_ok-sums.ensures
          (λ row. c.parts_decide.ensures.choices d.nodes base (scope_of d.nodes v) v row g t c.in_ok-base.ensures.profile scope.0 c.requires.decision scope.2 scope.3)
          (λ row. c.law_of_parts.ensures.masses d.nodes base (scope_of d.nodes v) v row g t c.in_ok-base.ensures.profile scope.0 c.requires.decision scope.2)
          c.args.rows.now c.requires.count (λ row l. c.requires.choices row no_row l) c.first_fault.result
          (subst (λ n. JudgesRows (PassesListed c.in_ok-sums.sums.gains.items c.in_ok-sums.sums.masses.items (states_of d.nodes v) n) (FailsListed c.in_ok-sums.sums.gains.items c.in_ok-sums.sums.masses.items (states_of d.nodes v) n) c.args.rows.now c.first_fault.result) c.scale.ensures.scale
          (subst (λ n. JudgesRows (PassesListed c.in_ok-sums.sums.gains.items c.in_ok-sums.sums.masses.items n c.scale.result) (FailsListed c.in_ok-sums.sums.gains.items c.in_ok-sums.sums.masses.items n c.scale.result) c.args.rows.now c.first_fault.result) c.states-states.ensures.states c.first_fault.ensures));
    }

pub base_of-requires-clause-decision : goal.base_of-requires-clause-decision
base_of-requires-clause-decision c = c.requires.decision

pub base_of-requires-clause-relevance : goal.base_of-requires-clause-relevance
base_of-requires-clause-relevance c = c.requires.relevance

pub base_of-requires-clause-chosen : goal.base_of-requires-clause-chosen
base_of-requires-clause-chosen c = c.requires.chosen

pub returns-in_err-base : goal.returns-in_err-base
returns-in_err-base c = rw (err_from_is_err_and c.from_residual.result c.from_residual.ensures.1).1 tt

pub scope_sums-requires-clause-decision : goal.scope_sums-requires-clause-decision
scope_sums-requires-clause-decision c = c.requires.decision

pub scope_sums-requires-clause-base : goal.scope_sums-requires-clause-base
scope_sums-requires-clause-base c = c.in_ok-base.ensures.profile

pub scope_sums-requires-clause-bound : goal.scope_sums-requires-clause-bound
scope_sums-requires-clause-bound c = c.requires.bound

pub returns-in_err-sums : goal.returns-in_err-sums
returns-in_err-sums c = rw (err_from_is_err_and c.from_residual-in_err-sums.result c.from_residual-in_err-sums.ensures.1).1 tt

pub first_fault-requires-clause-choices : goal.first_fault-requires-clause-choices
first_fault-requires-clause-choices c = subst (λ n. All (λ (row : Row). row.choice < n) c.args.rows.now) (sym c.states-states.ensures.states) c.requires.choices

pub first_fault-requires-clause-reduced : goal.first_fault-requires-clause-reduced
first_fault-requires-clause-reduced c = c.requires.reduced

pub first_fault-requires-clause-scale : goal.first_fault-requires-clause-scale
first_fault-requires-clause-scale c = c.scale.ensures.some

pub first_fault-requires-clause-room : goal.first_fault-requires-clause-room
first_fault-requires-clause-room c = λ row. subst (λ n. slice_index c.in_ok-sums.sums.masses.items row * n ≤ greatest_number) (sym c.scale.ensures.scale) (c.in_ok-sums.ensures.mass_small row)

pub first_fault-requires-clause-small : goal.first_fault-requires-clause-small
first_fault-requires-clause-small c = c.in_ok-sums.ensures.gain_small
