use Rattle.std.proofs.Common.{◌≡◌, ◌∙◌, ◌*◌, ◌≤◌, List, length, sym, subst, ap}
use Rattle.std.proofs.lemmas.Result.{IfOk-from_err}
use Rattle.maid_model.specs.declared.answers.Row.{Row}
use Rattle.maid_model.specs.declared.diagrams.Kind.TheVariants.{Chance}
use Rattle.maid_model.specs.declared.limits.TheConstants.{MOST_CELLS}
use Rattle.maid_model.specs.Nodes.{rows_of}
use Rattle.diagram_graph.specs.Edited.{pure_cells}
use Rattle.diagram_graph.proofs.kinds.chance_node.Goals as goal

pub states-states-requires : goal.states-states-requires
states-states-requires c = c.requires.decision.within

pub parents-requires : goal.parents-requires
parents-requires c = c.requires.decision.within

pub returns-in_err-cells : goal.returns-in_err-cells
returns-in_err-cells c = IfOk-from_err _ _ c.from_residual.ensures.0

pub returns-in_err-parents : goal.returns-in_err-parents
returns-in_err-parents c = IfOk-from_err _ _ c.from_residual-in_err-parents.ensures.0

pub pure_cells-requires : goal.pure_cells-requires
pure_cells-requires c =
    let fit = (c.requires.fits c.args.v c.requires.decision).0 in
    let count : length c.rows_at.result.now ≡ rows_of c.args.diagram.now.nodes c.args.v = ap (λ (rows : List Row). length rows) c.rows_at.ensures ∙ fit in
    subst (λ n. n ≤ MOST_CELLS) (sym (λ i. count i * c.states-states.ensures.states i)) (c.states-states.ensures.diagram.limits.cells c.args.v c.requires.decision.within)

pub returns : goal.returns
returns c =
    let cells = c.in_ok-cells.ensures ∙ (λ i. pure_cells (c.states-states.ensures.states i) (c.rows_at.ensures i)) in
    let parents = c.in_ok-parents.ensures.ok ∙ c.parents.ensures.parents in
    λ i. record {
      kind = Chance;
      owner = 0;
      more = c.new.ensures.items i;
      states = c.states-states.ensures.states i;
      parents = parents i;
      cells = cells i;
    }
