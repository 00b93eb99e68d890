-- The rows of the head and of the names behind the bar, one after the other.
use Rattle.std.proofs.Common.{All, subst, sym, ◌∙◌, ap}
use Rattle.std.proofs.lemmas.List.Elements.{All-drop, All-weaker}
use Rattle.first_fault.specs.Passes.{◌▸◌}
use Rattle.first_fault.proofs.Leading.{refused_first, refused_later}
use Rattle.net_lexer.specs.Token.{IsTokenOf}
use Rattle.net_parser.specs.Owned.{IsNameOf}
use Rattle.net_build.specs.Blocks.{title, conditions}
use Rattle.net_build.specs.Linking.{block_steps, borrowed_trees, conditions_steps, many_row, node_named, taken_row, unknown_row}
use Rattle.net_build.proofs.FitLemmas.{conditions_fit}
use Rattle.first_fault.proofs.HandedOn.{hands_on}
use Rattle.net_build.specs.Passes.{build_fault}
use Rattle.net_build.proofs.potentials.read_potential.Goals as goal

pub read_conditions-requires-clause-conditions : goal.read_conditions-requires-clause-conditions
read_conditions-requires-clause-conditions c =
    let text = c.args.text.now in
    subst (All (IsTokenOf text)) (sym c.conditions-conditions.ensures)
    (All-weaker (IsNameOf text) (IsTokenOf text) (λ t own. own.own) (conditions c.args.block.now) (All-drop (IsNameOf text) 1 c.args.block.now.names c.requires.block.names))

pub returns-in_err-node-clause-rows : goal.returns-in_err-node-clause-rows
returns-in_err-node-clause-rows c =
    let text = c.args.text.now in
    let names = c.args.names.now in
    let heads = c.args.heads.now in
    let trees = borrowed_trees c.args.potentials.now in
    let head = title c.args.block.now in
    let behind = conditions c.args.block.now in
    hands_on build_fault (block_steps text names heads trees c.args.block.now) _ _ c.from_residual.ensures
    (refused_first (unknown_row text names head) (taken_row trees (node_named text names head) head ▸ conditions_steps text names heads behind ▸ many_row head behind) _
    (rw c.title-head.ensures at c.in_err-node.ensures.row))

pub returns-in_err-check_single-clause-rows : goal.returns-in_err-check_single-clause-rows
returns-in_err-check_single-clause-rows c =
    let text = c.args.text.now in
    let names = c.args.names.now in
    let heads = c.args.heads.now in
    let trees = borrowed_trees c.args.potentials.now in
    let head = title c.args.block.now in
    let behind = conditions c.args.block.now in
    hands_on build_fault (block_steps text names heads trees c.args.block.now) _ _ c.from_residual-in_err-check_single.ensures
    (refused_later (unknown_row text names head) (taken_row trees (node_named text names head) head ▸ conditions_steps text names heads behind ▸ many_row head behind) _ (rw c.title-head.ensures at c.in_ok-node.ensures.row)
    (refused_first (taken_row trees (node_named text names head) head) (conditions_steps text names heads behind ▸ many_row head behind) _
    (rw (c.in_ok-node.ensures.node, c.title-head.ensures) at c.in_err-check_single.ensures)))

pub returns-in_err-parents-clause-rows : goal.returns-in_err-parents-clause-rows
returns-in_err-parents-clause-rows c =
    let text = c.args.text.now in
    let names = c.args.names.now in
    let heads = c.args.heads.now in
    let trees = borrowed_trees c.args.potentials.now in
    let head = title c.args.block.now in
    let behind = conditions c.args.block.now in
    hands_on build_fault (block_steps text names heads trees c.args.block.now) _ _ c.from_residual-in_err-parents.ensures
    (refused_later (unknown_row text names head) (taken_row trees (node_named text names head) head ▸ conditions_steps text names heads behind ▸ many_row head behind) _ (rw c.title-head.ensures at c.in_ok-node.ensures.row)
    (refused_later (taken_row trees (node_named text names head) head) (conditions_steps text names heads behind ▸ many_row head behind) _ (rw (c.in_ok-node.ensures.node, c.title-head.ensures) at c.in_ok-check_single.ensures)
    (refused_first (conditions_steps text names heads behind) (many_row head behind) _ (rw c.conditions-conditions.ensures at c.in_err-parents.ensures.rows))))

pub returns-in_err-check_count-clause-rows : goal.returns-in_err-check_count-clause-rows
returns-in_err-check_count-clause-rows c =
    let text = c.args.text.now in
    let names = c.args.names.now in
    let heads = c.args.heads.now in
    let trees = borrowed_trees c.args.potentials.now in
    let head = title c.args.block.now in
    let behind = conditions c.args.block.now in
    hands_on build_fault (block_steps text names heads trees c.args.block.now) _ _ c.from_residual-in_err-check_count.ensures
    (refused_later (unknown_row text names head) (taken_row trees (node_named text names head) head ▸ conditions_steps text names heads behind ▸ many_row head behind) _ (rw c.title-head.ensures at c.in_ok-node.ensures.row)
    (refused_later (taken_row trees (node_named text names head) head) (conditions_steps text names heads behind ▸ many_row head behind) _ (rw (c.in_ok-node.ensures.node, c.title-head.ensures) at c.in_ok-check_single.ensures)
    (refused_later (conditions_steps text names heads behind) (many_row head behind) _ (rw c.conditions-conditions.ensures at c.in_ok-parents.ensures.rows)
    (rw (c.title-head.ensures, c.conditions-conditions.ensures) at c.in_err-check_count.ensures.row))))

pub returns-clause-rows : goal.returns-clause-rows
returns-clause-rows c = (
  rw c.title-head.ensures at c.in_ok-node.ensures.row,
  (
    rw (c.in_ok-node.ensures.node, c.title-head.ensures) at c.in_ok-check_single.ensures,
    (
      rw c.conditions-conditions.ensures at c.in_ok-parents.ensures.rows,
      rw c.conditions-conditions.ensures at c.in_ok-check_count.ensures.row,
    ),
  ),
)

pub returns-clause-node : goal.returns-clause-node
returns-clause-node c = c.in_ok-node.ensures.node ∙ ap (node_named c.args.text.now c.args.names.now) c.title-head.ensures

pub returns-clause-within : goal.returns-clause-within
returns-clause-within c = c.in_ok-node.ensures.within

pub returns-clause-parents : goal.returns-clause-parents
returns-clause-parents c = rw c.conditions-conditions.ensures at c.in_ok-parents.ensures.nodes

pub returns-clause-fit : goal.returns-clause-fit
returns-clause-fit c = conditions_fit c.args.text.now c.args.names.now c.args.heads.now c.conditions-conditions.result.now _ c.requires.heads c.in_ok-parents.ensures.rows c.in_ok-check_count.ensures.row c.in_ok-parents.ensures.nodes
