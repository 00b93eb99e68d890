use Rattle.std.proofs.Common.{◌≡◌, ◌∙◌, ◌*◌, ap, arith, get_or, slice_index_or, sym, length}
use Rattle.maid_model.specs.Worlds.{world_of}
use Rattle.maid_model.proofs.Picked.{cell_times_fits}
use Rattle.tree_checker.proofs.WalkPlaces.{cell_first, cell_small, cell_start, factor_is, row_first, row_small, row_start}
use Rattle.std.proofs.lemmas.List.{length-map}
use Rattle.tree_checker.proofs.lasts.places_at.Goals as goal

pub overflow_mul-result : goal.overflow_mul-result
overflow_mul-result c =
    omega (arith, cell_times_fits c.args.setting.now.diagram.now c.requires.setting.diagram c.args.world.now c.requires.world c.args.last.now.node c.requires.node c.row.result c.states.result c.row.ensures c.states.ensures.states)

pub overflow_mul-result-2 : goal.overflow_mul-result-2
overflow_mul-result-2 c =
    let at : c.index-state.result.now ≡ get_or c.args.world.now c.args.last.now.node c.index-state.result.now = c.index-state.ensures ∙ ap (λ l. slice_index_or l c.args.last.now.node c.index-state.result.now) c.world.view_is in
    omega (arith, row_start c.args.setting.now.diagram.now c.requires.setting.diagram c.args.world.now c.requires.world c.args.last.now.node c.requires.node c.index-state.result.now at c.args.last.now.utility c.requires.utility c.args.last.now.row_step c.requires.last.row c.row-2.result c.row-2.ensures, row_small c.args.setting.now.diagram.now c.requires.setting.diagram c.args.world.now c.requires.world c.args.last.now.node c.requires.node c.index-state.result.now at c.args.last.now.utility c.requires.utility c.args.last.now.row_step c.requires.last.row c.row-2.result c.row-2.ensures)

pub overflow_sub-result : goal.overflow_sub-result
overflow_sub-result c =
    let at : c.index-state.result.now ≡ get_or c.args.world.now c.args.last.now.node c.index-state.result.now = c.index-state.ensures ∙ ap (λ l. slice_index_or l c.args.last.now.node c.index-state.result.now) c.world.view_is in
    row_start c.args.setting.now.diagram.now c.requires.setting.diagram c.args.world.now c.requires.world c.args.last.now.node c.requires.node c.index-state.result.now at c.args.last.now.utility c.requires.utility c.args.last.now.row_step c.requires.last.row c.row-2.result c.row-2.ensures

pub overflow_mul-result-3 : goal.overflow_mul-result-3
overflow_mul-result-3 c =
    let at : c.index-state.result.now ≡ get_or c.args.world.now c.args.last.now.node c.index-state.result.now = c.index-state.ensures ∙ ap (λ l. slice_index_or l c.args.last.now.node c.index-state.result.now) c.world.view_is in
    omega (arith, cell_start c.args.setting.now.diagram.now c.requires.setting.diagram c.args.world.now c.requires.world c.args.last.now.node c.requires.node c.index-state.result.now at c.args.setting.now.left_out c.requires.setting.decision c.args.last.now.cell_step c.requires.last.cell c.place.result c.place.ensures.place, cell_small c.args.setting.now.diagram.now c.requires.setting.diagram c.args.world.now c.requires.world c.args.last.now.node c.requires.node c.index-state.result.now at c.args.setting.now.left_out c.requires.setting.decision c.args.last.now.cell_step c.requires.last.cell c.place.result c.place.ensures.place)

pub overflow_sub-result-2 : goal.overflow_sub-result-2
overflow_sub-result-2 c =
    let at : c.index-state.result.now ≡ get_or c.args.world.now c.args.last.now.node c.index-state.result.now = c.index-state.ensures ∙ ap (λ l. slice_index_or l c.args.last.now.node c.index-state.result.now) c.world.view_is in
    cell_start c.args.setting.now.diagram.now c.requires.setting.diagram c.args.world.now c.requires.world c.args.last.now.node c.requires.node c.index-state.result.now at c.args.setting.now.left_out c.requires.setting.decision c.args.last.now.cell_step c.requires.last.cell c.place.result c.place.ensures.place

pub returns : goal.returns
returns c =
    let at : c.index-state.result.now ≡ get_or c.args.world.now c.args.last.now.node c.index-state.result.now = c.index-state.ensures ∙ ap (λ l. slice_index_or l c.args.last.now.node c.index-state.result.now) c.world.view_is in
    record {
      factor = (λ i. c.row.ensures i * c.states.ensures.states i) ∙ sym (factor_is c.args.setting.now.diagram.now c.requires.setting.diagram c.args.last.now.node (world_of c.args.world.now));
      row = row_first c.args.setting.now.diagram.now c.requires.setting.diagram c.args.world.now c.requires.world c.args.last.now.node c.requires.node c.index-state.result.now at c.args.last.now.utility c.requires.utility c.args.last.now.row_step c.requires.last.row c.row-2.result c.row-2.ensures;
      cell = cell_first c.args.setting.now.diagram.now c.requires.setting.diagram c.args.world.now c.requires.world c.args.last.now.node c.requires.node c.index-state.result.now at c.args.setting.now.left_out c.requires.setting.decision c.args.last.now.cell_step c.requires.last.cell c.place.result c.place.ensures.place;
    }

pub row-requires-clause-node : goal.row-requires-clause-node
row-requires-clause-node c = c.requires.node

pub row-requires-clause-world : goal.row-requires-clause-world
row-requires-clause-world c = c.requires.world

pub states-requires : goal.states-requires
states-requires c = c.requires.node

pub row-requires-2-clause-node : goal.row-requires-2-clause-node
row-requires-2-clause-node c = c.requires.utility

pub row-requires-2-clause-world : goal.row-requires-2-clause-world
row-requires-2-clause-world c = c.requires.world

pub place-requires-clause-decision : goal.place-requires-clause-decision
place-requires-clause-decision c = c.requires.setting.decision

pub place-requires-clause-world : goal.place-requires-clause-world
place-requires-clause-world c = c.requires.world

pub index-state-requires : goal.index-state-requires
index-state-requires c = omega (arith, c.requires.node, c.requires.world.len, length-map c.args.setting.now.diagram.now.nodes (λ n. n.states), ap length c.world.view_is, c.world.inside.states.ok.0)
