use Rattle.std.proofs.Common.{◌≡◌, ◌∙◌, ◌<◌, arith, ap, sym, subst, length, get_or}
use Rattle.maid_model.proofs.Cells.{parent_known}
use Rattle.maid_model.proofs.Picked.{world_length, row_step, row_fits, row_times_fits}
use Rattle.maid_model.proofs.worlds.World.row.Goals as goal

pub states-requires : goal.states-requires
states-requires c = parent_known c.args.diagram.now.nodes c.args.v c.loop-u.u-index c.parents-u-items.result.now c.parents-u-items.ensures.diagram.graph c.parents-u-items.ensures.parents c.loop-u-test.true

pub overflow_mul-row : goal.overflow_mul-row
overflow_mul-row c =
    let known = parent_known c.args.diagram.now.nodes c.args.v c.loop-u.u-index c.parents-u-items.result.now c.parents-u-items.ensures.diagram.graph c.parents-u-items.ensures.parents c.loop-u-test.true in
    omega (
      arith,
      row_times_fits c.args.diagram.now c.parents-u-items.ensures.diagram c.args.self.now c.requires.world c.args.v c.requires.node c.loop-u.row c.loop-u.u-index c.states.result c.parents-u-items.result.now c.loop-u.invariant c.loop-u-test.true c.states.ensures.states
          (subst (λ n. get_or c.parents-u-items.result.now c.loop-u.u-index 0 < n) (sym (world_length c.args.diagram.now.nodes c.args.self.now c.requires.world)) known),
    )

pub index-requires : goal.index-requires
index-requires c =
    let known : get_or c.parents-u-items.result.now c.loop-u.u-index 0 < length c.args.diagram.now.nodes = parent_known c.args.diagram.now.nodes c.args.v c.loop-u.u-index c.parents-u-items.result.now c.parents-u-items.ensures.diagram.graph c.parents-u-items.ensures.parents c.loop-u-test.true in
    let as_long : length c.self.inside.states.items ≡ length c.args.diagram.now.nodes = ap length c.self.view_is ∙ world_length c.args.diagram.now.nodes c.args.self.now c.requires.world in
    omega arith

pub overflow_add-row : goal.overflow_add-row
overflow_add-row c =
    let known = parent_known c.args.diagram.now.nodes c.args.v c.loop-u.u-index c.parents-u-items.result.now c.parents-u-items.ensures.diagram.graph c.parents-u-items.ensures.parents c.loop-u-test.true in
    omega (
      arith,
      row_fits c.args.diagram.now c.parents-u-items.ensures.diagram c.args.self.now c.requires.world c.args.v c.requires.node c.loop-u.row c.loop-u.u-index c.states.result c.index.result.now c.parents-u-items.result.now c.loop-u.invariant c.loop-u-test.true c.states.ensures.states
          (c.index.ensures ∙ ap (λ l. get_or l (get_or c.parents-u-items.result.now c.loop-u.u-index 0) c.index.result.now) c.self.view_is)
          (subst (λ n. get_or c.parents-u-items.result.now c.loop-u.u-index 0 < n) (sym (world_length c.args.diagram.now.nodes c.args.self.now c.requires.world)) known),
    )

pub loop-u-preserved : goal.loop-u-preserved
loop-u-preserved c =
    let known = parent_known c.args.diagram.now.nodes c.args.v c.loop-u.u-index c.parents-u-items.result.now c.parents-u-items.ensures.diagram.graph c.parents-u-items.ensures.parents c.loop-u-test.true in
    row_step c.args.diagram.now c.parents-u-items.ensures.diagram c.args.self.now c.requires.world c.args.v c.requires.node c.loop-u.row c.loop-u.u-index c.states.result c.index.result.now c.parents-u-items.result.now c.loop-u.invariant c.loop-u-test.true c.states.ensures.states
    (c.index.ensures ∙ ap (λ l. get_or l (get_or c.parents-u-items.result.now c.loop-u.u-index 0) c.index.result.now) c.self.view_is)
    (subst (λ n. get_or c.parents-u-items.result.now c.loop-u.u-index 0 < n) (sym (world_length c.args.diagram.now.nodes c.args.self.now c.requires.world)) known)
