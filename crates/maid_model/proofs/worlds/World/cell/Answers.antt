use Rattle.std.proofs.Common.{◌∙◌, arith, ap, get_or}
use Rattle.maid_model.proofs.Picked.{cell_times_fits, cell_fits, cell_below}
use Rattle.maid_model.proofs.worlds.World.cell.Goals as goal

pub overflow_mul-result : goal.overflow_mul-result
overflow_mul-result c = omega (arith, cell_times_fits c.args.diagram.now c.states.ensures.diagram c.args.self.now c.requires.world c.args.v c.requires.node c.row.result c.states.result c.row.ensures c.states.ensures.states)

pub overflow_add-result : goal.overflow_add-result
overflow_add-result c =
    omega (
      arith,
      cell_fits c.args.diagram.now c.states.ensures.diagram c.args.self.now c.requires.world c.args.v c.requires.node c.row.result c.states.result c.row.ensures c.states.ensures.states c.index.result.now
          (c.index.ensures ∙ ap (λ l. get_or l c.args.v c.index.result.now) c.self.view_is),
    )

pub returns-clause-within : goal.returns-clause-within
returns-clause-within c =
    cell_below c.args.diagram.now c.states.ensures.diagram c.args.self.now c.requires.world c.args.v c.requires.node c.row.result c.states.result c.row.ensures c.states.ensures.states c.index.result.now
    (c.index.ensures ∙ ap (λ l. get_or l c.args.v c.index.result.now) c.self.view_is)
