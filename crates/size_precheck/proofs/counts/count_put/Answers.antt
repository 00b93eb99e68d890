use Rattle.std.proofs.Common.{◌∙◌, ◌*◌, ap}
use Rattle.maid_model.specs.Bounds.{stopped}
use Rattle.size_precheck.proofs.Dividing.{put_counted, put_anew}
use Rattle.size_precheck.proofs.counts.count_put.Goals as goal

pub returns-then-can_divide : goal.returns-then-can_divide
returns-then-can_divide c after after_is counted =
    let can = c.can_divide.ensures.0 c.if-can_divide.true in
    c.multiply.ensures
    ∙ ap (λ n. stopped (n * c.count_cells.result)) c.divide.ensures
    ∙ put_counted c.args.states.now c.args.before.now c.args.scope.now c.args.out.now c.difference-came.result after c.args.v c.args.cells c.count_cells.result c.requires.len c.requires.small
    can.0 can.1 can.2 c.requires.out c.difference-came.ensures after_is counted c.count_cells.ensures

pub returns-else-can_divide : goal.returns-else-can_divide
returns-else-can_divide c after after_is counted =
    c.count_cells-else-can_divide.ensures ∙ put_anew c.args.states.now c.args.before.now c.args.scope.now c.args.out.now c.union.result c.difference-after.result after c.union.ensures c.difference-after.ensures after_is
