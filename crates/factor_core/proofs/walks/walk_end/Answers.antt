use Rattle.factor_core.proofs.FewAxes.{no_axis, some_axis, one_axis, one_left, can_as, adds_as, met_here, room_here, adds_here}
use Rattle.std.proofs.Common.{refl}
use Rattle.factor_core.proofs.walks.walk_end.Goals as goal

pub product-requires-clause-within : goal.product-requires-clause-within
product-requires-clause-within g c =
    (met_here c.requires.can (no_axis c.args.axes.now c.if-is_empty.ensures)).within

pub product-requires-clause-fits : goal.product-requires-clause-fits
product-requires-clause-fits g c =
    (met_here c.requires.can (no_axis c.args.axes.now c.if-is_empty.ensures)).fits

pub add_at-requires-clause-at : goal.add_at-requires-clause-at
add_at-requires-clause-at g c =
    (met_here c.requires.can (no_axis c.args.axes.now c.if-is_empty.ensures)).out

pub add_at-requires-clause-fits : goal.add_at-requires-clause-fits
add_at-requires-clause-fits g c =
    room_here c.requires.can (no_axis c.args.axes.now c.if-is_empty.ensures) c.product.ensures.size

pub returns-then-is_empty-clause-adds : goal.returns-then-is_empty-clause-adds
returns-then-is_empty-clause-adds g c =
    adds_here c.requires.can (no_axis c.args.axes.now c.if-is_empty.ensures) c.product.ensures.product c.add_at.ensures

pub returns-then-is_empty-clause-places : goal.returns-then-is_empty-clause-places
returns-then-is_empty-clause-places g c = refl

pub bounds-axes-0 : goal.bounds-axes-0
bounds-axes-0 g c = some_axis c.args.axes.now c.if-is_empty.ensures

pub add_axis-requires : goal.add_axis-requires
add_axis-requires g c = can_as c.requires.can (one_axis c.args.axes.now (one_left c.args.axes.now c.if-is_empty.ensures c.requires.most))

pub returns-else-is_empty-clause-adds : goal.returns-else-is_empty-clause-adds
returns-else-is_empty-clause-adds g c = adds_as c.requires.can (one_axis c.args.axes.now (one_left c.args.axes.now c.if-is_empty.ensures c.requires.most)) c.add_axis.ensures.adds

pub returns-else-is_empty-clause-places : goal.returns-else-is_empty-clause-places
returns-else-is_empty-clause-places g c = c.add_axis.ensures.places
