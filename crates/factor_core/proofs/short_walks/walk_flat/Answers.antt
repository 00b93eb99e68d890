use Rattle.std.proofs.Common.{arith, refl}
use Rattle.factor_core.proofs.FewAxes.{no_axis, some_axis, one_axis, two_axes, two_left, can_as, adds_as, met_here, room_here, adds_here}
use Rattle.factor_core.proofs.short_walks.walk_flat.Goals as goal

pub product-requires-clause-within : goal.product-requires-clause-within
product-requires-clause-within g c =
    (met_here c.requires.can (no_axis c.args.axes.now c.if-is_empty.ensures)).within

pub product-requires-clause-fits : goal.product-requires-clause-fits
product-requires-clause-fits g c =
    (met_here c.requires.can (no_axis c.args.axes.now c.if-is_empty.ensures)).fits

pub add_at-requires-clause-at : goal.add_at-requires-clause-at
add_at-requires-clause-at g c =
    (met_here c.requires.can (no_axis c.args.axes.now c.if-is_empty.ensures)).out

pub add_at-requires-clause-fits : goal.add_at-requires-clause-fits
add_at-requires-clause-fits g c =
    room_here c.requires.can (no_axis c.args.axes.now c.if-is_empty.ensures) c.product.ensures.size

pub returns-then-is_empty : goal.returns-then-is_empty
returns-then-is_empty g c =
    adds_here c.requires.can (no_axis c.args.axes.now c.if-is_empty.ensures) c.product.ensures.product c.add_at.ensures

pub bounds-axes-0 : goal.bounds-axes-0
bounds-axes-0 g c =
    some_axis c.args.axes.now c.if-is_empty.ensures

pub add_line-requires : goal.add_line-requires
add_line-requires g c =
    (omega arith, can_as c.requires.can (one_axis c.args.axes.now c.if-axes-eq1.true))

pub returns-then-axes-eq1 : goal.returns-then-axes-eq1
returns-then-axes-eq1 g c =
    adds_as c.requires.can (one_axis c.args.axes.now c.if-axes-eq1.true) c.add_line.ensures

pub bounds-axes-1 : goal.bounds-axes-1
bounds-axes-1 g c = omega (arith, (two_left c.args.axes.now c.if-is_empty.ensures c.if-axes-eq1.false c.requires.most))

pub bounds-axes-1-then-is_pair : goal.bounds-axes-1-then-is_pair
bounds-axes-1-then-is_pair g c = omega (arith, (two_left c.args.axes.now c.if-is_empty.ensures c.if-axes-eq1.false c.requires.most))

pub add_pairs-requires : goal.add_pairs-requires
add_pairs-requires g c = (
  omega arith,
  (c.if-is_pair.ensures.0 refl, can_as c.requires.can (two_axes c.args.axes.now (two_left c.args.axes.now c.if-is_empty.ensures c.if-axes-eq1.false c.requires.most))),
)

pub returns-then-is_pair : goal.returns-then-is_pair
returns-then-is_pair g c =
    adds_as c.requires.can (two_axes c.args.axes.now (two_left c.args.axes.now c.if-is_empty.ensures c.if-axes-eq1.false c.requires.most)) c.add_pairs.ensures

pub bounds-axes-1-2 : goal.bounds-axes-1-2
bounds-axes-1-2 g c = omega (arith, (two_left c.args.axes.now c.if-is_empty.ensures c.if-axes-eq1.false c.requires.most))

pub add_lines-requires : goal.add_lines-requires
add_lines-requires g c =
    (omega arith, can_as c.requires.can (two_axes c.args.axes.now (two_left c.args.axes.now c.if-is_empty.ensures c.if-axes-eq1.false c.requires.most)))

pub returns : goal.returns
returns g c =
    adds_as c.requires.can (two_axes c.args.axes.now (two_left c.args.axes.now c.if-is_empty.ensures c.if-axes-eq1.false c.requires.most)) c.add_lines.ensures
