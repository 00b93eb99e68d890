use Rattle.std.proofs.Common.{refl}
use Rattle.factor_core.proofs.Walking.{strides_enough}
use Rattle.factor_core.proofs.walks.add_axis.Goals as goal

pub run_along-requires : goal.run_along-requires
run_along-requires g c = strides_enough c.requires

pub add_moved-requires-clause-moved : goal.add_moved-requires-clause-moved
add_moved-requires-clause-moved g c = c.in-Some.ensures

pub add_moved-requires-clause-can : goal.add_moved-requires-clause-can
add_moved-requires-clause-can g c = c.requires

pub returns-in-Some-clause-adds : goal.returns-in-Some-clause-adds
returns-in-Some-clause-adds g c = c.add_moved.ensures

pub returns-in-Some-clause-places : goal.returns-in-Some-clause-places
returns-in-Some-clause-places g c = refl

pub count_standing-stand-requires : goal.count_standing-stand-requires
count_standing-stand-requires g c = strides_enough c.requires

pub is_dot-requires-clause-count : goal.is_dot-requires-clause-count
is_dot-requires-clause-count g c = strides_enough c.requires

pub is_dot-requires-clause-stand : goal.is_dot-requires-clause-stand
is_dot-requires-clause-stand g c = c.count_standing-stand.ensures.within

pub is_dot-requires-clause-fixed : goal.is_dot-requires-clause-fixed
is_dot-requires-clause-fixed g c = c.count_standing-stand.ensures.fixed

pub add_dot-requires-clause-dot : goal.add_dot-requires-clause-dot
add_dot-requires-clause-dot g c = c.if-is_dot.ensures refl

pub add_dot-requires-clause-can : goal.add_dot-requires-clause-can
add_dot-requires-clause-can g c = c.requires

pub returns-then-is_dot-clause-adds : goal.returns-then-is_dot-clause-adds
returns-then-is_dot-clause-adds g c = c.add_dot.ensures

pub returns-then-is_dot-clause-places : goal.returns-then-is_dot-clause-places
returns-then-is_dot-clause-places g c = refl

pub add_line-requires : goal.add_line-requires
add_line-requires g c = c.requires

pub returns-clause-adds : goal.returns-clause-adds
returns-clause-adds g c = c.add_line.ensures.adds

pub returns-clause-places : goal.returns-clause-places
returns-clause-places g c = c.add_line.ensures.places
