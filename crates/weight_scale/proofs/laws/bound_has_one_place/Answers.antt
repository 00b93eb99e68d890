use Rattle.weight_scale.proofs.BoundPlaces.{has_place, one_bound_place}
use Rattle.weight_scale.proofs.laws.bound_has_one_place.Goals as goal

pub returns-clause-some : goal.returns-clause-some
returns-clause-some c = has_place

pub returns-clause-one : goal.returns-clause-one
returns-clause-one c = one_bound_place
