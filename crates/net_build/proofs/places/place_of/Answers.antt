-- The first place is the place, and a list without a first place lacks the name.
use Rattle.net_build.proofs.PlaceLemmas.{place_found}
use Rattle.net_build.proofs.places.place_of.Goals as goal

pub returns : goal.returns
returns c = place_found _ _ _ c.first_place.ensures.some c.first_place.ensures.none
