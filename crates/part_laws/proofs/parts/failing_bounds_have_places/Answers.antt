use Rattle.part_laws.proofs.ScopePlaces.{failure_law, passing_law}
use Rattle.part_laws.proofs.parts.failing_bounds_have_places.Goals as goal

pub returns : goal.returns
returns c = record { scope = failure_law; node = passing_law }
