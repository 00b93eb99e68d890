use Rattle.cell_rings.specs.KindLaws.{mass_map, gain_map, can_map, both_map}
use Rattle.cell_rings.proofs.laws.kinds_are_numbers.Goals as goal

pub returns : goal.returns
returns c = record { mass = mass_map; gain = gain_map; can = can_map; both = both_map }
