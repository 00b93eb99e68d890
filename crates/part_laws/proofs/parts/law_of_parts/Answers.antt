use Rattle.part_laws.proofs.PartLaws.{gains_law, masses_law, agents_gains_law, mass_law, parts_law, positive_law}
use Rattle.part_laws.proofs.PartLimits.{reads_law}
use Rattle.part_laws.proofs.parts.law_of_parts.Goals as goal

pub returns : goal.returns
returns c = record { gains = gains_law; masses = masses_law; agents = agents_gains_law; mass = mass_law; lists = parts_law; reads = reads_law; positive = positive_law }
