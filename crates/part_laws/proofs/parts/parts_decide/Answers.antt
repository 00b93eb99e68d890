use Rattle.part_laws.proofs.PartChoices.{choices_law, worths_law}
use Rattle.part_laws.proofs.parts.parts_decide.Goals as goal

pub returns : goal.returns
returns c = record { choices = choices_law; worths = worths_law }
