-- A chance node and a utility are no decisions.
use Rattle.net_build.proofs.PotentialLemmas.{present_passes}
use Rattle.net_build.proofs.potentials.check_table.Goals as goal

pub returns-in-Chance : goal.returns-in-Chance
returns-in-Chance c = present_passes c.args.heads.now _ c.args.node _ c.requires.within c.in-Chance.is c.check_present.ensures
