use Rattle.maid_laws.proofs.RowLaws.{mass_same_law, no_gain_law}
use Rattle.maid_laws.proofs.irrelevance.mass_at_each_state.Goals as goal

pub returns : goal.returns
returns c = record { same = mass_same_law; none = no_gain_law }
