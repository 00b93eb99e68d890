use Rattle.part_laws.proofs.ScopeLaws.{scopes_law, agents_scopes_law, relies_law}
use Rattle.part_laws.proofs.parts.scopes_are_parts.Goals as goal

pub returns : goal.returns
returns c = record { decisions = scopes_law; agents = agents_scopes_law; relies = relies_law }
