use Rattle.part_laws.proofs.ScopeBounds.{decisions_law, agents_law}
use Rattle.part_laws.proofs.ScopeRoom.{answers_law, bases_law, room_law, weaker_law}
use Rattle.part_laws.proofs.parts.scoped_sums_fit.Goals as goal

pub returns : goal.returns
returns c = record { decisions = decisions_law; agents = agents_law; answers = answers_law; bases = bases_law; room = room_law; weaker = weaker_law }
