use Rattle.arc_laws.proofs.Alone.{one_agent_law, answer_optimum_law}
use Rattle.arc_laws.proofs.worths.answer_is_optimum.Goals as goal

pub returns : goal.returns
returns c = record { diagram = one_agent_law; optimum = answer_optimum_law }
