use Rattle.part_laws.proofs.PartLaws.{ancestors_law, graphs_law, tables_law, profiles_law}
use Rattle.part_laws.proofs.PartLimits.{diagrams_law, nodes_law, rules_law}
use Rattle.part_laws.proofs.parts.parts_are_diagrams.Goals as goal

pub returns : goal.returns
returns c = record { ancestors = ancestors_law; graph = graphs_law; tables = tables_law; diagram = diagrams_law; profiles = profiles_law; nodes = nodes_law; rules = rules_law }
