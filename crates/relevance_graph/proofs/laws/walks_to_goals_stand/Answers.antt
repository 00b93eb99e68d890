use Rattle.relevance_graph.proofs.InControl.{searches_kept}
use Rattle.relevance_graph.proofs.Standing.{walks_there}
use Rattle.relevance_graph.proofs.laws.walks_to_goals_stand.Goals as goal

pub returns-clause-control : goal.returns-clause-control
returns-clause-control c = searches_kept

pub returns-clause-walks : goal.returns-clause-walks
returns-clause-walks c = walks_there
