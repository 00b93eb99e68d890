use Rattle.relevance_graph.proofs.Standing.{search_there}
use Rattle.relevance_graph.proofs.laws.kept_searches_stand.Goals as goal

pub returns : goal.returns
returns c nodes others kept k h = search_there nodes others kept k h
