use Rattle.rule_solver.proofs.keeping.keep_diagram.Goals as goal

pub returns-clause-searches : goal.returns-clause-searches
returns-clause-searches c = c.in_ok-searches.ensures.decisions
