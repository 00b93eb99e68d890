use Rattle.std.proofs.Common.{get_or}
use Rattle.rule_solver.proofs.keeping.kept_diagrams_stand.Goals as goal

pub returns : goal.returns
returns c nodes others kept plans searches h = record {
  plans = c.kept_runs_stand.ensures nodes others kept.plans plans h.plans;
  searches = λ i e l. c.kept_searches_stand.ensures nodes others (get_or kept.searches.items i e) searches (h.searches i e l);
}
