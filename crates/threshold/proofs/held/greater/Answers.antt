use Rattle.std.proofs.Common.{refl, sym, ◌∙◌}
use Rattle.threshold.proofs.Narrowing.{greater_of, greater_first, less_order, no_less_order}
use Rattle.threshold.proofs.held.greater.Goals as goal

pub returns-in-Less-clause-from : goal.returns-in-Less-clause-from
returns-in-Less-clause-from c = (greater_of c.args.a c.args.b c.args.b c.requires.a c.requires.b (less_order _ _ _ _ (sym c.compare_parts.ensures ∙ c.in-Less.is)) refl).1

pub returns-in-Equal-clause-from : goal.returns-in-Equal-clause-from
returns-in-Equal-clause-from c = (greater_first c.args.a c.args.b c.requires.a c.requires.b (no_less_order c.args.a.num c.args.a.den c.args.b.num c.args.b.den _ c.compare_parts.ensures c.in-Equal.is)).1
