use Rattle.std.proofs.Common.{◌∙◌, refl, sym}
use Rattle.threshold.proofs.Narrowing.{lesser_of, lesser_last, less_order, no_less_order}
use Rattle.threshold.proofs.held.lesser.Goals as goal

pub returns-in-Less-clause-up_to : goal.returns-in-Less-clause-up_to
returns-in-Less-clause-up_to c = (lesser_last c.args.a c.args.b c.requires.a c.requires.b (less_order _ _ _ _ (sym c.compare_parts.ensures ∙ c.in-Less.is))).1

pub returns-in-Equal-clause-up_to : goal.returns-in-Equal-clause-up_to
returns-in-Equal-clause-up_to c = (lesser_of c.args.a c.args.b c.args.a c.requires.a c.requires.b (no_less_order c.args.b.num c.args.b.den c.args.a.num c.args.a.den _ c.compare_parts.ensures c.in-Equal.is) refl).1
