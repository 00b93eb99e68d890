use Rattle.factor_core.proofs.short_walks.walk_few.Goals as goal

pub walk_counted-requires-clause-narrow : goal.walk_counted-requires-clause-narrow
walk_counted-requires-clause-narrow g c = c.requires.narrow

pub walk_counted-requires-clause-can : goal.walk_counted-requires-clause-can
walk_counted-requires-clause-can g c = c.requires.can

pub returns-in-1 : goal.returns-in-1
returns-in-1 g c = c.walk_counted.ensures

pub walk_counted-requires-in-2-clause-narrow : goal.walk_counted-requires-in-2-clause-narrow
walk_counted-requires-in-2-clause-narrow g c = c.requires.narrow

pub walk_counted-requires-in-2-clause-can : goal.walk_counted-requires-in-2-clause-can
walk_counted-requires-in-2-clause-can g c = c.requires.can

pub returns-in-2 : goal.returns-in-2
returns-in-2 g c = c.walk_counted-in-2.ensures

pub walk_counted-requires-in-3-clause-narrow : goal.walk_counted-requires-in-3-clause-narrow
walk_counted-requires-in-3-clause-narrow g c = c.requires.narrow

pub walk_counted-requires-in-3-clause-can : goal.walk_counted-requires-in-3-clause-can
walk_counted-requires-in-3-clause-can g c = c.requires.can

pub returns-in-3 : goal.returns-in-3
returns-in-3 g c = c.walk_counted-in-3.ensures

pub walk_counted-requires-in-4-clause-narrow : goal.walk_counted-requires-in-4-clause-narrow
walk_counted-requires-in-4-clause-narrow g c = c.requires.narrow

pub walk_counted-requires-in-4-clause-can : goal.walk_counted-requires-in-4-clause-can
walk_counted-requires-in-4-clause-can g c = c.requires.can

pub returns-in-4 : goal.returns-in-4
returns-in-4 g c = c.walk_counted-in-4.ensures

pub walk_counted-requires-in-5-clause-narrow : goal.walk_counted-requires-in-5-clause-narrow
walk_counted-requires-in-5-clause-narrow g c = c.requires.narrow

pub walk_counted-requires-in-5-clause-can : goal.walk_counted-requires-in-5-clause-can
walk_counted-requires-in-5-clause-can g c = c.requires.can

pub returns-in-5 : goal.returns-in-5
returns-in-5 g c = c.walk_counted-in-5.ensures

pub walk_counted-requires-in-6-clause-narrow : goal.walk_counted-requires-in-6-clause-narrow
walk_counted-requires-in-6-clause-narrow g c = c.requires.narrow

pub walk_counted-requires-in-6-clause-can : goal.walk_counted-requires-in-6-clause-can
walk_counted-requires-in-6-clause-can g c = c.requires.can

pub returns-in-6 : goal.returns-in-6
returns-in-6 g c = c.walk_counted-in-6.ensures

pub walk_several-requires-clause-narrow : goal.walk_several-requires-clause-narrow
walk_several-requires-clause-narrow g c = c.requires.narrow

pub walk_several-requires-clause-can : goal.walk_several-requires-clause-can
walk_several-requires-clause-can g c = c.requires.can

pub returns-in_default : goal.returns-in_default
returns-in_default g c = c.walk_several.ensures
