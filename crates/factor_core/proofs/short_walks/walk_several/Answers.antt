use Rattle.factor_core.proofs.short_walks.walk_several.Goals as goal

pub walk_counted-requires-clause-narrow : goal.walk_counted-requires-clause-narrow
walk_counted-requires-clause-narrow g c = c.requires.narrow

pub walk_counted-requires-clause-can : goal.walk_counted-requires-clause-can
walk_counted-requires-clause-can g c = c.requires.can

pub returns-in-7 : goal.returns-in-7
returns-in-7 g c = c.walk_counted.ensures

pub walk_counted-requires-in-8-clause-narrow : goal.walk_counted-requires-in-8-clause-narrow
walk_counted-requires-in-8-clause-narrow g c = c.requires.narrow

pub walk_counted-requires-in-8-clause-can : goal.walk_counted-requires-in-8-clause-can
walk_counted-requires-in-8-clause-can g c = c.requires.can

pub returns-in-8 : goal.returns-in-8
returns-in-8 g c = c.walk_counted-in-8.ensures

pub walk_counted-requires-in-9-clause-narrow : goal.walk_counted-requires-in-9-clause-narrow
walk_counted-requires-in-9-clause-narrow g c = c.requires.narrow

pub walk_counted-requires-in-9-clause-can : goal.walk_counted-requires-in-9-clause-can
walk_counted-requires-in-9-clause-can g c = c.requires.can

pub returns-in-9 : goal.returns-in-9
returns-in-9 g c = c.walk_counted-in-9.ensures

pub walk_counted-requires-in-10-clause-narrow : goal.walk_counted-requires-in-10-clause-narrow
walk_counted-requires-in-10-clause-narrow g c = c.requires.narrow

pub walk_counted-requires-in-10-clause-can : goal.walk_counted-requires-in-10-clause-can
walk_counted-requires-in-10-clause-can g c = c.requires.can

pub returns-in-10 : goal.returns-in-10
returns-in-10 g c = c.walk_counted-in-10.ensures

pub walk_counted-requires-in-11-clause-narrow : goal.walk_counted-requires-in-11-clause-narrow
walk_counted-requires-in-11-clause-narrow g c = c.requires.narrow

pub walk_counted-requires-in-11-clause-can : goal.walk_counted-requires-in-11-clause-can
walk_counted-requires-in-11-clause-can g c = c.requires.can

pub returns-in-11 : goal.returns-in-11
returns-in-11 g c = c.walk_counted-in-11.ensures

pub walk_counted-requires-in-12-clause-narrow : goal.walk_counted-requires-in-12-clause-narrow
walk_counted-requires-in-12-clause-narrow g c = c.requires.narrow

pub walk_counted-requires-in-12-clause-can : goal.walk_counted-requires-in-12-clause-can
walk_counted-requires-in-12-clause-can g c = c.requires.can

pub returns-in-12 : goal.returns-in-12
returns-in-12 g c = c.walk_counted-in-12.ensures

pub walk-requires-clause-narrow : goal.walk-requires-clause-narrow
walk-requires-clause-narrow g c = c.requires.narrow

pub walk-requires-clause-can : goal.walk-requires-clause-can
walk-requires-clause-can g c = c.requires.can

pub returns-in_default : goal.returns-in_default
returns-in_default g c = c.walk.ensures.adds
