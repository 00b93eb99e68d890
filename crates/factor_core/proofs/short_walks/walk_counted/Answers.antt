use Rattle.factor_core.proofs.short_walks.walk_counted.Goals as goal

pub walk-requires-clause-narrow : goal.walk-requires-clause-narrow
walk-requires-clause-narrow g c = c.requires.narrow

pub walk-requires-clause-can : goal.walk-requires-clause-can
walk-requires-clause-can g c = c.requires.can

pub returns-in-None : goal.returns-in-None
returns-in-None g c = c.walk.ensures.adds
