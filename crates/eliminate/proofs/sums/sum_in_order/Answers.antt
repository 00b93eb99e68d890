use Rattle.eliminate.proofs.sums.sum_in_order.Goals as goal

pub returns : goal.returns
returns g c = c.sum_with.ensures

pub sum_with-requires-clause-numbers : goal.sum_with-requires-clause-numbers
sum_with-requires-clause-numbers g c = c.requires.numbers

pub sum_with-requires-clause-holds : goal.sum_with-requires-clause-holds
sum_with-requires-clause-holds g c = c.requires.holds

pub sum_with-requires-clause-fits : goal.sum_with-requires-clause-fits
sum_with-requires-clause-fits g c = c.requires.fits
