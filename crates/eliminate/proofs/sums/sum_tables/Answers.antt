use Rattle.eliminate.proofs.sums.sum_tables.Goals as goal

pub returns : goal.returns
returns g c = c.sum_in_order.ensures

pub sum_in_order-requires-clause-numbers : goal.sum_in_order-requires-clause-numbers
sum_in_order-requires-clause-numbers g c = c.requires.numbers

pub sum_in_order-requires-clause-holds : goal.sum_in_order-requires-clause-holds
sum_in_order-requires-clause-holds g c = c.requires.holds

pub sum_in_order-requires-clause-fits : goal.sum_in_order-requires-clause-fits
sum_in_order-requires-clause-fits g c = c.requires.fits

pub invariant_of-lists : goal.invariant_of-lists
invariant_of-lists g c = c.lists.invariant
