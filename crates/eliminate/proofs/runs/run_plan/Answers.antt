use Rattle.eliminate.proofs.runs.run_plan.Goals as goal

pub run_in_order-requires-clause-made : goal.run_in_order-requires-clause-made
run_in_order-requires-clause-made g c = c.requires.made

pub run_in_order-requires-clause-fits : goal.run_in_order-requires-clause-fits
run_in_order-requires-clause-fits g c = c.requires.fits

pub invariant_of-lists : goal.invariant_of-lists
invariant_of-lists g c = c.lists.invariant
