use Rattle.std.proofs.Common.{◌∙◌}
use Rattle.rule_solver.proofs.Missing.{totals_positive}
use Rattle.std.specs.Int.{w128}
use Rattle.std.proofs.lemmas.Int.{to_z-of_z}
use Rattle.rule_solver.proofs.state_sums.sum_at.Goals as goal

pub fits_small-requires : goal.fits_small-requires
fits_small-requires c =
    let d = c.args.diagram.now in
    let p = c.args.profile.now in
    let is = c.count-count.ensures.diagram in
    record {
      diagram = is;
      planned = (c.args.plan.now.plan, c.requires.planned);
      some = totals_positive d.nodes p c.args.totals.now c.requires.totals is.graph is.tables c.requires.profile;
      fits = (p, c.requires.totals, c.requires.fits);
    }

pub run_at-requires-clause-within : goal.run_at-requires-clause-within
run_at-requires-clause-within c = c.requires.within

pub run_at-requires-clause-state : goal.run_at-requires-clause-state
run_at-requires-clause-state c = c.requires.state

pub run_at-requires-clause-profile : goal.run_at-requires-clause-profile
run_at-requires-clause-profile c = c.requires.profile

pub run_at-requires-clause-keep : goal.run_at-requires-clause-keep
run_at-requires-clause-keep c = c.requires.keep

pub run_at-requires-clause-planned : goal.run_at-requires-clause-planned
run_at-requires-clause-planned c = c.requires.planned

pub run_at-requires-clause-ready : goal.run_at-requires-clause-ready
run_at-requires-clause-ready c = (c.requires.ready.0, c.requires.ready.1.small, c.requires.ready.2)

pub run_at-requires-clause-fits : goal.run_at-requires-clause-fits
run_at-requires-clause-fits c =
    (c.fits_small.ensures c.args.profile.now c.requires.totals).0 c.if-fits_small.true

pub returns-then-fits_small-clause-sum : goal.returns-then-fits_small-clause-sum
returns-then-fits_small-clause-sum c =
    λ q inside at. to_z-of_z w128 c.run_at.result (record { sfits = c.run_at.type_inv }) ∙ c.run_at.ensures.sum q inside at

pub returns-then-fits_small-clause-again : goal.returns-then-fits_small-clause-again
returns-then-fits_small-clause-again c =
    λ i. record { small = c.run_at.ensures.again i; wide = c.args.spaces.now.wide; pairs = c.args.spaces.now.pairs; lists = tt; cells = c.args.spaces.now.cells; pair_cells = c.args.spaces.now.pair_cells }

pub run_at-requires-else-fits_small-clause-within : goal.run_at-requires-else-fits_small-clause-within
run_at-requires-else-fits_small-clause-within c = c.requires.within

pub run_at-requires-else-fits_small-clause-state : goal.run_at-requires-else-fits_small-clause-state
run_at-requires-else-fits_small-clause-state c = c.requires.state

pub run_at-requires-else-fits_small-clause-profile : goal.run_at-requires-else-fits_small-clause-profile
run_at-requires-else-fits_small-clause-profile c = c.requires.profile

pub run_at-requires-else-fits_small-clause-keep : goal.run_at-requires-else-fits_small-clause-keep
run_at-requires-else-fits_small-clause-keep c = c.requires.keep

pub run_at-requires-else-fits_small-clause-planned : goal.run_at-requires-else-fits_small-clause-planned
run_at-requires-else-fits_small-clause-planned c = c.requires.planned

pub run_at-requires-else-fits_small-clause-ready : goal.run_at-requires-else-fits_small-clause-ready
run_at-requires-else-fits_small-clause-ready c = (c.requires.ready.0, c.requires.ready.1.wide, c.requires.ready.2)

pub run_at-requires-else-fits_small-clause-fits : goal.run_at-requires-else-fits_small-clause-fits
run_at-requires-else-fits_small-clause-fits c = c.requires.fits

pub returns-else-fits_small-clause-sum : goal.returns-else-fits_small-clause-sum
returns-else-fits_small-clause-sum c =
    λ q inside at. to_z-of_z w128 c.run_at-else-fits_small.result (record { sfits = c.run_at-else-fits_small.type_inv }) ∙ c.run_at-else-fits_small.ensures.sum q inside at

pub returns-else-fits_small-clause-again : goal.returns-else-fits_small-clause-again
returns-else-fits_small-clause-again c =
    λ i. record { small = c.args.spaces.now.small; wide = c.run_at-else-fits_small.ensures.again i; pairs = c.args.spaces.now.pairs; lists = tt; cells = c.args.spaces.now.cells; pair_cells = c.args.spaces.now.pair_cells }
