use Rattle.std.proofs.Common.{◌-◌, length, refl, arith}
use Rattle.maid_model.proofs.Next.{so_far_none}
use Rattle.pure_search.proofs.Steps.{turn_back, turn_is, turn_more}
use Rattle.pure_search.proofs.odometer.next_choices.Goals as goal

pub returns-then-choice-counts-clause-world : goal.returns-then-choice-counts-clause-world
returns-then-choice-counts-clause-world c = turn_is c.args.counts.now c.args.choices.now c.loop-place.choices c.loop-place.place c.requires c.loop-place.invariant c.loop-place-test.true c.if-choice-counts.true

pub returns-then-choice-counts-clause-more : goal.returns-then-choice-counts-clause-more
returns-then-choice-counts-clause-more c = λ _. turn_more c.args.counts.now c.args.choices.now c.loop-place.choices c.loop-place.place c.requires c.loop-place.invariant c.loop-place-test.true c.if-choice-counts.true

pub loop-place-preserved : goal.loop-place-preserved
loop-place-preserved c = turn_back c.args.counts.now c.args.choices.now c.loop-place.choices c.loop-place.place c.requires c.loop-place.invariant c.loop-place-test.true c.if-choice-counts.false

pub bounds-choices-place : goal.bounds-choices-place
bounds-choices-place c = omega (arith, c.loop-place-test.true, c.loop-place.invariant.within, c.loop-place.auto.choices)

pub bounds-counts-place : goal.bounds-counts-place
bounds-counts-place c = omega (arith, c.loop-place-test.true, c.loop-place.invariant.within, c.requires.len)

pub overflow_sub-counts : goal.overflow_sub-counts
overflow_sub-counts c = omega (arith, c.requires.each (c.loop-place.place - 1) (omega (arith, c.loop-place-test.true, c.loop-place.invariant.within)))

pub overflow_add-choices : goal.overflow_add-choices
overflow_add-choices c = omega (arith, c.type_inv.counts (c.loop-place.place - 1), c.if-choice-counts.true)

pub loop-place-init : goal.loop-place-init
loop-place-init c = so_far_none c.args.counts.now c.args.choices.now c.args.choices.now (length c.args.choices.now) c.requires.len refl refl

pub overflow_sub-place : goal.overflow_sub-place
overflow_sub-place c = c.loop-place-test.true

pub bounds-choices-place-then-choice-counts : goal.bounds-choices-place-then-choice-counts
bounds-choices-place-then-choice-counts c = omega (arith, c.loop-place-test.true, c.loop-place.invariant.within, c.loop-place.auto.choices)

pub bounds-choices-place-in-loop-place : goal.bounds-choices-place-in-loop-place
bounds-choices-place-in-loop-place c = omega (arith, c.loop-place-test.true, c.loop-place.invariant.within, c.loop-place.auto.choices)

pub loop-place-smaller : goal.loop-place-smaller
loop-place-smaller c = omega (arith, c.loop-place-test.true)
