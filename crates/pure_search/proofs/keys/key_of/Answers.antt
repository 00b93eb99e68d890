use Rattle.std.proofs.Common.{◌∙◌, ◌<◌, length, drop, sym, subst, arith}
use Rattle.maid_model.specs.Worlds.{worlds}
use Rattle.pure_search.proofs.OthersKeys.{digit_fits, key_small, next_digit, no_more}
use Rattle.pure_search.proofs.keys.key_of.Goals as goal

pub overflow_mul-key : goal.overflow_mul-key
overflow_mul-key c =
    let small = key_small c.args.agent c.args.counts.now c.args.owners.now c.args.choices.now c.requires.choices c.requires.owners in
    let fits = digit_fits c.args.agent c.loop-place.key c.loop-place.place c.args.counts.now c.args.owners.now c.args.choices.now c.requires.choices c.requires.owners c.loop-place-test.true
    (length (worlds c.args.counts.now)) (subst (λ n. n < length (worlds c.args.counts.now)) (sym c.loop-place.invariant) small) in
    let few = c.requires.few in
    omega (arith, fits, few)

pub overflow_add-key : goal.overflow_add-key
overflow_add-key c =
    let small = key_small c.args.agent c.args.counts.now c.args.owners.now c.args.choices.now c.requires.choices c.requires.owners in
    let fits = digit_fits c.args.agent c.loop-place.key c.loop-place.place c.args.counts.now c.args.owners.now c.args.choices.now c.requires.choices c.requires.owners c.loop-place-test.true
    (length (worlds c.args.counts.now)) (subst (λ n. n < length (worlds c.args.counts.now)) (sym c.loop-place.invariant) small) in
    let few = c.requires.few in
    let digit = c.unless_own.ensures in
    omega (arith, fits, few, digit)

pub loop-place-preserved : goal.loop-place-preserved
loop-place-preserved c =
    let next = next_digit c.args.agent c.loop-place.key c.loop-place.place c.args.counts.now c.args.owners.now c.args.choices.now c.requires.choices c.requires.owners c.loop-place-test.true in
    cc (next, c.loop-place.invariant, c.unless_own.ensures)

pub returns-clause-key : goal.returns-clause-key
returns-clause-key c =
    sym (no_more c.args.agent c.loop-place.key c.loop-place.place c.args.counts.now (drop c.loop-place.place c.args.owners.now) (drop c.loop-place.place c.args.choices.now) c.loop-place-test.false) ∙ c.loop-place.invariant

pub returns-clause-within : goal.returns-clause-within
returns-clause-within c =
    let small = key_small c.args.agent c.args.counts.now c.args.owners.now c.args.choices.now c.requires.choices c.requires.owners in
    subst (λ n. n < length (worlds c.args.counts.now)) (sym c.loop-place.invariant ∙ no_more c.args.agent c.loop-place.key c.loop-place.place c.args.counts.now (drop c.loop-place.place c.args.owners.now) (drop c.loop-place.place c.args.choices.now) c.loop-place-test.false) small
