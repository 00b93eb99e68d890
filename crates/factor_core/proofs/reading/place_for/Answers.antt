use Rattle.std.proofs.Common.{rules, cond, ◌≡◌, ◌+◌, ◌-◌, ◌*◌, ◌<◌, ◌≤◌, length, get_or, sym, ap, ◌∙◌, arith}
use Rattle.std.proofs.Math.Nat.{mul-le-mul_left}
use Rattle.std.proofs.lemmas.List.{get_or_default}
use Rattle.node_sets.specs.Sets.{holds}
use Rattle.factor_core.specs.Tables.{states_in, size_from, size_of, place_of, listed}
use Rattle.factor_core.proofs.Placing.{first_left, left_next, next_size, next_place_is, size_some}
use Rattle.factor_core.proofs.reading.place_for.Goals as goal

pub next_place-place-requires-clause-small : goal.next_place-place-requires-clause-small
next_place-place-requires-clause-small c =
    let counts = c.args.counts.now in
    let n = length counts in
    let some = size_some (states_in counts) (holds c.args.scope.now) n c.requires.counts.some (n - c.loop-v.v) c.loop-v.v in
    let step : (c.loop-v.place + 1) * 1 ≤ (c.loop-v.place + 1) * size_from (states_in counts) (holds c.args.scope.now) c.loop-v.v (n - c.loop-v.v) = mul-le-mul_left (c.loop-v.place + 1) some in
    omega (arith, step, c.loop-v.invariant.fits, c.requires.fits)

pub next_place-place-requires-clause-state : goal.next_place-place-requires-clause-state
next_place-place-requires-clause-state c = λ t.
    let counts = c.args.counts.now in
    let n = length counts in
    let h = holds c.args.scope.now in
    let order = listed (holds c.args.scope.now) 0 (length c.args.counts.now) in
    let first = first_left (states_in counts) h n c.loop-v.v c.loop-v.i order c.loop-v-test.true (sym c.holds-held.ensures ∙ t) c.loop-v.invariant.left in
    let inside : c.loop-v.i < length c.args.states.now = omega (arith, first.1, c.requires.states.count) in
    let state = c.requires.states.within c.loop-v.i inside in
    let count : states_in counts (get_or order c.loop-v.i 0) ≡ states_in counts c.loop-v.v = ap (states_in counts) first.0 in
    let read = get_or_default counts c.loop-v.v 0 1 c.loop-v-test.true in
    (inside, omega (arith, state, count, read))

pub loop-v-preserved : goal.loop-v-preserved
loop-v-preserved c =
    let counts = c.args.counts.now in
    let n = length counts in
    let h = holds c.args.scope.now in
    let v = c.loop-v.v in
    let i = c.loop-v.i in
    let place = c.loop-v.place in
    let s = get_or c.args.states.now i 0 in
    let order = listed (holds c.args.scope.now) 0 (length c.args.counts.now) in
    let read = get_or_default counts v 0 1 c.loop-v-test.true in
    let is = c.next_place-place.ensures ∙ ap (λ k. cond c.holds-held.result (place * k + s) place) read in
    record {
      left = left_next (states_in counts) h n v i c.counted-i.result order c.holds-held.result c.loop-v-test.true (sym c.holds-held.ensures) c.counted-i.ensures c.loop-v.invariant.left;
      fits = next_size (states_in counts) h n v c.loop-v-test.true place c.next_place-place.result s c.holds-held.result (sym c.holds-held.ensures) is
          (λ t.
          let first = first_left (states_in counts) h n v i order c.loop-v-test.true (sym c.holds-held.ensures ∙ t) c.loop-v.invariant.left in
          let state = c.requires.states.within i (omega (arith, first.1, c.requires.states.count)) in
          omega (arith, state, ap (states_in counts) first.0))
          (size_of counts c.args.scope.now) c.loop-v.invariant.fits;
      place = λ w gives.
          next_place_is (states_in counts) h n v c.loop-v-test.true place c.next_place-place.result s w c.holds-held.result (sym c.holds-held.ensures) is
          (λ t.
          let first = first_left (states_in counts) h n v i order c.loop-v-test.true (sym c.holds-held.ensures ∙ t) c.loop-v.invariant.left in
          ap w (sym first.0) ∙ gives.state i first.1)
          (place_of counts c.args.scope.now w) (c.loop-v.invariant.place w gives);
      few = search rules;
    }
