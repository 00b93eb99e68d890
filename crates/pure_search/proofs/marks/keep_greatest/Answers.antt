use Rattle.std.proofs.Common.{◌≡◌, ◌∙◌, ◌<◌, ◌≤◌, ◌+◌, length, get_or, sym, subst, rules, pos, true, false, FitsSigned}
use Rattle.std.proofs.lemmas.Int.{to_z-of_z}
use Rattle.std.proofs.lemmas.List.{get_or_default}
use borrow.Author.Count.{falls}
use Rattle.std.specs.Int.{w128}
use Rattle.std.specs.Int.Signed.{lt_z}
use Rattle.pure_search.proofs.Entries.{KeptSoFar, all_kept, least_is, less_told, none_kept, not_less_told, stayed, taken}
use Rattle.pure_search.proofs.marks.keep_greatest.Goals as goal
use Rattle.pure_search.proofs.marks.keep_greatest.Goals.{then-gain-index, else-gain-index}

pub loop-place-preserved : goal.loop-place-preserved
loop-place-preserved c =
    let keys = c.args.keys.now in
    let gains = c.args.gains.now in
    let best = c.in_ok-best.best.items in
    let key = get_or keys c.loop-place.place 0 in
    let gain = get_or gains c.loop-place.place (pos 0) in
    let within : key < length gains = c.requires.keys c.loop-place.place 0 (subst (λ n. c.loop-place.place < n) (sym c.requires.len) c.loop-place-test.true) in
    let there : c.index.result.now ≡ get_or best key (pos 0) = c.index.ensures ∙ get_or_default best key c.index.result.now (pos 0) (subst (λ n. key < n) (sym c.in_ok-best.ensures.len) within) in
    let fits_gain : FitsSigned w128 gain = search rules in
    let fits_best : FitsSigned w128 c.index.result.now = search rules in
    elim c.if-gain-index.branch [
      | then-gain-index w ↦
          let told : lt_z gain (get_or best key (pos 0)) ≡ true = (λ i. lt_z (sym (to_z-of_z w128 gain fits_gain) i) (sym (to_z-of_z w128 c.index.result.now fits_best ∙ there) i)) ∙ w.if-gain-index.true in
          subst (λ ms. KeptSoFar keys gains c.args.marks.now ms (c.loop-place.place + 1)) (sym w.marks-is)
          (taken keys gains best c.args.marks.now c.loop-place.marks c.loop-place.place c.in_ok-best.ensures c.loop-place-test.true c.requires.marks within (least_is gain fits_gain) c.loop-place.invariant (less_told gain (get_or best key (pos 0)) told))
      | else-gain-index w ↦
          let told : lt_z gain (get_or best key (pos 0)) ≡ false = (λ i. lt_z (sym (to_z-of_z w128 gain fits_gain) i) (sym (to_z-of_z w128 c.index.result.now fits_best ∙ there) i)) ∙ w.if-gain-index.false in
          subst (λ ms. KeptSoFar keys gains c.args.marks.now ms (c.loop-place.place + 1)) (sym w.marks-is)
          (stayed keys gains best c.args.marks.now c.loop-place.marks c.loop-place.place c.in_ok-best.ensures c.loop-place-test.true c.requires.marks within (least_is gain fits_gain) c.loop-place.invariant (not_less_told gain (get_or best key (pos 0)) told))
    ]

pub greatest_entries-requires-clause-len : goal.greatest_entries-requires-clause-len
greatest_entries-requires-clause-len c = c.requires.len

pub greatest_entries-requires-clause-keys : goal.greatest_entries-requires-clause-keys
greatest_entries-requires-clause-keys c = c.requires.keys

pub loop-place-init : goal.loop-place-init
loop-place-init c = none_kept c.args.keys.now c.args.gains.now c.args.marks.now

pub bounds-gains-place : goal.bounds-gains-place
bounds-gains-place c = c.loop-place-test.true

pub bounds-keys-place : goal.bounds-keys-place
bounds-keys-place c = subst (λ n. c.loop-place.place < n) (sym c.requires.len) c.loop-place-test.true

pub loop-place-smaller : goal.loop-place-smaller
loop-place-smaller c = falls _ _ c.loop-place-test.true

pub returns : goal.returns
returns c = all_kept c.args.keys.now c.args.gains.now c.args.marks.now c.loop-place.marks c.loop-place.place (subst (λ n. n ≤ c.loop-place.place) (sym c.requires.marks) c.loop-place-test.false) c.loop-place.invariant
