use Rattle.std.proofs.Common.{◌≡◌, ◌∙◌, ◌<◌, ◌+◌, length, get_or, set, sym, ap, subst, rules, pos, true, false, arith, FitsSigned}
use Rattle.std.proofs.lemmas.Int.{to_z-of_z}
use Rattle.std.proofs.lemmas.List.{get_or-replicate, get_or_default}
use Rattle.std.proofs.lemmas.Result.{IfOk-from_err}
use borrow.Author.Count.{falls}
use Rattle.std.specs.Int.{w128}
use Rattle.std.specs.Int.Signed.{lt_z}
use Rattle.pure_search.specs.Games.{AreGreatest, least_signed}
use Rattle.pure_search.proofs.Entries.{less_told, none_seen, not_less_told, seen_greater, seen_less}
use Rattle.pure_search.proofs.marks.greatest_entries.Goals as goal
use Rattle.pure_search.proofs.marks.greatest_entries.Goals.{then-index-gain, else-index-gain}

pub loop-place-preserved : goal.loop-place-preserved
loop-place-preserved c =
    let keys = c.args.keys.now in
    let gains = c.args.gains.now in
    let best = c.loop-place.best.items in
    let key = get_or keys c.loop-place.place 0 in
    let gain = get_or gains c.loop-place.place (pos 0) in
    let within : key < length gains = c.requires.keys c.loop-place.place 0 (subst (λ n. c.loop-place.place < n) (sym c.requires.len) c.loop-place-test.true) in
    let there : c.index.result.now ≡ get_or best key (pos 0) = c.index.ensures ∙ get_or_default best key c.index.result.now (pos 0) (subst (λ n. key < n) (sym c.loop-place.invariant.len) within) in
    let fits_gain : FitsSigned w128 gain = search rules in
    let fits_best : FitsSigned w128 c.index.result.now = search rules in
    elim c.if-index-gain.branch [
      | then-index-gain w ↦
          let told : lt_z (get_or best key (pos 0)) gain ≡ true = (λ i. lt_z (sym (to_z-of_z w128 c.index.result.now fits_best ∙ there) i) (sym (to_z-of_z w128 gain fits_gain) i)) ∙ w.if-index-gain.true in
          subst (AreGreatest keys gains (c.loop-place.place + 1)) (sym (ap (λ v. v.items) w.best-is ∙ ap (set best key) (to_z-of_z w128 gain fits_gain)))
          (seen_greater keys gains best c.loop-place.place key gain c.loop-place.invariant within (λ i. key) (λ i. gain) (less_told (get_or best key (pos 0)) gain told))
      | else-index-gain w ↦
          let told : lt_z (get_or best key (pos 0)) gain ≡ false = (λ i. lt_z (sym (to_z-of_z w128 c.index.result.now fits_best ∙ there) i) (sym (to_z-of_z w128 gain fits_gain) i)) ∙ w.if-index-gain.false in
          subst (AreGreatest keys gains (c.loop-place.place + 1)) (sym (ap (λ v. v.items) w.best-is))
          (seen_less keys gains best c.loop-place.place key gain c.loop-place.invariant within (λ i. key) (λ i. gain) (not_less_told (get_or best key (pos 0)) gain told))
    ]

pub bounds-gains-place : goal.bounds-gains-place
bounds-gains-place c = c.loop-place-test.true

pub bounds-keys-place : goal.bounds-keys-place
bounds-keys-place c = subst (λ n. c.loop-place.place < n) (sym c.requires.len) c.loop-place-test.true

pub loop-place-smaller : goal.loop-place-smaller
loop-place-smaller c = falls _ _ c.loop-place-test.true

pub returns : goal.returns
returns c =
    let end : c.loop-place.place ≡ length c.args.gains.now = let h = c.loop-place-test.false in let k = c.loop-place.auto.place-end in omega (arith, h, k) in
    subst (λ n. AreGreatest c.args.keys.now c.args.gains.now n c.loop-place.best.items) end c.loop-place.invariant

pub returns-in_err-best : goal.returns-in_err-best
returns-in_err-best c = IfOk-from_err _ _ c.from_residual.ensures.0

pub index-requires : goal.index-requires
index-requires c =
    subst (λ n. get_or c.args.keys.now c.loop-place.place 0 < n) (sym (c.loop-place.best.ok.0 ∙ c.loop-place.invariant.len))
    (c.requires.keys c.loop-place.place 0 (subst (λ n. c.loop-place.place < n) (sym c.requires.len) c.loop-place-test.true))

pub index_mut-requires : goal.index_mut-requires
index_mut-requires c =
    subst (λ n. get_or c.args.keys.now c.loop-place.place 0 < n) (sym (c.loop-place.best.ok.0 ∙ c.loop-place.invariant.len))
    (c.requires.keys c.loop-place.place 0 (subst (λ n. c.loop-place.place < n) (sym c.requires.len) c.loop-place-test.true))

pub loop-place-init : goal.loop-place-init
loop-place-init c =
    none_seen c.args.keys.now c.args.gains.now c.in_ok-best.best.items (sym c.in_ok-best.best.ok.0 ∙ c.in_ok-best.ensures.len)
    (λ key l. ap (λ b. get_or b key (pos 0)) (c.in_ok-best.ensures.items_if_clones_equal (λ y e. e)) ∙ get_or-replicate (length c.args.gains.now) key least_signed (pos 0) l)
