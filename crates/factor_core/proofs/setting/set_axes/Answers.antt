use Rattle.std.proofs.Common.{rules, ◌≡◌, ℕ, Bool, List, ◌+◌, ◌-◌, ◌*◌, ◌<◌, ◌≤◌, length, take, drop, set, get_or, ap, sym, ◌∙◌, subst, arith}
use Rattle.std.proofs.lemmas.List.{get_or_default}
use Rattle.node_sets.specs.Sets.{holds}
use Rattle.factor_core.specs.Tables.{states_in, size_from, stride_of, axes_of, listed}
use Rattle.factor_core.specs.declared.walks.Axis.{Axis}
use Rattle.factor_core.proofs.StrideRows.{kept_below, size_there, axes_back, taken_few}
use Rattle.factor_core.proofs.setting.set_axes.Goals as goal

-- the node before the next one, where the size is that of the nodes from the next one on
module _ (counts : List ℕ) (h : ℕ → Bool) (kept : List ℕ) (listing : kept ≡ listed h 0 (length counts)) (next size : ℕ) (inside : next - 1 < length kept) (here : next - 1 + 1 ≡ next)
    (behind : size ≡ size_from (states_in counts) h (get_or kept next (length counts)) (length counts - get_or kept next (length counts))) where
  node_below : get_or kept (next - 1) 0 < length counts
  node_below = kept_below h (length counts) kept listing (next - 1) inside

  states : get_or counts (get_or kept (next - 1) 0) 0 ≡ states_in counts (get_or kept (next - 1) 0)
  states = get_or_default counts (get_or kept (next - 1) 0) 0 1 node_below

  so_far : size ≡ size_from (states_in counts) h (get_or kept (next - 1 + 1) (length counts)) (length counts - get_or kept (next - 1 + 1) (length counts))
  so_far = behind ∙ ap (λ k. size_from (states_in counts) h (get_or kept k (length counts)) (length counts - get_or kept k (length counts))) (sym here)

  -- the size with its states taken in
  size_now : size * get_or counts (get_or kept (next - 1) 0) 0 ≡ size_from (states_in counts) h (get_or kept (next - 1) (length counts)) (length counts - get_or kept (next - 1) (length counts))
  size_now = size_there h (length counts) kept listing (states_in counts) (next - 1) size (get_or counts (get_or kept (next - 1) 0) 0) inside states so_far

  -- the axes with its own
  axes_now : (axes : List Axis) → length kept ≤ length axes → drop next (take (length kept) axes) ≡ axes_of (states_in counts) (stride_of (states_in counts) (length counts) h) (drop next kept)
      → drop (next - 1) (take (length kept) (set axes (next - 1) (record { states = get_or counts (get_or kept (next - 1) 0) 0; out = size }))) ≡ axes_of (states_in counts) (stride_of (states_in counts) (length counts) h) (drop (next - 1) kept)
  axes_now axes room written = axes_back h (length counts) kept listing (states_in counts) (next - 1) size (get_or counts (get_or kept (next - 1) 0) 0) axes inside room states so_far
      (subst (λ k. drop k (take (length kept) axes) ≡ axes_of (states_in counts) (stride_of (states_in counts) (length counts) h) (drop k kept)) (sym here) written)

pub offset_bounds-counts-kept : goal.offset_bounds-counts-kept
offset_bounds-counts-kept c =
    let counts = c.args.counts.now in
    let kept = c.args.kept.now in
    let here = kept_below (holds c.args.scope.now) (length counts) kept c.requires.kept (c.loop-i.i - 1) (omega (arith, c.loop-i.auto.i, c.loop-i-test.true)) in
    omega (arith, here, c.requires.counts.few)

pub bounds-counts-kept : goal.bounds-counts-kept
bounds-counts-kept c =
    let counts = c.args.counts.now in
    let kept = c.args.kept.now in
    kept_below (holds c.args.scope.now) (length counts) kept c.requires.kept (c.loop-i.i - 1) (omega (arith, c.loop-i.auto.i, c.loop-i-test.true))

pub overflow_mul-size : goal.overflow_mul-size
overflow_mul-size c =
    let counts = c.args.counts.now in
    let kept = c.args.kept.now in
    let h = holds c.args.scope.now in
    let i = c.loop-i.i - 1 in
    let next : i + 1 ≡ c.loop-i.i = omega (arith, c.loop-i-test.true) in
    let within : i < length kept = omega (arith, c.loop-i.auto.i, c.loop-i-test.true) in
    let size = size_now counts h kept c.requires.kept c.loop-i.i c.loop-i.size within next c.loop-i.invariant.2 in
    let there = get_or_default kept i (length counts) 0 within in
    let few = taken_few (states_in counts) h c.requires.counts.some (length counts) (get_or kept i 0) (kept_below h (length counts) kept c.requires.kept i within) c.requires.fits in
    omega (arith, size, few, ap (λ u. size_from (states_in counts) h u (length counts - u)) there)

pub loop-i-preserved : goal.loop-i-preserved
loop-i-preserved c =
    let counts = c.args.counts.now in
    let kept = c.args.kept.now in
    let h = holds c.args.scope.now in
    let i = c.loop-i.i - 1 in
    let next : i + 1 ≡ c.loop-i.i = omega (arith, c.loop-i-test.true) in
    let within : i < length kept = omega (arith, c.loop-i.auto.i, c.loop-i-test.true) in (
      search rules,
      axes_now counts h kept c.requires.kept c.loop-i.i c.loop-i.size within next c.loop-i.invariant.2 c.loop-i.axes (omega (arith, c.loop-i.invariant.0, c.requires.room)) c.loop-i.invariant.1,
      size_now counts h kept c.requires.kept c.loop-i.i c.loop-i.size within next c.loop-i.invariant.2,
    )
