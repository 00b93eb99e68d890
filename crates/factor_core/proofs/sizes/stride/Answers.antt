use Rattle.std.proofs.Common.{◌≡◌, ap, ◌+◌, ◌-◌, length, arith}
use Rattle.node_sets.specs.Sets.{holds}
use Rattle.factor_core.specs.Tables.{states_in, size_from}
use Rattle.factor_core.proofs.SizeLemmas.{size_later}
use Rattle.factor_core.proofs.sizes.stride.Goals as goal

pub size_after-requires-clause-fits : goal.size_after-requires-clause-fits
size_after-requires-clause-fits c =
    let counts = c.args.counts.now in
    omega (arith, size_later (states_in counts) (holds c.args.scope.now) c.requires.counts.some (length counts) 0 (c.args.node + 1) (omega arith) (omega (arith, c.requires.node)), c.requires.fits, ap (λ k. size_from (states_in counts) (holds c.args.scope.now) 0 k) (let e : length counts - 0 ≡ length counts = omega arith in e))
