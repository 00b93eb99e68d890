use Rattle.std.proofs.Common.{◌≡◌, ◌+◌, arith}
use Rattle.maid_model.specs.Bounds.{stopped}
use Rattle.size_precheck.proofs.runs.join_sizes.Goals as goal

pub returns : goal.returns
returns c =
    let work : c.min.result ≡ stopped (c.args.size.work + c.args.other.work) = omega (arith, c.min.ensures, c.saturating_add.ensures) in
    λ i. record { cells = c.max.ensures i; work = work i }
