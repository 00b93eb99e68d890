use Rattle.std.proofs.Common.{◌^◌, ◌<◌, ◌≤◌, subst, sym, arith}
use Rattle.std.proofs.Math.Nat.{pow-le-pow_right, one-le-pow}
use Rattle.maid_model.proofs.diagrams.Diagram.scale.Goals as goal

-- a diagram has at most 30 decimals
pub pow-requires : goal.pow-requires
pow-requires c =
    let few : c.decimals.result ≤ 30 = subst (λ k. k ≤ 30) (sym c.decimals.ensures.decimals) c.decimals.ensures.diagram.limits.decimals in
    let ten : 0 < 10 = omega arith in
    let least : 10 ^ c.decimals.result ≤ 10 ^ 30 = pow-le-pow_right ten few in
    omega arith

pub returns-clause-some : goal.returns-clause-some
returns-clause-some c =
    let ten : 0 < 10 = omega arith in
    subst (λ n. 0 < n) (sym c.pow.ensures) (one-le-pow c.decimals.result 10 ten)
