-- Where twice the value passes all numbers, so does its product with a bound of some size.
use Rattle.std.proofs.Common.{ℕ, ◌*◌, ◌<◌, ◌≤◌, MatchOption, sym, subst, arith}
use Rattle.std.proofs.lemmas.Nat.{mul-le}
use Rattle.cell_rings.specs.Rings.{most_size}
use Rattle.rule_solver.specs.Together.{HasNoBoundWith, IsBoundWith}
use Rattle.rule_solver.proofs.joint_goals.with_goal.Goals as goal

passes : (bound value : ℕ) → (value * 2 < 340282366920938463463374607431768211456 → ⊥) → 0 < bound → most_size < bound * (2 * value)
passes bound value big some =
    let least : 1 * (2 * value) ≤ bound * (2 * value) = mul-le 1 (2 * value) bound (2 * value) some (omega arith) in
    omega (arith, least, big)

pub returns-in_err-value : goal.returns-in_err-value
returns-in_err-value c =
    let nodes = c.args.diagram.now.nodes in
    subst (λ r. MatchOption r (HasNoBoundWith nodes c.args.bound c.args.goal) (IsBoundWith nodes c.args.bound c.args.goal)) (sym c.from_residual.ensures)
    (λ some. subst (λ n. most_size < c.args.bound * (2 * n)) c.greatest_value.ensures (passes c.args.bound c.greatest_value.result c.in_err-value.ensures some))
