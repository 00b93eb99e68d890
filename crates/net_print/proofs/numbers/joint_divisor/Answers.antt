-- every number is a multiple of 1
use Rattle.std.proofs.Common.{subst}
use Rattle.std.specs.Int.{◌∣◌}
use Rattle.std.proofs.Math.Nat.{one-dvd}
use Rattle.net_print.proofs.numbers.joint_divisor.Goals as goal

pub returns-then-divisor-eq1 : goal.returns-then-divisor-eq1
returns-then-divisor-eq1 c = (one-dvd c.args.divisor, one-dvd c.args.size, λ d of_divisor of_size. subst (λ n. d ∣ n) c.if-divisor-eq1.true of_divisor)
