use Rattle.weight_scale.proofs.Written.{front_are_digits}
use Rattle.weight_scale.proofs.digits.split_digits.Goals as goal

pub returns-clause-are_digits : goal.returns-clause-are_digits
returns-clause-are_digits c = rw (c.split_at.ensures.front, c.count_digits.ensures.count) (front_are_digits c.args.bytes.now)
