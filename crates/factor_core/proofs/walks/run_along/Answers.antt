use Rattle.std.proofs.Common.{refl}
use Rattle.factor_core.proofs.walks.run_along.Goals as goal

pub returns-then-is_run : goal.returns-then-is_run
returns-then-is_run c = c.if-is_run.ensures refl

pub returns-then-is_turned : goal.returns-then-is_turned
returns-then-is_turned c = c.if-is_turned.ensures.0 refl
