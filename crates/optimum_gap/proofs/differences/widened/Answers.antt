use Rattle.std.proofs.Common.{rules, FitsSigned}
use Rattle.std.specs.Int.{w128}
use Rattle.optimum_gap.proofs.Denominators.{widened_is}
use Rattle.optimum_gap.proofs.differences.widened.Goals as goal

pub returns-clause-is : goal.returns-clause-is
returns-clause-is c = let f : FitsSigned w128 c.args.value.num = search rules in widened_is c.args.value c.args.den f c.requires
