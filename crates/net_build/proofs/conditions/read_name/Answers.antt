-- A place of the list is within it.
use Rattle.std.proofs.Common.{arith}
use Rattle.net_build.proofs.LinkLemmas.{place_within}
use Rattle.net_build.proofs.conditions.read_name.Goals as goal

pub returns-in-Some-clause-within : goal.returns-in-Some-clause-within
returns-in-Some-clause-within c = omega (arith, place_within c.args.names.now c.bytes.result.now c.in-Some.ensures.0, c.in-Some.ensures.1)
