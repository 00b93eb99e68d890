-- A write into a vector is one into what it holds.
use Rattle.std.proofs.lemmas.List.{map-set}
use Rattle.net_build.proofs.potentials.enter.Goals as goal

pub returns-clause-parents : goal.returns-clause-parents
returns-clause-parents g c = map-set (λ v. v.items) c.args.parents.now.items c.args.node c.args.list
