use Rattle.std.proofs.Common.{take, arith}
use Rattle.std.proofs.lemmas.List.{length-take-le}
use Rattle.node_sets.specs.Sets.{holds}
use Rattle.eliminate.proofs.Placing.{from_all}
use Rattle.eliminate.proofs.places.all_live.Goals as goal

pub returns-clause-live : goal.returns-clause-live
returns-clause-live c =
    from_all (holds c.numbers_below.result) 0 (take c.args.made c.args.slots.now)
    (λ k a b. (c.numbers_below.ensures k).1 (omega (arith, b, length-take-le c.args.made c.args.slots.now c.requires.made)))
