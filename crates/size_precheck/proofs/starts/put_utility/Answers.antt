use Rattle.node_sets.specs.Sets.{IsIn}
use Rattle.size_precheck.proofs.Placed.{others_kept, placed_less}
use Rattle.size_precheck.proofs.Starting.{counted_right, first_right}
use Rattle.size_precheck.proofs.starts.put_utility.Goals as goal

pub put_first-requires-clause-places : goal.put_first-requires-clause-places
put_first-requires-clause-places c = placed_less (IsIn c.args.waiting.now) (IsIn c.intersection-at.result) c.args.known.now (λ y m. ((c.intersection-at.ensures y).0 m).1) c.requires.places

pub returns-clause-tells : goal.returns-clause-tells
returns-clause-tells c =
    first_right c.args.table.now c.args.waiting.now c.intersection-at.result c.empty-none.result c.args.known.now c.put_first.new.known c.empty-none.ensures c.intersection-at.ensures c.put_first.ensures.put
    (others_kept (IsIn c.args.waiting.now) c.intersection-at.result c.args.known.now c.put_first.new.known c.requires.places (λ y m. ((c.intersection-at.ensures y).0 m).1) c.put_first.ensures.same)

pub returns-clause-counted : goal.returns-clause-counted
returns-clause-counted c =
    counted_right c.args.states.now c.args.waiting.now c.intersection-at.result c.args.known.now c.put_first.new.known c.put_first.ensures.counted
    (others_kept (IsIn c.args.waiting.now) c.intersection-at.result c.args.known.now c.put_first.new.known c.requires.places (λ y m. ((c.intersection-at.ensures y).0 m).1) c.put_first.ensures.same)
