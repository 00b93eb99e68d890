use Rattle.std.proofs.Common.{◌∙◌}
use Rattle.eliminate.proofs.Filing.{filed_next}
use Rattle.eliminate.proofs.places.file_slots.Goals as goal

pub loop-place-preserved : goal.loop-place-preserved
loop-place-preserved c = (
  filed_next c.args.order.now.ranks.now c.args.order.now.count c.loop-place.at c.file_place.new.at c.args.slots.now _ c.loop-place.place c.file_place.auto.at c.loop-place-test.true c.loop-place.invariant.0 c.file_place.ensures,
  c.file_place.auto.at ∙ c.loop-place.invariant.1,
)
