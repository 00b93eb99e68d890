use Rattle.maid_model.proofs.Found.{none_passed}
use Rattle.maid_model.proofs.profiles.place_of.Goals as goal

pub unreachable-requires : goal.unreachable-requires
unreachable-requires c = none_passed c.args.rules.now c.args.decision c.loop-place.place c.requires c.loop-place.invariant c.loop-place-test.false
