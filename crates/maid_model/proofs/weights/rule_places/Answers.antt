use Rattle.std.proofs.Common.{arith, sym}
use Rattle.maid_model.proofs.Members.{has_rules}
use Rattle.maid_model.proofs.weights.rule_places.Goals as goal

pub place-requires : goal.place-requires
place-requires c = has_rules c.args.diagram.now.nodes c.args.profile.now c.loop-v.v c.requires (record { within = omega arith; kind = sym c.in-Decision.ensures.kind })
