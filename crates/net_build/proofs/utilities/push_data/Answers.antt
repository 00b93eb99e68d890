-- The attributes are the potential's own.
use Rattle.std.proofs.Common.{ap}
use Rattle.net_parser.specs.Trees.{BlockTree}
use Rattle.net_build.proofs.utilities.push_data.Goals as goal

pub first_named-requires : goal.first_named-requires
first_named-requires c = rw (c.deref.ensures.value, ap (λ (b : BlockTree). b.attributes) c.potential.view_is) c.requires.attributes
