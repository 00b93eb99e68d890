-- The block's own kind and attributes.
use Rattle.std.proofs.Common.{ap}
use Rattle.net_build.specs.Table.{repeats}
use Rattle.net_parser.specs.Trees.{BlockTree}
use Rattle.net_build.proofs.attributes.check_repeats.Goals as goal

pub check_counted-requires : goal.check_counted-requires
check_counted-requires c = rw (c.deref.ensures.value, ap (λ (b : BlockTree). b.attributes) c.block.view_is) c.requires.attributes

pub returns : goal.returns
unfolding repeats
returns c = rw (c.deref.ensures.value, ap (λ (b : BlockTree). b.attributes) c.block.view_is, ap (λ (b : BlockTree). b.kind) c.block.view_is) at c.check_counted.ensures
