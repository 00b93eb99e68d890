-- The first attribute that tells the owners decides.
use Rattle.std.proofs.Common.{ap}
use Rattle.net_parser.specs.Trees.{BlockTree}
use Rattle.net_build.proofs.OwnerNames.{some_owners, no_owners}
use Rattle.net_build.proofs.owner_names.read_names.Goals as goal

pub first_telling-requires : goal.first_telling-requires
first_telling-requires c = rw (c.deref.ensures.value, ap (λ (b : BlockTree). b.attributes) c.block.view_is) c.requires.attributes

pub returns-in-Some-clause-rows : goal.returns-in-Some-clause-rows
returns-in-Some-clause-rows c =
    let first = rw (c.deref.ensures.value, ap (λ (b : BlockTree). b.attributes) c.block.view_is, ap (λ (b : BlockTree). b.kind) c.block.view_is) at c.in-Some.ensures.first in
    some_owners c.args.text.now _ _ _ _ first.1 c.told_names.ensures.rows

pub returns-in_ok-push-in-None-clause-rows : goal.returns-in_ok-push-in-None-clause-rows
returns-in_ok-push-in-None-clause-rows c =
    no_owners c.args.text.now _ (rw (c.deref.ensures.value, ap (λ (b : BlockTree). b.attributes) c.block.view_is, ap (λ (b : BlockTree). b.kind) c.block.view_is) at c.in-None.ensures.first)
