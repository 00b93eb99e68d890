-- The set's keys are the names.
use Rattle.std.proofs.Common.{ℕ, List, Contains, subst}
use Rattle.std.specs.Option.{SomeIff}
use Rattle.net_build.specs.Blocks.{place_among}
use Rattle.net_build.proofs.NameLemmas.{place_is}
use Rattle.net_build.proofs.distinct_names.DistinctNames.place.Goals as goal

pub returns : goal.returns
returns c = subst (λ (names : List (List ℕ)). SomeIff c.get_index_of.result (Contains names c.args.name.now) (place_among names c.args.name.now)) c.self.view_is
    (rw c.get_index_of.ensures.index (place_is c.self.inside.names.keys c.args.name.now))
