use Rattle.std.proofs.Common.{subst}
use Rattle.maid_model.specs.Scopes.{utilities_for}
use Rattle.weight_scale.specs.Given.{scope_given}
use Rattle.weight_scale.specs.ScopePlaces.{IsPlaceInScope, factor_by, members_of}
use Rattle.weight_scale.proofs.ScopeMembers.{members_are}
use Rattle.weight_scale.proofs.scopes.place_given.Goals as goal

pub returns : goal.returns
returns c =
    let d = c.args.diagram.now in
    let nodes = d.nodes in
    let place = c.place.result in
    let is = c.scope_for.ensures in
    subst (λ counted. IsPlaceInScope d (factor_by counted nodes) (scope_given nodes c.args.node c.args.agent) (utilities_for nodes c.args.agent) place) is.counts
    (subst (λ vs. IsPlaceInScope d (factor_by c.scope_for.result.counted nodes) vs (utilities_for nodes c.args.agent) place) (members_are nodes _ c.scope_given.result c.scope_given.ensures)
    (subst (λ us. IsPlaceInScope d (factor_by c.scope_for.result.counted nodes) (members_of nodes c.scope_given.result) us place) is.utilities_are c.place.ensures))
