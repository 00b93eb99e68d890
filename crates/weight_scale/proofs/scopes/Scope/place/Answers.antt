use Rattle.std.proofs.Common.{arith, length, refl, false, true, ◌≡◌, ◌<◌, ◌≤◌}
use Rattle.node_sets.specs.Sets.{holds}
use Rattle.maid_model.specs.Diagrams.{greatest_number}
use Rattle.maid_model.specs.Scopes.{greatest_of}
use Rattle.weight_scale.specs.ScopePlaces.{factor_by, members_of, bound_in}
use Rattle.weight_scale.proofs.Bounding.{product_start, product_step, passes_here, product_end, fails_by_product}
use Rattle.weight_scale.proofs.BoundPlaces.{factor_positive}
use Rattle.weight_scale.proofs.scopes.Scope.place.Goals as goal

pub nodes-init : goal.nodes-init
nodes-init c = (product_start (factor_by c.args.self.now.counted c.args.diagram.now.nodes) (holds c.args.self.now.nodes) (length c.args.diagram.now.nodes), omega arith)

pub first_between-requires : goal.first_between-requires
first_between-requires c = omega (arith, c.nodes.invariant.1, c.count-count.ensures.diagram.limits.nodes)

pub nodes-preserved : goal.nodes-preserved
nodes-preserved c =
    let nodes = c.args.diagram.now.nodes in
    let scope = c.args.self.now in
    let found = c.in-Some.ensures.0 in
    let inside : c.in-Some.v < length nodes = omega (arith, c.in-Some.ensures.1, c.count-count.ensures.count) in
    let longer = c.in-Some-mul_within.ensures in (
      rw (longer.1, c.factor.ensures) (product_step (factor_by scope.counted nodes) (holds scope.nodes) (length nodes) c.nodes.next c.in-Some.v c.nodes.product found.first found.not_before inside found.inside (factor_positive c.args.diagram.now c.count-count.ensures.diagram scope.counted c.in-Some.v) c.nodes.invariant.0 (rw (← c.factor.ensures) longer.0)),
      omega (arith, inside),
    )

pub returns-in-None : goal.returns-in-None
returns-in-None c =
    let nodes = c.args.diagram.now.nodes in
    let scope = c.args.self.now in
    let found = c.in-Some.ensures.0 in
    let inside : c.in-Some.v < length nodes = omega (arith, c.in-Some.ensures.1, c.count-count.ensures.count) in
    let passes = passes_here (factor_by scope.counted nodes) (holds scope.nodes) (length nodes) c.nodes.next c.in-Some.v c.nodes.product found.first found.not_before inside found.inside c.nodes.invariant.0 (rw (← c.factor.ensures) (omega (arith, c.in-None.ensures))) in
    (fails_by_product (factor_by scope.counted nodes) (factor_positive c.args.diagram.now c.count-count.ensures.diagram scope.counted) (members_of nodes scope.nodes) c.in-Some.v c.args.diagram.now.decimals (greatest_of nodes (members_of nodes scope.utilities)) passes, passes)

pub returns-then-has_room : goal.returns-then-has_room
returns-then-has_room c =
    let nodes = c.args.diagram.now.nodes in
    let scope = c.args.self.now in
    let ends = product_end (factor_by scope.counted nodes) (holds scope.nodes) (length nodes) c.nodes.next c.nodes.product (λ u a b. c.in_default.ensures u a (omega (arith, b, c.count-count.ensures.count))) c.nodes.invariant.0 in
    rw (← ends.0) (c.if-has_room.ensures.0 refl)

pub returns-else-has_room : goal.returns-else-has_room
returns-else-has_room c =
    let nodes = c.args.diagram.now.nodes in
    let scope = c.args.self.now in
    let ends = product_end (factor_by scope.counted nodes) (holds scope.nodes) (length nodes) c.nodes.next c.nodes.product (λ u a b. c.in_default.ensures u a (omega (arith, b, c.count-count.ensures.count))) c.nodes.invariant.0 in
    let never : ¬ (bound_in c.args.diagram.now (factor_by scope.counted nodes) (members_of nodes scope.nodes) (members_of nodes scope.utilities) ≤ greatest_number) = λ keeps. let no : false ≡ true = c.if-has_room.ensures.1 (rw ends.0 keeps) in cc in
    (omega (arith, never), ends.1)
