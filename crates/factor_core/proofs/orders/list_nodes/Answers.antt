use Rattle.std.proofs.Common.{rules, ◌∙◌, ◌++◌, true, take, ap, sym, arith}
use Rattle.std.proofs.lemmas.List.{take_more_set, append-nil}
use Rattle.node_sets.specs.Sets.{holds}
use Rattle.factor_core.proofs.Listing.{listed_more, listed_gap, listed_last, room_more}
use Rattle.factor_core.proofs.Scoping.{not_held}
use Rattle.factor_core.proofs.orders.list_nodes.Goals as goal

pub nodes-preserved : goal.nodes-preserved
nodes-preserved c =
    let scope = c.args.scope.now in
    let first = c.in-Some.ensures.0 in
    let gap = listed_gap (holds scope) c.args.count c.nodes.next c.in-Some.v first.not_before (omega (arith, c.in-Some.ensures.1)) (λ w a b. not_held (holds scope w) (first.first w a b)) in
    let room = room_more (holds scope) c.args.count c.nodes.next c.nodes.n c.nodes.order (omega (arith, c.nodes.invariant.1, c.nodes.invariant.2)) c.nodes.invariant.0 (omega (arith, c.requires.room, c.nodes.invariant.2)) in (
      listed_more (holds scope) c.args.count c.in-Some.v (take c.nodes.n c.nodes.order) _ true c.in-Some.ensures.1 (sym first.inside) (take_more_set c.nodes.order c.nodes.n c.in-Some.v room) (ap (λ l. take c.nodes.n c.nodes.order ++ l) (sym gap) ∙ c.nodes.invariant.0),
      omega (arith, room, c.nodes.invariant.2),
      search rules,
      omega (arith, c.in-Some.ensures.1),
    )

pub returns-clause-list : goal.returns-clause-list
returns-clause-list c =
    let scope = c.args.scope.now in
    let last = listed_last (holds scope) c.args.count c.nodes.next c.nodes.invariant.3 (λ w a b. not_held (holds scope w) (c.in_default.ensures w a b)) in
    sym (append-nil (take c.nodes.n c.nodes.order)) ∙ ap (λ l. take c.nodes.n c.nodes.order ++ l) (sym last) ∙ c.nodes.invariant.0
