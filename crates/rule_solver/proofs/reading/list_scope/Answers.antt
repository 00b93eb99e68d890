use Rattle.std.proofs.Common.{◌∙◌, ◌++◌, ◌∷◌, [], ◌<◌, ℕ, List, length, sym, ap, subst, arith}
use Rattle.node_sets.specs.Sets.{holds}
use Rattle.finite_sums.proofs.Ranges.{filter_yes}
use Rattle.rule_solver.proofs.TableCells.{filter_gap}
use Rattle.rule_solver.proofs.reading.list_scope.Goals as goal

-- none of the numbers up to the next node is one of the scope's
pub listing-preserved : goal.listing-preserved
listing-preserved c =
    let p = holds c.args.scope.now in
    let v = c.in-Some.v in
    let next = c.in-Some.ensures.0 in
    let within : v < length c.args.diagram.now.nodes = subst (λ n. v < n) c.count-count.ensures.count c.in-Some.ensures.1 in (
      c.in_ok-push.ensures.items ∙ ap (λ (l : List ℕ). l ++ v ∷ []) (c.listing.invariant.0 ∙ sym (filter_gap p c.listing.from v next.not_before next.first)) ∙ sym (filter_yes p v next.inside),
      omega (arith, within),
    )

-- nor is one behind the last
pub returns : goal.returns
returns c =
    let p = holds c.args.scope.now in
    c.listing.invariant.0
    ∙ sym (filter_gap p c.listing.from (length c.args.diagram.now.nodes) c.listing.invariant.1 (λ w l m i. c.in_default.ensures w l (subst (λ n. w < n) (sym c.count-count.ensures.count) m) i))

pub first_between-requires : goal.first_between-requires
first_between-requires c = let few = c.count-count.ensures.diagram.limits.nodes in let from = c.listing.invariant.1 in omega (arith, few, from)
