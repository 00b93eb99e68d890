use Rattle.std.proofs.Common.{◌≡◌, ◌∙◌, ◌<◌, ◌≤◌, ℕ, get_or, length, true, false, refl, sym, subst, arith}
use Rattle.std.proofs.lemmas.List.Elements.{Contains-get_or}
use Rattle.std.specs.Prelude.{Contains}
use Rattle.node_sets.specs.declared.sets.TheConstants.{MOST_NODES}
use Rattle.tree_checker.proofs.OrderSteps.{placed_start, placed_next, placed_if, placed_end}
use Rattle.tree_checker.proofs.orders.is_relied_first.Goals as goal

small : (v n : ℕ) → v < n → n ≤ MOST_NODES → v < MOST_NODES
small v n h k = omega arith

not_true : false ≡ true → ⊥
not_true e = cc

pub loop-v-init : goal.loop-v-init
loop-v-init c = placed_start c.args.diagram.now.nodes c.args.order.now c.empty-placed.result c.empty-placed.ensures

pub relied_on-requires : goal.relied_on-requires
relied_on-requires c =
    let v = get_or c.args.order.now c.loop-v.v-index 0 in
    subst (λ n. v < n) (sym c.requires.relevance.count) (c.requires.decisions v (Contains-get_or c.args.order.now c.loop-v.v-index 0 c.loop-v-test.true)).within

pub are_placed-requires : goal.are_placed-requires
are_placed-requires c e m =
    let v = get_or c.args.order.now c.loop-v.v-index 0 in
    small e (length c.args.diagram.now.nodes) ((c.requires.relevance.pairs v e).0 (subst (λ l. Contains l e) c.relied_on.ensures m)).on_decision.within c.count-count.ensures.diagram.limits.nodes

pub returns-then-not-are_placed : goal.returns-then-not-are_placed
returns-then-not-are_placed c = (
  λ t. absurd (not_true t),
  λ right.
      let v = get_or c.args.order.now c.loop-v.v-index 0 in
      sym c.if-not-are_placed.true
      ∙ c.are_placed.ensures.1 (λ e m. placed_if c.args.diagram.now.nodes c.args.order.now c.loop-v.v-index c.loop-v.placed c.loop-v.invariant c.loop-v-test.true right e ((c.requires.relevance.pairs v e).0 (subst (λ l. Contains l e) c.relied_on.ensures m))),
)

pub insert-requires : goal.insert-requires
insert-requires c =
    let v = get_or c.args.order.now c.loop-v.v-index 0 in
    small v (length c.args.diagram.now.nodes) (c.requires.decisions v (Contains-get_or c.args.order.now c.loop-v.v-index 0 c.loop-v-test.true)).within c.count-count.ensures.diagram.limits.nodes

pub loop-v-preserved : goal.loop-v-preserved
loop-v-preserved c =
    let v = get_or c.args.order.now c.loop-v.v-index 0 in
    placed_next c.args.diagram.now.nodes c.args.order.now c.loop-v.v-index c.loop-v.placed c.loop-v.invariant c.insert.new.self c.loop-v-test.true c.insert.ensures.all
    (λ e r. c.are_placed.ensures.0 c.if-not-are_placed.false e (subst (λ l. Contains l e) (sym c.relied_on.ensures) ((c.requires.relevance.pairs v e).1 r)))

pub returns : goal.returns
returns c = (λ t. placed_end c.args.diagram.now.nodes c.args.order.now c.loop-v.v-index c.loop-v.placed c.loop-v.invariant c.loop-v-test.false, λ right. refl)
