-- One that waits goes from the rest to the end of the order.
use Rattle.std.proofs.Common.{◌∙◌, ℕ, List, sym, subst}
use Rattle.node_sets.specs.Sets.{IsIn}
use Rattle.size_precheck.proofs.Ordering.{IsOrderTo, order_more}
use Rattle.size_precheck.proofs.Placed.{placed_less, placed_still}
use Rattle.size_precheck.proofs.joint_orders.order_all.Goals as goal

pub loop-preserved : goal.loop-preserved
loop-preserved c = record {
  places = placed_still c.loop.known c.eliminate.new.known c.eliminate.ensures.places (IsIn c.remove.new.self)
      (placed_less (IsIn c.loop.rest) (IsIn c.remove.new.self) c.loop.known (λ y m. ((c.remove.ensures y).0 m).0) c.loop.invariant.places);
  ordered = subst (λ (l : List ℕ). IsOrderTo c.args.waiting.now c.remove.new.self l) (sym c.in_ok-push-in-Some.ensures.items)
      (order_more c.args.waiting.now c.loop.rest c.loop.order.items c.loop.invariant.ordered c.remove.new.self c.in-Some.v (sym c.holds.ensures ∙ c.if-holds.true) c.remove.ensures);
}
