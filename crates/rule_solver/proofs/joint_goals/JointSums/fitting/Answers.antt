-- The bound grows by one goal after another.
use Rattle.std.proofs.Common.{◌∙◌, ◌*◌, ℕ, List, take, slice_index, sym, ap}
use Rattle.std.proofs.lemmas.List.{get_or_default, take_more}
use Rattle.finite_sums.specs.Sums.{nat_product_over}
use Rattle.plan_sums.specs.Sizes.{value_bound}
use Rattle.rule_solver.proofs.JointLists.{product_push}
use Rattle.rule_solver.proofs.joint_goals.JointSums.fitting.Goals as goal

pub with_goal-requires : goal.with_goal-requires
with_goal-requires c = c.requires (slice_index c.args.goals.now c.loop-count.count) (c.loop-count.count, c.loop-count-test.true, get_or_default c.args.goals.now c.loop-count.count (slice_index c.args.goals.now c.loop-count.count) 0 c.loop-count-test.true)

pub loop-count-preserved : goal.loop-count-preserved
loop-count-preserved c =
    let goals = c.args.goals.now in
    let nodes = c.args.diagram.now.nodes in (
      c.in-Some.ensures.0 ∙ ap (λ b. b * value_bound nodes (slice_index goals c.loop-count.count)) c.loop-count.invariant.0
          ∙ sym (product_push (value_bound nodes) (take c.loop-count.count goals) (slice_index goals c.loop-count.count) c.args.self.now.total)
          ∙ ap (λ (l : List ℕ). c.args.self.now.total * nat_product_over (value_bound nodes) l) (sym (take_more goals c.loop-count.count 0 c.loop-count-test.true)),
      λ h. c.in-Some.ensures.1,
    )
