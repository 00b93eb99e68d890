use Rattle.std.proofs.Common.{◌≡◌, ◌∙◌, ℕ, ◌+◌, ◌*◌, min, sym, ap, subst, arith}
use Rattle.maid_model.specs.declared.limits.TheConstants.{COUNT_END}
use Rattle.tree_checker.proofs.ProductSteps.{CountedSoFar, count_end, count_start, count_step}
use Rattle.tree_checker.proofs.counting.leaves.Goals as goal

pub loop-v-preserved : goal.loop-v-preserved
loop-v-preserved c =
    let nodes = c.args.diagram.now.nodes in
    subst (λ n. CountedSoFar nodes n (c.loop-v.v + 1))
    (turn _ COUNT_END ∙ ap (λ s. min COUNT_END (c.loop-v.count * s)) (sym c.states.ensures.states) ∙ sym c.min-count.ensures)
    (count_step nodes c.count-v-end.ensures.diagram.graph.has_state c.loop-v.count c.loop-v.v c.loop-v.invariant (let l = c.loop-v-test.true in omega (arith, l, c.count-v-end.ensures.count)))
  where
    turn : (a e : ℕ) → min a e ≡ min e a
    turn a e = omega arith

pub loop-v-init : goal.loop-v-init
loop-v-init c = count_start c.args.diagram.now.nodes

pub returns : goal.returns
returns c = count_end c.args.diagram.now.nodes c.count-v-end.ensures.diagram.graph.has_state c.loop-v.count c.loop-v.v c.loop-v.invariant (let h = c.loop-v-test.false in omega (arith, h, c.count-v-end.ensures.count))
