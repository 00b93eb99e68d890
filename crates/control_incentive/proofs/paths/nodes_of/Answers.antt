use Rattle.std.proofs.Common.{◌≡◌, ◌∙◌, ◌⊎◌, ◌↔◌, ℕ, ◌+◌, ◌<◌, true, false, arith, sym, subst}
use Rattle.node_sets.specs.declared.sets.NodeSet.{NodeSet}
use Rattle.node_sets.specs.Sets.{IsIn}
use Rattle.control_incentive.specs.Paths.{IsOf}
use Rattle.control_incentive.proofs.Walked.{passed, taken}
use Rattle.control_incentive.proofs.paths.nodes_of.Goals.{then-is_of, else-is_of}
use Rattle.control_incentive.proofs.paths.nodes_of.Goals as goal

differ : false ≡ true → ⊥
differ e = cc

-- one more node, which comes in where it is such a one
pub loop-v-preserved : goal.loop-v-preserved
loop-v-preserved c =
    let v = c.loop-v.v in
    let is_of = IsOf c.args.diagram.now.nodes c.args.kind c.args.agent in
    let so_far = IsIn c.loop-v.nodes in
    elim c.if-is_of.branch [
      | then-is_of w ↦
          taken so_far is_of v c.loop-v.invariant (IsIn c.if-is_of.nodes)
          (subst (λ (s : NodeSet). (u : ℕ) → IsIn s u ↔ (so_far u ⊎ (u ≡ v))) (sym w.nodes-is) w.insert.ensures.all) (c.is_of.ensures.0 w.if-is_of.true)
      | else-is_of w ↦
          subst (λ (s : NodeSet). (u : ℕ) → IsIn s u ↔ ((u < v + 1) × is_of u)) (sym w.nodes-is)
          (passed so_far is_of v c.loop-v.invariant (λ o. differ (sym w.if-is_of.false ∙ c.is_of.ensures.1 o)))
    ]

-- all nodes have been looked at
pub returns : goal.returns
returns c v = let walked = c.loop-v.invariant v in (
  (λ m. (walked.0 m).1),
  (λ o. walked.1 (omega (arith, o.0.within, c.count-v-end.ensures.count, c.loop-v-test.false), o)),
)
