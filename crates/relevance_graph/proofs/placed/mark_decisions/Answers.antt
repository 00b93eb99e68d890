-- The node's mark is written, and those before it stay.
use Rattle.std.proofs.Common.{arith, length-set, ◌∙◌}
use Rattle.maid_model.specs.Nodes.{IsDecision}
use Rattle.relevance_graph.proofs.Marking.{told_next}
use Rattle.relevance_graph.proofs.placed.mark_decisions.Goals as goal

pub loop-v-preserved : goal.loop-v-preserved
loop-v-preserved c =
    let before = c.loop-v.invariant in
    record {
      len = length-set c.loop-v.marks.items c.loop-v.v c.is_decision.result ∙ before.len;
      told = told_next (λ x. IsDecision c.args.diagram.now.nodes x) c.loop-v.marks.items c.loop-v.v c.is_decision.result (omega (arith, before.len, c.loop-v-test.true, c.count-v-end.ensures.count)) c.is_decision.ensures.decision before.told;
    }
