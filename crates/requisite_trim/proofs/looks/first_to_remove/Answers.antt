use Rattle.std.proofs.Common.{ℕ, arith}
use Rattle.maid_model.specs.Nodes.{IsDecision}
use Rattle.maid_model.specs.Trimming.{SeesRequisites}
use Rattle.requisite_trim.proofs.Looking.{below_more}
use Rattle.requisite_trim.proofs.looks.first_to_remove.Goals as goal

pub loop-decision-preserved : goal.loop-decision-preserved
loop-decision-preserved c = below_more (λ (e : ℕ). IsDecision c.args.diagram.now.nodes e → SeesRequisites c.args.diagram.now.nodes e) c.loop-decision.decision c.loop-decision.invariant c.in_default.ensures

pub returns : goal.returns
returns c d k = let l = k.within in let m = c.count-decision-end.ensures.count in c.loop-decision.invariant d (omega (arith, c.loop-decision-test.false)) k
