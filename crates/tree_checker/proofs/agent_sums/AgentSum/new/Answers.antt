use Rattle.std.proofs.Common.{subst}
use Rattle.std.proofs.lemmas.Result.{IfOk-from_err}
use Rattle.tree_checker.specs.Walks.{HasAllFactors}
use Rattle.tree_checker.proofs.agent_sums.AgentSum.new.Goals as goal

pub returns-in_err-factors-clause-sum : goal.returns-in_err-factors-clause-sum
returns-in_err-factors-clause-sum c = IfOk-from_err _ _ c.from_residual.ensures.0

pub returns-in_err-order-clause-sum : goal.returns-in_err-order-clause-sum
returns-in_err-order-clause-sum c = IfOk-from_err _ _ c.from_residual-in_err-order.ensures.0

pub returns-in_err-world-clause-sum : goal.returns-in_err-world-clause-sum
returns-in_err-world-clause-sum c = IfOk-from_err _ _ c.from_residual-in_err-world.ensures.0

pub returns-clause-sum : goal.returns-clause-sum
returns-clause-sum c = record {
  profile = c.requires;
  marked = λ v _ marked. ((c.utilities_of.ensures.utilities v).0 marked).kind;
  tested = c.utilities_of.ensures.tested;
  order = c.in_ok-order.ensures;
  factors = subst (λ n. HasAllFactors c.args.diagram.now.nodes c.args.rules n c.in_ok-factors.factors) c.count.ensures.count c.in_ok-factors.ensures;
  first = c.in_ok-world.ensures.first;
  world = c.in_ok-world.ensures.world;
}
