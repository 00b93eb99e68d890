-- What the sets of nodes say of the node, and what is found of its control.
use Rattle.std.proofs.Common.{arith, refl, subst}
use Rattle.std.proofs.lemmas.Result.{IfOk-from_err}
use Rattle.control_incentive.specs.Steps.{IsControlFoundOf}
use Rattle.control_incentive.proofs.lines.control_line.Goals as goal

pub holds-response-requires : goal.holds-response-requires
holds-response-requires c = omega (arith, c.requires.within, c.count-count.ensures.diagram.limits.nodes)

pub holds-instrumental-requires : goal.holds-instrumental-requires
holds-instrumental-requires c = omega (arith, c.requires.within, c.count-count.ensures.diagram.limits.nodes)

pub holds-matters-requires : goal.holds-matters-requires
holds-matters-requires c = omega (arith, c.requires.within, c.count-count.ensures.diagram.limits.nodes)

pub returns-in_err-found-clause-node : goal.returns-in_err-found-clause-node
returns-in_err-found-clause-node c = IfOk-from_err _ _ c.from_residual.ensures.0

pub returns-in_err-found-clause-line : goal.returns-in_err-found-clause-line
returns-in_err-found-clause-line c = IfOk-from_err _ _ c.from_residual.ensures.0

pub returns-in_err-found-clause-left : goal.returns-in_err-found-clause-left
returns-in_err-found-clause-left c = c.find.ensures.left

pub returns-clause-node : goal.returns-clause-node
returns-clause-node c = refl

pub returns-clause-line : goal.returns-clause-line
returns-clause-line c = record {
  response = c.holds-response.ensures;
  instrumental = c.holds-instrumental.ensures;
  found = subst (λ b. IsControlFoundOf c.args.baseline.now c.args.node b c.in_ok-found.found) c.holds-matters.ensures c.in_ok-found.ensures.found;
}

pub returns-clause-left : goal.returns-clause-left
returns-clause-left c = c.find.ensures.left
