use Rattle.evidence.specs.Conditional.{IsWorthIn}
use Rattle.evidence.proofs.HandedOn.{out_of_memory}
use Rattle.std.proofs.Common.{sym, subst}
use Rattle.first_fault.proofs.HandedOn.{hands_on}
use Rattle.maid_model.specs.Answers.{IsAnswer}
use Rattle.evidence.specs.Faults.{answer_pass, given_fault}
use Rattle.evidence.proofs.conditions.condition.Goals as goal

pub returns-in_err-answered-clause-rows : goal.returns-in_err-answered-clause-rows
returns-in_err-answered-clause-rows c = hands_on given_fault (answer_pass c.args.seen.now c.args.node c.args.state) _ _ c.from_residual.ensures c.in_err-answered.ensures.rows

-- nothing else refuses
pub returns-in_err-gains-clause-rows : goal.returns-in_err-gains-clause-rows
returns-in_err-gains-clause-rows c = out_of_memory (answer_pass c.args.seen.now c.args.node c.args.state) _ c.from_residual-in_err-gains.ensures

pub returns-clause-ok : goal.returns-clause-ok
returns-clause-ok c = subst (IsAnswer c.args.seen.now) (sym c.into_solved.ensures) c.in_ok-answered.ensures.ok

pub returns-clause-gains : goal.returns-clause-gains
returns-clause-gains c = subst (λ solved. IsWorthIn c.args.seen.now c.args.node c.args.state solved c.in_ok-gains.field-0.items) (sym c.into_solved.ensures) c.in_ok-gains.ensures.gains
