use Rattle.std.proofs.Common.{refl, arith}
use Rattle.rule_solver.proofs.rows.answer_row.Goals as goal

-- a row without mass has no worth
pub returns-then-mass-eq0-clause-row : goal.returns-then-mass-eq0-clause-row
returns-then-mass-eq0-clause-row c = record {
  best = λ h. absurd (omega (arith, h, c.if-mass-eq0.true));
  worth = λ h. absurd (omega (arith, h, c.if-mass-eq0.true));
  never = λ e. (refl, refl);
}
