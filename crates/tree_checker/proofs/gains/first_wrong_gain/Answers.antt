use Rattle.std.proofs.lemmas.Result.{err_from_is_err_and}
use Rattle.std.proofs.Common.{◌≡◌, ◌∙◌, ◌+◌, ◌<◌, ℕ, true, false, sym, subst, arith}
use Rattle.std.proofs.Math.Decide.{ℕ_discrete}
use Rattle.std.proofs.lemmas.List.{get_or_default}
use Rattle.tree_checker.specs.Judged.{AreWorth, PrintsGain}
use Rattle.tree_checker.specs.Verdicts.{no_gain}
use Rattle.tree_checker.proofs.gains.first_wrong_gain.Goals as goal

pub returns : goal.returns
returns c agent l = c.loop-agent.invariant agent (let h = c.loop-agent-test.false in omega (arith, h, c.requires.count))

pub loop-agent-init : goal.loop-agent-init
loop-agent-init c = λ other l. absurd (omega (arith, l))

pub is_gain-requires-clause-agent : goal.is_gain-requires-clause-agent
is_gain-requires-clause-agent c = subst (λ n. c.loop-agent.agent < n) c.requires.count c.loop-agent-test.true

pub is_gain-requires-clause-chosen : goal.is_gain-requires-clause-chosen
is_gain-requires-clause-chosen c = c.requires.chosen

pub is_gain-requires-clause-pure : goal.is_gain-requires-clause-pure
is_gain-requires-clause-pure c = c.requires.pure

pub is_gain-requires-clause-bound : goal.is_gain-requires-clause-bound
is_gain-requires-clause-bound c = c.requires.bound

pub returns-in_err-is_gain : goal.returns-in_err-is_gain
returns-in_err-is_gain c = rw (err_from_is_err_and c.from_residual.result c.from_residual.ensures.1).1 tt

pub loop-agent-smaller : goal.loop-agent-smaller
loop-agent-smaller c = omega (arith, c.loop-agent-test.true)

pub loop-agent-preserved : goal.loop-agent-preserved
loop-agent-preserved c = λ other l. go other l (ℕ_discrete other c.loop-agent.agent)
  where
    go : (other : ℕ) → other < c.loop-agent.agent + 1 → Dec (other ≡ c.loop-agent.agent) → PrintsGain c.args.diagram.now c.args.chosen.now c.args.gains.now other
    go other l (yes e) = subst (PrintsGain c.args.diagram.now c.args.chosen.now c.args.gains.now) (sym e)
        (subst (AreWorth c.args.diagram.now c.args.chosen.now c.loop-agent.agent) (get_or_default c.args.gains.now c.loop-agent.agent _ no_gain c.loop-agent-test.true) (c.in_ok-is_gain.ensures.0 c.if-not-branch.false))
    go other l (no n) = c.loop-agent.invariant other (omega (arith, l))

pub returns-then-not-branch : goal.returns-then-not-branch
returns-then-not-branch c = record {
  within = subst (λ n. c.loop-agent.agent < n) c.requires.count c.loop-agent-test.true;
  wrong = λ right. not_both (sym c.if-not-branch.true
      ∙ c.in_ok-is_gain.ensures.1 (subst (AreWorth c.args.diagram.now c.args.chosen.now c.loop-agent.agent) (sym (get_or_default c.args.gains.now c.loop-agent.agent _ no_gain c.loop-agent-test.true)) right));
  before = c.loop-agent.invariant;
}
  where
    not_both : false ≡ true → ⊥
    not_both e = cc
