use Rattle.std.proofs.Common.{◌≡◌, ℕ, ◌+◌, ◌<◌, ◌≤◌, subst, sym, arith}
use Rattle.std.proofs.Math.Decide.{ℕ_discrete}
use Rattle.maid_model.specs.Diagrams.{greatest_number}
use Rattle.weight_scale.specs.Given.{bound_given}
use Rattle.evidence.proofs.limits.keep_bound_given.Goals as goal

-- one agent more
pub loop-agent-preserved : goal.loop-agent-preserved
loop-agent-preserved c = λ other l. go other l (ℕ_discrete other c.loop-agent.agent)
  where
    go : (other : ℕ) → other < c.loop-agent.agent + 1 → Dec (other ≡ c.loop-agent.agent) → bound_given c.args.diagram.now c.args.node other ≤ greatest_number
    go other l (yes e) = subst (λ a. bound_given c.args.diagram.now c.args.node a ≤ greatest_number) (sym e) c.in-Within.ensures
    go other l (no n) = c.loop-agent.invariant other (omega (arith, l))

pub returns : goal.returns
returns c = record { each = λ agent l. c.loop-agent.invariant agent (omega (arith, l, c.loop-agent-test.false, c.max-agent-end.ensures, c.agents.ensures.agents)) }
