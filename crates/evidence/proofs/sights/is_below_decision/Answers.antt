use Rattle.std.proofs.Common.{◌∙◌, ◌<◌, sym, refl, arith}
use Rattle.evidence.proofs.Below.{found, told}
use Rattle.evidence.proofs.sights.is_below_decision.Goals as goal

pub returns-then-is_decision : goal.returns-then-is_decision
returns-then-is_decision c = (
  (λ t. found c.args.diagram.now.nodes c.args.node c.of.result c.ancestors-above.result c.of.ensures c.ancestors-above.ensures c.requires.kind c.loop-v.v (sym c.holds.ensures ∙ c.if-holds.true) (c.is_decision.ensures.decision.0 c.if-is_decision.true)),
  (λ below. refl),
)

pub returns : goal.returns
returns c = (
  (λ t. absurd (cc)),
  (λ below.
      let within : below.decision < c.loop-v.v = omega (arith, below.is_decision.within, c.loop-v-test.false, c.count-v-end.ensures.count) in
      absurd (c.loop-v.invariant below.decision within (told c.args.diagram.now.nodes c.args.node c.of.result c.ancestors-above.result c.of.ensures c.ancestors-above.ensures below) below.is_decision)),
)
