use borrow.Author.Count.{below_more}
use Rattle.std.proofs.Common.{◌≡◌, arith, get_or}
use Rattle.diagram_graph.proofs.rounds.place_of.Goals as goal

pub loop-i-init : goal.loop-i-init
loop-i-init c = λ k l e. absurd (omega (arith, l))

pub returns-then-y-x-clause-within : goal.returns-then-y-x-clause-within
returns-then-y-x-clause-within c = c.loop-i-test.true

pub returns-then-y-x-clause-there : goal.returns-then-y-x-clause-there
returns-then-y-x-clause-there c = c.if-y-x.true

pub loop-i-smaller : goal.loop-i-smaller
loop-i-smaller c = omega (arith, c.loop-i-test.true)

pub loop-i-preserved : goal.loop-i-preserved
loop-i-preserved c = below_more (λ k. get_or c.args.list.now k 0 ≡ c.args.x → ⊥) c.loop-i.i c.loop-i.invariant c.if-y-x.false
