use Rattle.diagram_graph.proofs.Placings.{in_within}
use Rattle.diagram_graph.specs.Free.{IsReady}
use borrow.Author.Count.{below_more}
use Rattle.std.proofs.lemmas.Bool.{true≢false}
use Rattle.std.proofs.Common.{◌<◌, ◌∙◌, arith, subst, sym}
use Rattle.diagram_graph.proofs.placing.first_ready.Goals as goal

pub loop-v-init : goal.loop-v-init
loop-v-init g c = λ w l. absurd (omega (arith, l))

pub is_ready-requires-clause-within : goal.is_ready-requires-clause-within
is_ready-requires-clause-within g c = subst (λ n. c.loop-v.v < n) c.count-v-end.ensures c.loop-v-test.true

pub is_ready-requires-clause-items_len : goal.is_ready-requires-clause-items_len
is_ready-requires-clause-items_len g c = c.requires.items_len

pub is_ready-requires-clause-placed_len : goal.is_ready-requires-clause-placed_len
is_ready-requires-clause-placed_len g c = c.requires.placed_len

pub is_ready-requires-clause-needs : goal.is_ready-requires-clause-needs
is_ready-requires-clause-needs g c = c.requires.needs

pub returns-then-is_ready : goal.returns-then-is_ready
returns-then-is_ready g c = (c.is_ready.ensures.0 c.if-is_ready.true, c.loop-v.invariant)

pub loop-v-smaller : goal.loop-v-smaller
loop-v-smaller g c = omega (arith, c.loop-v-test.true)

pub loop-v-preserved : goal.loop-v-preserved
loop-v-preserved g c = below_more (λ w. IsReady (g.N.Needs.lists c.args.needs.now) c.args.items.now c.args.placed.now w → ⊥) c.loop-v.v c.loop-v.invariant (λ r. true≢false (sym (c.is_ready.ensures.1 r) ∙ c.if-is_ready.false))

pub returns : goal.returns
returns g c = λ w r.
    let l = in_within c.args.items.now w r.0.0 in
    c.loop-v.invariant w (omega (arith, l, c.requires.items_len, c.loop-v-test.false, c.count-v-end.ensures)) r
