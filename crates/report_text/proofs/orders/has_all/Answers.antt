use Rattle.std.proofs.Common.{Contains, refl, sym, ◌∙◌, arith}
use Rattle.std.proofs.lemmas.Bool.{false≢true}
use borrow.Author.Count.{below_more}
use Rattle.maid_model.specs.Nodes.{IsDecision}
use Rattle.report_text.proofs.Asked.{found, not_found, decided, undecided}
use Rattle.report_text.proofs.orders.has_all.Goals as goal
use Rattle.report_text.proofs.orders.has_all.Goals.{else-eq-via-then-eq+else-not-contains, else-eq-via-else-eq}

pub kind-requires : goal.kind-requires
kind-requires c = omega (arith, c.loop-node-test.true, c.count-node-end.ensures.count)

pub loop-node-init : goal.loop-node-init
loop-node-init c v h decision = absurd (omega (arith, h))

pub loop-node-smaller : goal.loop-node-smaller
loop-node-smaller c = omega (arith, c.loop-node-test.true)

pub loop-node-preserved : goal.loop-node-preserved
loop-node-preserved c =
    below_more (λ v. IsDecision c.args.diagram.now.nodes v → Contains c.args.order.now v) c.loop-node.node-counter c.loop-node.invariant
    (λ decision. elim c.else-eq.branch [
      | else-eq-via-then-eq+else-not-contains w ↦ found c.args.order.now c.loop-node.node-counter w.if-not-contains.ensures.cases
      | else-eq-via-else-eq w ↦ absurd (undecided c.kind.result w.if-eq.ensures (c.kind.ensures.kind ∙ decision.kind))
    ])

pub returns-then-not-contains : goal.returns-then-not-contains
returns-then-not-contains c =
    let is : IsDecision c.args.diagram.now.nodes c.loop-node.node-counter =
    record { within = omega (arith, c.loop-node-test.true, c.count-node-end.ensures.count); kind = sym c.kind.ensures.kind ∙ decided c.kind.result c.if-eq.ensures } in
    (λ f v decision. absurd (false≢true f), λ all. absurd (not_found c.args.order.now c.loop-node.node-counter c.if-not-contains.ensures.cases (all c.loop-node.node-counter is)))

pub returns : goal.returns
returns c = (λ yes v decision. c.loop-node.invariant v (omega (arith, decision.within, c.loop-node-test.false, c.count-node-end.ensures.count)) decision, λ all. refl)
