use Rattle.std.proofs.Common.{length, length-append, map, subst, sym, ap, arith}
use Rattle.std.proofs.lemmas.Result.{err_from_is_err_and}
use Rattle.std.specs.Prelude.{Contains}
use Rattle.maid_model.specs.Names.{name_of}
use Rattle.maid_model.specs.Reports.{spaced}
use Rattle.report_text.proofs.Asked.{empty, filled, found, not_found}
use Rattle.report_text.proofs.Fractions.{not_true}
use Rattle.report_text.proofs.InOrder.{order_step, order_unnamed, order_again, order_spaceless, order_short, order_end, order_start}
use Rattle.report_text.proofs.orders.read_order.Goals as goal
use Rattle.report_text.proofs.orders.read_order.Goals.{in_default-decision_of-via-in-Some-decision_of+else-not-contains, in_default-decision_of-via-in_default-decision_of}

pub returns-in_default : goal.returns-in_default
returns-in_default c order is e = c.in_default.ensures (spaced (map (name_of c.args.names.now) order)) e

pub words-init : goal.words-init
words-init c = rw c.new-order.ensures.items (order_start c.args.diagram.now.nodes c.args.names.now c.args.line.now c.in-Some.rest.now c.in-Some.ensures)

pub decision_of-requires : goal.decision_of-requires
decision_of-requires c = c.requires.fit

pub returns-in_err-push-in-Some-decision_of : goal.returns-in_err-push-in-Some-decision_of
returns-in_err-push-in-Some-decision_of c = rw (err_from_is_err_and c.from_residual.result c.from_residual.ensures.1).1 tt

pub words-smaller : goal.words-smaller
words-smaller c =
    let front = c.front.ensures.whole in
    omega (arith, ap length c.in-Some-behind.ensures, ap length front, length-append c.front.result.0.now c.front.result.1.now)

pub returns-in_default-behind : goal.returns-in_default-behind
returns-in_default-behind c order is e =
    let some = filled c.words.rest.now c.words-test.ensures in
    order_spaceless c.args.diagram.now c.args.names.now c.requires.fit c.requires.told c.args.line.now c.words.order.items c.words.rest.now order c.words.invariant some (λ words same. c.in_default-behind.ensures words same) is e

pub returns-in_default-decision_of : goal.returns-in_default-decision_of
returns-in_default-decision_of c order is e =
    elim c.in_default-decision_of.branch [
      | in_default-decision_of-via-in-Some-decision_of+else-not-contains w ↦
          let again = subst (λ xs. Contains xs w.in-Some-decision_of.node) w.deref.ensures.value (found w.deref.result.now w.in-Some-decision_of.node w.if-not-contains.ensures.cases) in
          order_again c.args.diagram.now c.args.names.now c.requires.fit c.requires.told c.args.line.now c.words.order.items c.words.rest.now c.in-Some-behind.words.now c.front.result.0.now c.front.result.1.now order w.in-Some-decision_of.node c.words.invariant c.in-Some-behind.ensures c.front.ensures w.in-Some-decision_of.ensures.some.0 w.in-Some-decision_of.ensures.some.1 again is e
      | in_default-decision_of-via-in_default-decision_of w ↦
          order_unnamed c.args.diagram.now c.args.names.now c.requires.fit c.requires.told c.args.line.now c.words.order.items c.words.rest.now c.in-Some-behind.words.now c.front.result.0.now c.front.result.1.now order c.words.invariant c.in-Some-behind.ensures c.front.ensures w.in_default-decision_of.ensures.none is e
    ]

pub words-preserved : goal.words-preserved
words-preserved c =
    let new = subst (λ xs. Contains xs c.in-Some-decision_of.node → ⊥) c.deref.ensures.value (not_found c.deref.result.now c.in-Some-decision_of.node c.if-not-contains.ensures.cases) in
    rw c.in_ok-push-in-Some-decision_of.ensures.items (order_step c.args.diagram.now c.args.names.now c.requires.fit c.requires.told c.args.line.now c.words.order.items c.words.rest.now c.in-Some-behind.words.now c.front.result.0.now c.front.result.1.now c.in-Some-decision_of.node c.words.invariant c.in-Some-behind.ensures c.front.ensures c.in-Some-decision_of.ensures.some.0 c.in-Some-decision_of.ensures.some.1 new)

pub returns-else-has_all : goal.returns-else-has_all
returns-else-has_all c order is e =
    order_short c.args.diagram.now c.args.names.now c.requires.fit c.requires.told c.args.line.now c.words.order.items c.words.rest.now order c.words.invariant (empty c.words.rest.now c.words-test.ensures) (λ all. not_true c.has_all.result c.if-has_all.false (c.has_all.ensures.1 (λ v h. subst (λ xs. Contains xs v) (sym c.deref-2.ensures.value) (all v h)))) is e

pub returns-then-has_all : goal.returns-then-has_all
returns-then-has_all c =
    order_end c.args.diagram.now c.args.names.now c.requires.fit c.requires.told c.args.line.now c.words.order.items c.words.rest.now c.words.invariant (empty c.words.rest.now c.words-test.ensures)
    (λ v h. subst (λ xs. Contains xs v) c.deref-2.ensures.value (c.has_all.ensures.0 c.if-has_all.true v h))
