use Rattle.std.proofs.Common.{◌≡◌, ◌<◌, ◌≤◌, ◌^◌, ◌≤ℤ◌, subst, pos, ℕ, ℤ, sym, arith}
use Rattle.std.proofs.lemmas.Int.{ints}
use Rattle.std.proofs.lemmas.Result.{IfOk-from_err}
use Rattle.maid_model.specs.Answers.{IsFraction, answered}
use Rattle.maid_model.specs.Diagrams.{greatest_number}
use Rattle.maid_model.specs.Tables.{chance_total}
use Rattle.threshold.specs.declared.weights.Place.{Place}
use Rattle.threshold.specs.Weights.{IsCell}
use Rattle.threshold.proofs.Assembling.{somewhere, span_is}
use Rattle.threshold.proofs.Tables.{is_place, weight_at_most}
use Rattle.threshold.proofs.interval.span.Goals as goal

pub hold_answers-requires-clause-setting : goal.hold_answers-requires-clause-setting
hold_answers-requires-clause-setting c =
    let d = c.args.diagram.now in
    let solved = c.args.solved.now in
    let is = c.in_ok-ends.ensures.diagram in
    let place : Place = record { node = c.args.node; row = c.args.row; state = c.args.state } in
    let cell : IsCell d.nodes place = record { kind = c.requires.chance; row = c.requires.row; state = c.requires.state } in
    let at = is_place d.nodes place is.tables cell c.in_ok-ends.ensures.ends.some in
    let law = c.stays_best.ensures.answer d solved c.args.node c.args.state c.args.row is.graph is.tables c.requires.answer at in
    record {
      is_diagram = is;
      answer = c.requires.answer;
      cell = cell;
      ends = c.in_ok-ends.ensures.ends;
      small = c.requires.solves.1.1;
      somewhere = somewhere d.nodes (answered d solved) place is.graph is.tables at law.0 law.1 law.2;
    }

pub hold_answers-requires-clause-relevance : goal.hold_answers-requires-clause-relevance
hold_answers-requires-clause-relevance c = c.requires.relevance

-- the present probability
pub returns-clause-now : goal.returns-clause-now
returns-clause-now c =
    subst (λ z. IsFraction c.fraction.result z (chance_total c.args.diagram.now.nodes c.args.node)) c.weight_there.ensures.weight
    (subst (λ n. IsFraction c.fraction.result (pos c.weight_there.result) n) c.weight_total.ensures c.fraction.ensures)

pub returns-clause-span : goal.returns-clause-span
returns-clause-span c =
    let d = c.args.diagram.now in
    let solved = c.args.solved.now in
    let is = c.in_ok-ends.ensures.diagram in
    let place : Place = record { node = c.args.node; row = c.args.row; state = c.args.state } in
    let cell : IsCell d.nodes place = record { kind = c.requires.chance; row = c.requires.row; state = c.requires.state } in
    let at = is_place d.nodes place is.tables cell c.in_ok-ends.ensures.ends.some in
    let law = c.stays_best.ensures.answer d solved c.args.node c.args.state c.args.row is.graph is.tables c.requires.answer at in
    let span = span_is d.nodes (answered d solved) place is.graph is.tables at law.0 law.1 law.2 c.in_ok-held.held c.in_ok-held.ensures.range c.in_ok-held.ensures.held c.fraction-2.result c.fraction-3.result c.fraction-2.ensures c.fraction-3.ensures in
    span

pub returns-clause-only : goal.returns-clause-only
returns-clause-only c low high other =
    let d = c.args.diagram.now in
    let solved = c.args.solved.now in
    let is = c.in_ok-ends.ensures.diagram in
    let place : Place = record { node = c.args.node; row = c.args.row; state = c.args.state } in
    let cell : IsCell d.nodes place = record { kind = c.requires.chance; row = c.requires.row; state = c.requires.state } in
    let at = is_place d.nodes place is.tables cell c.in_ok-ends.ensures.ends.some in
    let law = c.stays_best.ensures.answer d solved c.args.node c.args.state c.args.row is.graph is.tables c.requires.answer at in
    let span = span_is d.nodes (answered d solved) place is.graph is.tables at law.0 law.1 law.2 c.in_ok-held.held c.in_ok-held.ensures.range c.in_ok-held.ensures.held c.fraction-2.result c.fraction-3.result c.fraction-2.ensures c.fraction-3.ensures in
    c.stays_best.ensures.one d.nodes (answered d solved) c.args.node c.args.state c.args.row low high c.fraction-2.result c.fraction-3.result is.graph is.tables at other span

pub returns-clause-perfect : goal.returns-clause-perfect
returns-clause-perfect c num den moved p q m l h =
    let d = c.args.diagram.now in
    let solved = c.args.solved.now in
    let is = c.in_ok-ends.ensures.diagram in
    let place : Place = record { node = c.args.node; row = c.args.row; state = c.args.state } in
    let cell : IsCell d.nodes place = record { kind = c.requires.chance; row = c.requires.row; state = c.requires.state } in
    let at = is_place d.nodes place is.tables cell c.in_ok-ends.ensures.ends.some in
    let law = c.stays_best.ensures.answer d solved c.args.node c.args.state c.args.row is.graph is.tables c.requires.answer at in
    let span = span_is d.nodes (answered d solved) place is.graph is.tables at law.0 law.1 law.2 c.in_ok-held.held c.in_ok-held.ensures.range c.in_ok-held.ensures.held c.fraction-2.result c.fraction-3.result c.fraction-2.ensures c.fraction-3.ensures in
    c.held_is_perfect.ensures.law d.nodes (answered d solved) c.args.node c.args.state c.args.row num den moved is.graph (c.answers_are_best.ensures.answers d solved is.graph is.tables c.requires.answer) at m (λ v k. span.holds num den moved p q m l h v k)

pub returns-in_err-ends-clause-now : goal.returns-in_err-ends-clause-now
returns-in_err-ends-clause-now c = IfOk-from_err _ _ c.from_residual.ensures.0

pub returns-in_err-ends-clause-span : goal.returns-in_err-ends-clause-span
returns-in_err-ends-clause-span c = IfOk-from_err _ _ c.from_residual.ensures.0

pub returns-in_err-ends-clause-only : goal.returns-in_err-ends-clause-only
returns-in_err-ends-clause-only c = IfOk-from_err _ _ c.from_residual.ensures.0

pub returns-in_err-ends-clause-perfect : goal.returns-in_err-ends-clause-perfect
returns-in_err-ends-clause-perfect c = IfOk-from_err _ _ c.from_residual.ensures.0

pub returns-in_err-held-clause-now : goal.returns-in_err-held-clause-now
returns-in_err-held-clause-now c = IfOk-from_err _ _ c.from_residual-in_err-held.ensures.0

pub returns-in_err-held-clause-span : goal.returns-in_err-held-clause-span
returns-in_err-held-clause-span c = IfOk-from_err _ _ c.from_residual-in_err-held.ensures.0

pub returns-in_err-held-clause-only : goal.returns-in_err-held-clause-only
returns-in_err-held-clause-only c = IfOk-from_err _ _ c.from_residual-in_err-held.ensures.0

pub returns-in_err-held-clause-perfect : goal.returns-in_err-held-clause-perfect
returns-in_err-held-clause-perfect c = IfOk-from_err _ _ c.from_residual-in_err-held.ensures.0

small : (w n : ℕ) (z : ℤ) → pos w ≡ z → z ≤ℤ pos n → n ≤ greatest_number → w < 2 ^ 127
small w n z e l h = omega (arith, ints, e, l, h)

pub fraction-requires-clause-den : goal.fraction-requires-clause-den
fraction-requires-clause-den c = subst (λ n. 0 < n) (sym c.weight_total.ensures) (c.weight_there.ensures.diagram.tables.positive c.args.node c.requires.chance)

pub fraction-requires-clause-num : goal.fraction-requires-clause-num
fraction-requires-clause-num c =
    let d = c.args.diagram.now in
    let is = c.weight_there.ensures.diagram in
    let place : Place = record { node = c.args.node; row = c.args.row; state = c.args.state } in
    let cell : IsCell d.nodes place = record { kind = c.requires.chance; row = c.requires.row; state = c.requires.state } in
    small c.weight_there.result (chance_total d.nodes c.args.node) _ c.weight_there.ensures.weight (weight_at_most d.nodes place is.tables cell) (is.limits.totals c.args.node c.requires.chance)

pub fraction-requires-2-clause-den : goal.fraction-requires-2-clause-den
fraction-requires-2-clause-den c = c.in_ok-held.ensures.range.low.positive

pub fraction-requires-2-clause-num : goal.fraction-requires-2-clause-num
fraction-requires-2-clause-num c = c.in_ok-held.ensures.range.low.room

pub fraction-requires-3-clause-den : goal.fraction-requires-3-clause-den
fraction-requires-3-clause-den c = c.in_ok-held.ensures.range.high.positive

pub fraction-requires-3-clause-num : goal.fraction-requires-3-clause-num
fraction-requires-3-clause-num c = c.in_ok-held.ensures.range.high.room
