use Rattle.std.proofs.Common.{◌≡◌, ◌+◌, ◌++◌, ◌∷◌, [], length, refl, subst, sym, slice_index, arith}
use Rattle.maid_model.specs.Gains.{gain_in}
use Rattle.rule_solver.specs.Rows.{AnswersRows}
use Rattle.rule_solver.proofs.RowLemmas.{answers-push}
use Rattle.rule_solver.proofs.rows.answer_rows.Goals as goal

pub loop-row-preserved : goal.loop-row-preserved
loop-row-preserved c =
    let more : c.push.new.self.items ≡ c.loop-row.rows.items ++ c.answer_at.result ∷ [] = c.in_ok-push.ensures.items in
    subst (λ rows. AnswersRows (gain_in c.args.gains.now c.args.states) (slice_index c.args.masses.now) c.args.states c.args.scale (c.loop-row.row + 1) rows) (sym more)
    (answers-push (gain_in c.args.gains.now c.args.states) (slice_index c.args.masses.now) c.args.states c.args.scale c.loop-row.row c.loop-row.rows.items c.answer_at.result c.loop-row.invariant c.answer_at.ensures.row c.answer_at.ensures.choice c.answer_at.ensures.reduced)

pub loop-row-init : goal.loop-row-init
loop-row-init c = subst (AnswersRows (gain_in c.args.gains.now c.args.states) (slice_index c.args.masses.now) c.args.states c.args.scale 0) (sym c.in_ok-rows.ensures.items) record {
  count = refl;
  each = λ row h. absurd (omega (arith, h));
  choices = λ k e h. absurd (omega (arith, h));
  worths = λ k e h. absurd (omega (arith, h));
}

pub answer_at-requires-clause-room : goal.answer_at-requires-clause-room
answer_at-requires-clause-room c = c.requires.room c.loop-row.row c.loop-row-test.true

pub answer_at-requires-clause-small : goal.answer_at-requires-clause-small
answer_at-requires-clause-small c = c.requires.small

pub returns : goal.returns
returns c =
    let all : c.loop-row.row ≡ length c.args.masses.now = omega (arith, c.loop-row-test.false, c.loop-row.auto.row-end) in
    record { rows = subst (λ n. AnswersRows (gain_in c.args.gains.now c.args.states) (slice_index c.args.masses.now) c.args.states c.args.scale n c.loop-row.rows.items) all c.loop-row.invariant }

pub answer_at-requires-clause-all : goal.answer_at-requires-clause-all
answer_at-requires-clause-all c = c.requires.all

pub answer_at-requires-clause-some : goal.answer_at-requires-clause-some
answer_at-requires-clause-some c = c.requires.some

pub answer_at-requires-clause-scale : goal.answer_at-requires-clause-scale
answer_at-requires-clause-scale c = c.requires.scale
