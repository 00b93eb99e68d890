use Rattle.std.proofs.Common.{◌≡◌, ◌+◌, ◌++◌, ◌∷◌, [], None, refl, subst, sym, arith}
use Rattle.maid_model.specs.Gains.{gain_in}
use Rattle.rule_solver.specs.Optima.{ChoosesRows}
use Rattle.rule_solver.proofs.ChoiceLemmas.{chosen-push}
use Rattle.rule_solver.proofs.optima.choose_rows.Goals as goal

pub loop-row-preserved : goal.loop-row-preserved
loop-row-preserved c =
    let more : c.push.new.self.items ≡ c.loop-row.chosen.items ++ record { choice = c.choice_at-choice.result; worth = None } ∷ [] = c.in_ok-push.ensures.items in
    subst (λ rows. ChoosesRows (gain_in c.args.gains.now c.args.states) c.args.states (c.loop-row.row + 1) rows) (sym more)
    (chosen-push (gain_in c.args.gains.now c.args.states) c.args.states c.loop-row.row c.loop-row.chosen.items (record { choice = c.choice_at-choice.result; worth = None }) c.loop-row.invariant c.choice_at-choice.ensures.best c.choice_at-choice.ensures.within tt)

pub choice_at-choice-requires-clause-all : goal.choice_at-choice-requires-clause-all
choice_at-choice-requires-clause-all c = c.requires.all

pub choice_at-choice-requires-clause-some : goal.choice_at-choice-requires-clause-some
choice_at-choice-requires-clause-some c = c.requires.some

pub choice_at-choice-requires-clause-row : goal.choice_at-choice-requires-clause-row
choice_at-choice-requires-clause-row c = c.loop-row-test.true

pub loop-row-init : goal.loop-row-init
loop-row-init c = subst (ChoosesRows (gain_in c.args.gains.now c.args.states) c.args.states 0) (sym c.in_ok-chosen.ensures.items) record {
  count = refl;
  best = λ s row h k. absurd (omega (arith, k));
  choices = λ k e h. absurd (omega (arith, h));
  worths = λ k e h. absurd (omega (arith, h));
}

pub returns : goal.returns
returns c =
    let all : c.loop-row.row ≡ c.args.rows = omega (arith, c.loop-row-test.false, c.loop-row.auto.row-end) in
    subst (λ n. ChoosesRows (gain_in c.args.gains.now c.args.states) c.args.states n c.loop-row.chosen.items) all c.loop-row.invariant
