use Rattle.std.proofs.Common.{◌≡◌, ◌∙◌, ◌+◌, ◌<◌, ◌≤◌, length, slice_index_or, ap, subst, sym}
use Rattle.maid_model.specs.Answers.{answered}
use Rattle.maid_model.specs.Views.{SolvedView}
use Rattle.rule_solver.specs.Rooms.{AreLeft}
use Rattle.threshold.specs.declared.held.Held.{Held}
use Rattle.threshold.proofs.Assembling.{HeldSoFar, held_more, held_end, of_list, held_start}
use Rattle.threshold.proofs.Standing.{narrows_by_nothing}
use Rattle.threshold.proofs.answers.Question.narrow_all.Goals as goal
use Rattle.threshold.proofs.answers.Question.narrow_all.Goals.{then-not-stands+in_ok-held, else-not-stands}

pub loop-answer-preserved : goal.loop-answer-preserved
loop-answer-preserved c =
    let q = c.args.self.now in
    let laws = c.walks_to_goals_stand.ensures in
    let items : c.deref-answer-items.result.now ≡ q.solved.now.answers = c.deref-answer-items.ensures.value ∙ ap (λ (s : SolvedView). s.answers) c.solved.view_is in
    let within : c.loop-answer.answer-index < length q.solved.now.answers = subst (λ l. c.loop-answer.answer-index < length l) items c.loop-answer-test.true in
    let is = c.answer-item.is ∙ ap (λ l. slice_index_or l c.loop-answer.answer-index c.answer-item.result) items in
    let So_far = HeldSoFar q.diagram.now.nodes (answered q.diagram.now q.solved.now) q.place q.solved.now.answers (c.loop-answer.answer-index + 1) in
    let more = (λ (held : Held). held_more q.diagram.now q.solved.now q.place c.requires.setting.setting.answer.fits c.loop-answer.answer-index c.loop-answer.held held c.answer-item.result within is c.loop-answer.invariant.held) in
    elim c.if-not-stands.branch [
      | then-not-stands+in_ok-held w ↦ record { held = subst So_far (sym w.held-is) (more w.in_ok-held.held w.in_ok-held.ensures.held); left = subst AreLeft (sym w.left-is) w.narrow.ensures.left }
      | else-not-stands w ↦
          let answer = of_list q.diagram.now q.solved.now q.place c.requires.setting.setting.answer.fits c.loop-answer.answer-index c.answer-item.result within is in
          let stays = narrows_by_nothing laws.control laws.walks q c.requires.setting c.answer-item.result answer (c.stands.ensures.0 w.if-not-stands.false) c.loop-answer.held c.loop-answer.invariant.held.narrows.range in
          record { held = subst So_far (sym w.held-is) (more c.loop-answer.held stays); left = subst AreLeft (sym w.left-is) c.loop-answer.invariant.left }
    ]

pub returns-clause-held : goal.returns-clause-held
returns-clause-held c =
    let q = c.args.self.now in
    let items : c.deref-answer-items.result.now ≡ q.solved.now.answers = c.deref-answer-items.ensures.value ∙ ap (λ (s : SolvedView). s.answers) c.solved.view_is in
    held_end q.diagram.now q.solved.now q.place c.requires.setting.setting.answer.fits c.loop-answer.answer-index c.loop-answer.held c.loop-answer.invariant.held
    (subst (λ l. length l ≤ c.loop-answer.answer-index) items c.loop-answer-test.false) (subst (λ l. c.loop-answer.answer-index ≤ length l) items c.loop-answer.auto.answer-index-end)

pub loop-answer-init : goal.loop-answer-init
loop-answer-init c = record {
  held = held_start c.args.self.now.diagram.now.nodes (answered c.args.self.now.diagram.now c.args.self.now.solved.now) c.args.self.now.place c.args.self.now.solved.now.answers c.all_fractions-held.result c.all_fractions-held.ensures.range c.all_fractions-held.ensures.all;
  left = tt;
}

pub narrow-requires-clause-setting : goal.narrow-requires-clause-setting
narrow-requires-clause-setting c = c.requires.setting

pub narrow-requires-clause-planner : goal.narrow-requires-clause-planner
narrow-requires-clause-planner c = c.requires.planner

pub narrow-requires-clause-room : goal.narrow-requires-clause-room
narrow-requires-clause-room c = c.requires.room

pub narrow-requires-clause-answer : goal.narrow-requires-clause-answer
narrow-requires-clause-answer c =
    let q = c.args.self.now in
    let items : c.deref-answer-items.result.now ≡ q.solved.now.answers = c.deref-answer-items.ensures.value ∙ ap (λ (s : SolvedView). s.answers) c.solved.view_is in
    of_list q.diagram.now q.solved.now q.place c.requires.setting.setting.answer.fits c.loop-answer.answer-index c.answer-item.result (subst (λ l. c.loop-answer.answer-index < length l) items c.loop-answer-test.true) (c.answer-item.is ∙ ap (λ l. slice_index_or l c.loop-answer.answer-index c.answer-item.result) items)

pub narrow-requires-clause-left : goal.narrow-requires-clause-left
narrow-requires-clause-left c = c.loop-answer.invariant.left

pub narrow-requires-clause-range : goal.narrow-requires-clause-range
narrow-requires-clause-range c = c.loop-answer.invariant.held.narrows.range

pub returns-clause-range : goal.returns-clause-range
returns-clause-range c = c.loop-answer.invariant.held.narrows.range
