use Rattle.std.proofs.Common.{◌≡◌, ◌∙◌, ◌<◌, ◌≤◌, length, map, slice_index, sym, subst, ap, arith}
use Rattle.std.proofs.lemmas.List.{length-map}
use Rattle.maid_model.specs.Views.{AnswerView}
use Rattle.maid_model.specs.Relevance.{ReliesOn}
use Rattle.rule_solver.proofs.BaseTurns.{decided_at, mixed_base, mixed_room, turned_all, turned_more}
use Rattle.rule_solver.proofs.bases.TurningBase.turn.Goals as goal

pub returns-clause-base : goal.returns-clause-base
returns-clause-base c =
    let nodes = c.args.diagram.now.nodes in
    let answers = c.args.answers.now in
    let listed = map (λ (a : AnswerView). a.decision) answers in
    let long : length listed ≤ c.loop-place.place = omega (arith, length-map answers (λ (a : AnswerView). a.decision), c.loop-place-test.false) in
    mixed_base nodes answers c.loop-place.self.held c.loop-place.self.profile c.loop-place.invariant.turning.mixed c.args.decision c.requires.relied (turned_all nodes c.args.decision listed c.loop-place.place c.loop-place.self.held long c.loop-place.invariant.turned)

pub returns-clause-room : goal.returns-clause-room
returns-clause-room c = mixed_room c.args.diagram.now.nodes c.args.answers.now c.loop-place.self.held c.loop-place.self.profile c.loop-place.invariant.turning.mixed

pub loop-place-preserved : goal.loop-place-preserved
loop-place-preserved c =
    let nodes = c.args.diagram.now.nodes in
    let d = c.args.decision in
    let answers = c.args.answers.now in
    let listed = map (λ (a : AnswerView). a.decision) answers in
    let place = c.loop-place.place in
    let a : AnswerView = c.index-answers-place.result in
    let e = c.answer.inside.decision in
    let within : place < length answers = omega (arith, c.loop-place-test.true) in
    let there : slice_index listed place ≡ e = decided_at answers place a within (sym c.index-answers-place.is) ∙ sym (ap (λ (x : AnswerView). x.decision) c.answer.view_is) in
    record {
      turning = c.in_ok-turn_one.ensures.turning;
      turned =
          turned_more nodes d listed place c.loop-place.self.held c.turn_one.new.self.held c.relies-relied.result c.loop-place.invariant.turned c.in_ok-turn_one.ensures.turns (
            (λ t. subst (ReliesOn nodes d) (sym there) ((c.requires.relevance.pairs d e).0 (c.relies-relied.ensures.0 t))),
            (λ r. c.relies-relied.ensures.1 ((c.requires.relevance.pairs d e).1 (subst (ReliesOn nodes d) there r))),
          );
    }
