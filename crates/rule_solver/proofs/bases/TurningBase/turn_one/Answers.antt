use Rattle.std.proofs.Common.{◌≡◌, ◌∙◌, map, slice_index, sym, subst, ap, arith}
use Rattle.maid_model.specs.Views.{AnswerView}
use Rattle.rule_solver.specs.Bases.{Turns}
use Rattle.rule_solver.proofs.BaseTurns.{decided_at, turns_stay, turns_in, turns_out}
use Rattle.std.proofs.lemmas.Result.{on_ok_weaker}
use Rattle.maid_model.specs.Answers.{FitsAnswer}
use Rattle.maid_model.specs.Nodes.{IsDecision}
use Rattle.rule_solver.proofs.bases.TurningBase.turn_one.Goals as goal

-- the decision has the rule that it needs
pub returns : goal.returns
returns c =
    let a : AnswerView = c.index-answers-place.result in
    let decided : c.answer.inside.decision ≡ a.decision = ap (λ (x : AnswerView). x.decision) c.answer.view_is in
    let there : slice_index (map (λ (x : AnswerView). x.decision) c.args.answers.now) c.args.place ≡ c.answer.inside.decision = decided_at c.args.answers.now c.args.place a c.requires.place (sym c.index-answers-place.is) ∙ sym decided in
    record {
      turning = c.requires.turning;
      turns = subst (λ v. Turns v c.args.relied c.args.self.now.held c.args.self.now.held) (sym there)
          (turns_stay c.answer.inside.decision c.args.relied c.args.self.now.held (sym c.holds-holds.ensures ∙ c.if-holds-2.false ∙ sym c.if-relied.false));
    }

pub holds-holds-requires : goal.holds-holds-requires
holds-holds-requires c =
    let fits : FitsAnswer c.args.diagram.now.nodes c.index-answers-place.result = subst (FitsAnswer c.args.diagram.now.nodes) (sym c.index-answers-place.is) (c.requires.fits c.args.place c.index-answers-place.result c.requires.place) in
    let decided : c.answer.inside.decision ≡ c.index-answers-place.result.decision = ap (λ (x : AnswerView). x.decision) c.answer.view_is in
    let here = (subst (IsDecision c.args.diagram.now.nodes) (sym decided) fits.decision).within in
    omega (arith, here, c.count-count.ensures.diagram.limits.nodes)

pub returns-then-holds-clause-turning : goal.returns-then-holds-clause-turning
returns-then-holds-clause-turning c = c.requires.turning

pub returns-then-holds-clause-turns : goal.returns-then-holds-clause-turns
returns-then-holds-clause-turns c =
    let there : slice_index (map (λ (x : AnswerView). x.decision) c.args.answers.now) c.args.place ≡ c.answer.inside.decision = decided_at c.args.answers.now c.args.place c.index-answers-place.result c.requires.place (sym c.index-answers-place.is) ∙ sym (ap (λ (x : AnswerView). x.decision) c.answer.view_is) in
    subst (λ v. Turns v c.args.relied c.args.self.now.held c.args.self.now.held) (sym there) (turns_stay c.answer.inside.decision c.args.relied c.args.self.now.held (sym c.holds-holds.ensures ∙ c.if-holds.true ∙ sym c.if-relied.true))

pub hold_answered-requires-clause-fits : goal.hold_answered-requires-clause-fits
hold_answered-requires-clause-fits c = c.requires.fits

pub hold_answered-requires-clause-once : goal.hold_answered-requires-clause-once
hold_answered-requires-clause-once c = c.requires.once

pub hold_answered-requires-clause-place : goal.hold_answered-requires-clause-place
hold_answered-requires-clause-place c = c.requires.place

pub hold_answered-requires-clause-turning : goal.hold_answered-requires-clause-turning
hold_answered-requires-clause-turning c = c.requires.turning

pub returns-then-relied-clause-turning : goal.returns-then-relied-clause-turning
returns-then-relied-clause-turning c = c.hold_answered.ensures.turning

pub returns-then-relied-clause-turns : goal.returns-then-relied-clause-turns
returns-then-relied-clause-turns c =
    let v = slice_index (map (λ (x : AnswerView). x.decision) c.args.answers.now) c.args.place in
    on_ok_weaker _ (λ h. subst (λ b. Turns v b c.args.self.now.held c.hold_answered.new.self.held) (sym c.if-relied.true) (turns_in v c.args.self.now.held c.hold_answered.new.self.held h)) c.hold_answered.ensures.holds

pub hold_uniform-requires-clause-decision : goal.hold_uniform-requires-clause-decision
hold_uniform-requires-clause-decision c =
    let fits : FitsAnswer c.args.diagram.now.nodes c.index-answers-place.result = subst (FitsAnswer c.args.diagram.now.nodes) (sym c.index-answers-place.is) (c.requires.fits c.args.place c.index-answers-place.result c.requires.place) in
    let decided : c.answer.inside.decision ≡ c.index-answers-place.result.decision = ap (λ (x : AnswerView). x.decision) c.answer.view_is in
    subst (IsDecision c.args.diagram.now.nodes) (sym decided) fits.decision

pub hold_uniform-requires-clause-turning : goal.hold_uniform-requires-clause-turning
hold_uniform-requires-clause-turning c = c.requires.turning

pub returns-then-holds-2-clause-turning : goal.returns-then-holds-2-clause-turning
returns-then-holds-2-clause-turning c = c.hold_uniform.ensures.turning

pub returns-then-holds-2-clause-turns : goal.returns-then-holds-2-clause-turns
returns-then-holds-2-clause-turns c =
    let there : slice_index (map (λ (x : AnswerView). x.decision) c.args.answers.now) c.args.place ≡ c.answer.inside.decision = decided_at c.args.answers.now c.args.place c.index-answers-place.result c.requires.place (sym c.index-answers-place.is) ∙ sym (ap (λ (x : AnswerView). x.decision) c.answer.view_is) in
    on_ok_weaker _ (λ h. subst (λ v. Turns v c.args.relied c.args.self.now.held c.hold_uniform.new.self.held) (sym there) (subst (λ b. Turns c.answer.inside.decision b c.args.self.now.held c.hold_uniform.new.self.held) (sym c.if-relied.false) (turns_out c.answer.inside.decision c.args.self.now.held c.hold_uniform.new.self.held h))) c.hold_uniform.ensures.holds
