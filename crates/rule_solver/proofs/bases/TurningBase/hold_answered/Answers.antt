use Rattle.std.proofs.Common.{All, length, map, ◌≡◌, ◌∙◌, ◌<◌, ◌↔◌, ◌⊎◌, sym, subst, ap}
use Rattle.maid_model.specs.declared.answers.Row.{Row}
use Rattle.maid_model.specs.Answers.{FitsAnswer}
use Rattle.maid_model.specs.Nodes.{IsDecision, states_of, rows_of}
use Rattle.maid_model.specs.Profiles.{Replaces, pure_rule}
use Rattle.maid_model.specs.Views.{AnswerView, RuleView}
use Rattle.node_sets.specs.declared.sets.NodeSet.{NodeSet}
use Rattle.node_sets.specs.Sets.{IsIn}
use Rattle.rule_solver.proofs.BaseLemmas.{rule_of}
use Rattle.rule_solver.proofs.BaseTurns.{decided_at, mixed_put}
use Rattle.rule_solver.proofs.bases.TurningBase.hold_answered.Goals as goal

pub put-requires : goal.put-requires
put-requires c =
    let nodes = c.args.diagram.now.nodes in
    let a : AnswerView = c.index-answers-place.result in
    let fits : FitsAnswer nodes a = subst (FitsAnswer nodes) (sym c.index-answers-place.is) (c.requires.fits c.args.place a c.requires.place) in
    let decided : c.answer.inside.decision ≡ a.decision = ap (λ (x : AnswerView). x.decision) c.answer.view_is in
    let rows : c.deref.result.now ≡ a.rows = c.deref.ensures.value ∙ ap (λ (x : AnswerView). x.rows) c.answer.view_is in
    record {
      decision = subst (IsDecision nodes) (sym (ap (λ (r : RuleView). r.decision) c.in_ok-rule.ensures.choices ∙ decided)) fits.decision;
      rule = c.in_ok-rule.ensures.rule (ap length rows ∙ fits.rows ∙ ap (rows_of nodes) (sym decided))
          (subst (All (λ (r : Row). r.choice < states_of nodes c.answer.inside.decision)) (sym rows) (subst (λ d. All (λ (r : Row). r.choice < states_of nodes d) a.rows) (sym decided) fits.choices));
      profile = c.requires.turning.mixed.profile;
      totals = c.requires.turning.has_totals;
    }

pub returns-clause-turning : goal.returns-clause-turning
returns-clause-turning c =
    let nodes = c.args.diagram.now.nodes in
    let a : AnswerView = c.index-answers-place.result in
    let base = c.args.self.now in
    let decided : c.answer.inside.decision ≡ a.decision = ap (λ (x : AnswerView). x.decision) c.answer.view_is in
    let rows : c.deref.result.now ≡ a.rows = c.deref.ensures.value ∙ ap (λ (x : AnswerView). x.rows) c.answer.view_is in
    let is : c.in_ok-rule.rule ≡ rule_of nodes a = c.in_ok-rule.ensures.choices ∙ (λ i. pure_rule nodes (decided i) (map (λ r. r.choice) (rows i))) in
    record {
      mixed = mixed_put nodes c.args.answers.now base.held base.profile c.requires.turning.mixed c.args.place a c.put.new.self.profile c.insert.new.self c.requires.once c.requires.place (sym c.index-answers-place.is)
          (subst (Replaces base.profile c.put.new.self.profile) is c.put.ensures.replaced) c.put.ensures.profile
          (λ x. subst (λ d. IsIn c.insert.new.self x ↔ (IsIn base.held x ⊎ (x ≡ d))) decided
          (subst (λ (s : NodeSet). IsIn c.insert.new.self x ↔ (IsIn s x ⊎ (x ≡ c.answer.inside.decision))) c.put.ensures.held (c.insert.ensures.all x)));
      has_totals = c.put.ensures.totals;
    }

pub returns-clause-holds : goal.returns-clause-holds
returns-clause-holds c e =
    let a : AnswerView = c.index-answers-place.result in
    let decided : c.answer.inside.decision ≡ a.decision = ap (λ (x : AnswerView). x.decision) c.answer.view_is in
    subst (λ d. IsIn c.insert.new.self e ↔ (IsIn c.args.self.now.held e ⊎ (e ≡ d)))
    (decided ∙ sym (decided_at c.args.answers.now c.args.place a c.requires.place (sym c.index-answers-place.is)))
    (subst (λ (s : NodeSet). IsIn c.insert.new.self e ↔ (IsIn s e ⊎ (e ≡ c.answer.inside.decision))) c.put.ensures.held (c.insert.ensures.all e))
