use Rattle.std.proofs.Common.{◌≡◌, ◌∙◌, IfOk, ap, subst, sym}
use Rattle.maid_model.specs.declared.diagrams.Kind.TheVariants.{Chance, Utility}
use Rattle.maid_model.specs.declared.answers.Ratio.{Ratio}
use Rattle.std.specs.Global.{Vec}
use Rattle.maid_model.specs.Answers.{FitsAnswers, pure_profile}
use Rattle.maid_laws.proofs.AnswerLaws.{answers_fit}
use Rattle.part_laws.specs.ScopeLaws.{HasUnitRules}
use Rattle.evidence.specs.Conditional.{HasAllGains}
use Rattle.evidence.proofs.conditions.worth_given.Goals as goal

pub list_gains-requires-clause-setting : goal.list_gains-requires-clause-setting
list_gains-requires-clause-setting c =
    let d = c.args.diagram.now in
    let same = c.deref.ensures.value ∙ ap (λ a. a.answers) c.solved.view_is in
    record {
      within = c.requires.within;
      kind = λ e. let f : Chance ≡ Utility = sym c.requires.kind ∙ e in cc;
      has_state = c.requires.state;
      profile = c.in_ok-profile.ensures.profile (subst (FitsAnswers d.nodes) (sym same) (answers_fit d c.args.solved.now c.count-count.ensures.diagram.graph c.count-count.ensures.diagram.tables c.requires.answer.fits));
      rules = subst (HasUnitRules d.nodes) (sym c.in_ok-profile.ensures.rules) (c.scoped_sums_fit.ensures.answers d.nodes _);
      bounds = c.requires.bounds;
    }

pub list_gains-requires-clause-mass : goal.list_gains-requires-clause-mass
list_gains-requires-clause-mass c = c.requires.mass c.in_ok-profile.profile

pub returns : goal.returns
returns c =
    let d = c.args.diagram.now in
    let same = c.in_ok-profile.ensures.rules ∙ ap (pure_profile d.nodes) (c.deref.ensures.value ∙ ap (λ a. a.answers) c.solved.view_is) in
    record { gains = subst (λ p. IfOk c.list_gains.result (λ (v : Vec Ratio). HasAllGains d p c.args.node c.args.state v.items)) same c.list_gains.ensures.gains }
