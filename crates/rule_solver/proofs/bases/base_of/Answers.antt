use Rattle.std.proofs.Common.{All, length, map, ◌≡◌, ◌∙◌, ◌+◌, ◌<◌, sym, subst, ap, arith, true, false}
use Rattle.maid_model.specs.declared.answers.Row.{Row}
use Rattle.maid_model.specs.Answers.{FitsAnswer}
use Rattle.maid_model.specs.Nodes.{states_of, rows_of}
use Rattle.maid_model.specs.Profiles.{HasRule, IsRule, Replaces, pure_rule}
use Rattle.maid_model.specs.Relevance.{ReliesOn}
use Rattle.maid_model.specs.Views.{AnswerView, RuleView}
use Rattle.rule_solver.proofs.BaseLemmas.{BaseSoFar, base_skip, base_put, base_end, fits_at, rule_of}
use Rattle.rule_solver.proofs.bases.base_of.Goals as goal
use Rattle.rule_solver.proofs.bases.base_of.Goals.{then-relied+in_ok-pure, else-relied}

-- the base has a rule of the answered decision, and so a place for its answered rule
pub put-requires : goal.put-requires
put-requires c =
    let nodes = c.args.diagram.now.nodes in
    let a : AnswerView = c.answer-item.result in
    let fits : FitsAnswer nodes a = fits_at nodes c.args.answers.now c.loop-answer.answer-index a c.requires.fits c.loop-answer-test.true (sym c.answer-item.is) in
    let own : c.in_ok-pure.field-0.decision ≡ a.decision = ap (λ (r : RuleView). r.decision) c.in_ok-pure.ensures.choices ∙ ap (λ (x : AnswerView). x.decision) c.answer.view_is in
    subst (HasRule c.loop-answer.base) (sym own) (c.profile_has_rules.ensures nodes c.loop-answer.base a.decision c.loop-answer.invariant.profile fits.decision)

pub loop-answer-preserved : goal.loop-answer-preserved
loop-answer-preserved c =
    let nodes = c.args.diagram.now.nodes in
    let a : AnswerView = c.answer-item.result in
    let decided : c.answer.inside.decision ≡ a.decision = ap (λ (x : AnswerView). x.decision) c.answer.view_is in
    elim c.if-relied.branch [
      | then-relied+in_ok-pure w ↦
          let fits : FitsAnswer nodes a = fits_at nodes c.args.answers.now c.loop-answer.answer-index a c.requires.fits c.loop-answer-test.true (sym c.answer-item.is) in
          let rows : w.deref.result.now ≡ a.rows = w.deref.ensures.value ∙ ap (λ (x : AnswerView). x.rows) c.answer.view_is in
          let is : w.in_ok-pure.field-0 ≡ rule_of nodes a = w.in_ok-pure.ensures.choices ∙ (λ i. pure_rule nodes (decided i) (map (λ r. r.choice) (rows i))) in
          let rule : IsRule nodes w.in_ok-pure.field-0 =
          w.in_ok-pure.ensures.rule (ap length rows ∙ fits.rows ∙ ap (rows_of nodes) (sym decided))
          (subst (All (λ (r : Row). r.choice < states_of nodes c.answer.inside.decision)) (sym rows) (subst (λ d. All (λ (r : Row). r.choice < states_of nodes d) a.rows) (sym decided) fits.choices)) in
          subst (BaseSoFar nodes c.args.answers.now c.args.decision (c.loop-answer.answer-index + 1)) (sym w.base-is)
          (base_put nodes c.args.answers.now c.args.decision c.loop-answer.answer-index c.loop-answer.base c.loop-answer.invariant a c.loop-answer-test.true (sym c.answer-item.is) w.put.new.self
          (subst (Replaces c.loop-answer.base w.put.new.self) is w.put.ensures.replaced) fits c.requires.once
          (subst (ReliesOn nodes c.args.decision) decided ((c.requires.relevance.pairs c.args.decision c.answer.inside.decision).0 (c.relies-relied.ensures.0 w.if-relied.true)))
          (w.put.ensures.profile nodes c.loop-answer.invariant.profile rule))
      | else-relied w ↦
          subst (BaseSoFar nodes c.args.answers.now c.args.decision (c.loop-answer.answer-index + 1)) (sym w.base-is)
          (base_skip nodes c.args.answers.now c.args.decision c.loop-answer.answer-index c.loop-answer.base c.loop-answer.invariant a c.loop-answer-test.true (sym c.answer-item.is)
          (λ r. let clash : false ≡ true = sym w.if-relied.false ∙ c.relies-relied.ensures.1 ((c.requires.relevance.pairs c.args.decision c.answer.inside.decision).1 (subst (ReliesOn nodes c.args.decision) (sym decided) r)) in cc))
    ]

pub returns-clause-base : goal.returns-clause-base
returns-clause-base c = base_end c.args.diagram.now.nodes c.args.answers.now c.args.decision c.loop-answer.answer-index c.loop-answer.base c.loop-answer.invariant (omega arith) c.requires.relied
