use Rattle.std.proofs.Common.{◌≡◌, ◌∙◌, get_or, sym, ap, subst}
use Rattle.std.proofs.lemmas.List.Elements.{Contains-get_or}
use Rattle.std.specs.Prelude.{Contains}
use Rattle.maid_model.specs.Nodes.{IsDecision}
use Rattle.maid_model.specs.Profiles.{HasRule, IsRule, Replaces}
use Rattle.maid_model.specs.Views.{RuleView}
use Rattle.tree_checker.proofs.BaseSteps.{base_put, base_end, chosen_rule}
use Rattle.tree_checker.proofs.bases.base_of.Goals as goal

pub rule-requires : goal.rule-requires
rule-requires c = c.profile_has_rules.ensures c.args.diagram.now.nodes c.args.chosen.now (get_or c.relied_on-on-items.result.now c.loop-on.on-index 0) c.requires.chosen
    ((c.requires.relevance.pairs c.args.decision (get_or c.relied_on-on-items.result.now c.loop-on.on-index 0)).0 (subst (λ l. Contains l (get_or c.relied_on-on-items.result.now c.loop-on.on-index 0)) c.relied_on-on-items.ensures (Contains-get_or c.relied_on-on-items.result.now c.loop-on.on-index 0 c.loop-on-test.true))).on_decision

pub put-requires : goal.put-requires
put-requires c =
    let v = get_or c.relied_on-on-items.result.now c.loop-on.on-index 0 in
    subst (HasRule c.loop-on.base) (sym (ap (λ (r : RuleView). r.decision) c.in_ok-copy_rule.ensures))
    (c.profile_has_rules.ensures c.args.diagram.now.nodes c.loop-on.base v c.loop-on.invariant.profile
    ((c.requires.relevance.pairs c.args.decision v).0 (subst (λ l. Contains l v) c.relied_on-on-items.ensures (Contains-get_or c.relied_on-on-items.result.now c.loop-on.on-index 0 c.loop-on-test.true))).on_decision)

pub loop-on-preserved : goal.loop-on-preserved
loop-on-preserved c =
    let nodes = c.args.diagram.now.nodes in
    let v = get_or c.relied_on-on-items.result.now c.loop-on.on-index 0 in
    let decided : IsDecision nodes v = ((c.requires.relevance.pairs c.args.decision v).0 (subst (λ l. Contains l v) c.relied_on-on-items.ensures (Contains-get_or c.relied_on-on-items.result.now c.loop-on.on-index 0 c.loop-on-test.true))).on_decision in
    let is : c.in_ok-copy_rule.field-0 ≡ chosen_rule c.args.chosen.now v = c.in_ok-copy_rule.ensures ∙ (λ i. record { decision = v; total = c.rule.ensures.total i; weights = c.rule.ensures.weights i }) in
    base_put nodes c.args.chosen.now c.relied_on-on-items.result.now c.loop-on.on-index c.loop-on.base c.put.new.self c.loop-on.invariant c.loop-on-test.true
    (subst (Replaces c.loop-on.base c.put.new.self) is c.put.ensures.replaced)
    (c.put.ensures.profile nodes c.loop-on.invariant.profile (subst (IsRule nodes) (sym is) (c.requires.chosen.rule v decided)))

pub returns : goal.returns
returns c =
    base_end c.args.diagram.now.nodes c.args.chosen.now c.relied_on-on-items.result.now c.args.decision c.loop-on.on-index c.loop-on.base c.loop-on.invariant c.loop-on-test.false
    (λ e. ((λ m. (c.requires.relevance.pairs c.args.decision e).0 (subst (λ l. Contains l e) c.relied_on-on-items.ensures m)), (λ r. subst (λ l. Contains l e) (sym c.relied_on-on-items.ensures) ((c.requires.relevance.pairs c.args.decision e).1 r))))
