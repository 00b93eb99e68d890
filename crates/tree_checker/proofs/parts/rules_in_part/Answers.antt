use Rattle.std.proofs.Common.{◌∙◌, ◌∷◌, ◌++◌, [], get_or, sym, ap, arith}
use Rattle.std.proofs.lemmas.List.Elements.{Contains-get_or}
use Rattle.tree_checker.proofs.PartRules.{rules_more, rules_same, rules_whole}
use Rattle.tree_checker.proofs.parts.rules_in_part.Goals as goal
use Rattle.tree_checker.proofs.parts.rules_in_part.Goals.{in-Decision+in_ok-copy_rule+in_ok-push, in_default}

pub kind-requires : goal.kind-requires
kind-requires c = c.requires.kept.within (get_or c.args.kept.now c.loop-place.place 0) (Contains-get_or c.args.kept.now c.loop-place.place 0 c.loop-place-test.true)

pub rule-requires : goal.rule-requires
rule-requires c =
    let v = get_or c.args.kept.now c.loop-place.place 0 in
    c.profile_has_rules.ensures c.args.diagram.now.nodes c.args.profile.now v c.requires.profile
    (record { within = c.requires.kept.within v (Contains-get_or c.args.kept.now c.loop-place.place 0 c.loop-place-test.true); kind = sym c.in-Decision.ensures.kind })

pub loop-place-preserved : goal.loop-place-preserved
loop-place-preserved c =
    let nodes = c.args.diagram.now.nodes in
    elim c.match-kind.branch [
      | in-Decision+in_ok-copy_rule+in_ok-push w ↦
          ap (λ v. v.items) w.rules-is ∙ w.in_ok-push.ensures.items
          ∙ (λ i. c.loop-place.invariant i ++ (w.in_ok-copy_rule.ensures ∙ (λ j. record { decision = c.loop-place.place; total = w.rule.ensures.total j; weights = w.rule.ensures.weights j })) i ∷ [])
          ∙ sym (rules_more c.args.diagram.now.nodes c.args.profile.now c.args.kept.now c.requires.kept c.loop-place.place c.loop-place-test.true (sym w.in-Decision.ensures.kind))
      | in_default w ↦
          ap (λ v. v.items) w.rules-is ∙ c.loop-place.invariant
          ∙ sym (rules_same c.args.diagram.now.nodes c.args.profile.now c.args.kept.now c.requires.kept c.loop-place.place c.loop-place-test.true (λ e. w.in_default.not-Decision (c.kind.ensures.kind ∙ e)))
    ]

pub returns : goal.returns
returns c =
    c.from_rules.ensures ∙ c.loop-place.invariant
    ∙ rules_whole c.args.diagram.now.nodes c.args.profile.now c.args.kept.now c.requires.kept c.loop-place.place (let h = c.loop-place-test.false in let k = c.loop-place.auto.place-end in omega arith)
