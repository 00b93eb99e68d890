use Rattle.std.proofs.Common.{◌≡◌, ◌∙◌, ◌≤◌, sym, subst, arith, length}
use Rattle.std.proofs.lemmas.Bool.Decides.{nat_tests}
use Rattle.maid_model.specs.declared.limits.TheConstants.{MOST_RULE_CELLS}
use Rattle.reach_laws.specs.Evidence.{all_seeing}
use Rattle.evidence.proofs.Seen.{AddsUp, adds_next, count_same, rules_kept, rules_told}
use Rattle.evidence.proofs.sights.keeps_rules.Goals as goal

pub loop-v-preserved : goal.loop-v-preserved
loop-v-preserved c = adds_next (all_seeing c.args.diagram.now.nodes c.args.node) c.loop-v.v c.loop-v.cells c.in-Some.more c.loop-v.invariant c.in-Some.ensures

pub returns : goal.returns
returns c =
    let others = all_seeing c.args.diagram.now.nodes c.args.node in
    let end : c.loop-v.v ≡ length c.args.diagram.now.nodes = omega (arith, c.loop-v-test.false, c.loop-v.auto.v-end, c.count-v-end.ensures.count) in
    let sum = subst (λ n. AddsUp others n c.loop-v.cells) (end ∙ sym (count_same c.args.diagram.now.nodes c.args.node)) c.loop-v.invariant in (
      (λ t. let few : c.loop-v.cells ≤ MOST_RULE_CELLS = grind (arith, nat_tests) in rules_kept others c.loop-v.cells sum few),
      (λ keeps. let few = rules_told others c.loop-v.cells sum keeps in grind (arith, nat_tests)),
    )
