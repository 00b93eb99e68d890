use Rattle.std.proofs.Common.{◌≡◌, ◌∙◌, ◌+◌, ◌-◌, ◌<◌, All, ap, arith, drop, get_or, length, refl, subst, sym, take}
use Rattle.std.proofs.lemmas.Result.{IfOk-from_err}
use borrow.Author.Count.{falls}
use Rattle.maid_model.specs.Parts.{part_of, place_in, rules_in}
use Rattle.maid_model.specs.Profiles.{IsProfile}
use Rattle.maid_model.specs.Views.{DiagramView}
use Rattle.reach_laws.specs.Equilibria.{choice_counts, rules_of}
use Rattle.tree_checker.specs.AgentSums.{IsAgentSum}
use Rattle.pure_search.specs.Following.{IsRuleOfDecision, TakesRuleIfKept, rule_taking}
use Rattle.pure_search.proofs.Agents.{scope_kept}
use Rattle.pure_search.proofs.Answered.{pure_choices}
use Rattle.pure_search.proofs.Chosen.{decisions_known, rows_counted}
use Rattle.pure_search.proofs.Followed.{FollowsSoFar, follow_all, follow_none, follow_put, follow_rule, follow_same}
use Rattle.pure_search.proofs.following.follow.Goals as goal
use Rattle.pure_search.proofs.following.follow.Goals.{then-not-are_same+in_ok-take_choices, else-not-are_same}

pub loop-decision-init : goal.loop-decision-init
loop-decision-init c =
    let nodes = c.args.diagram.now.nodes in
    let kept = c.args.part.now.nodes.items in
    follow_none nodes c.args.agent kept (scope_kept nodes c.args.agent kept c.count-count.ensures.diagram.graph c.requires.nodes) c.args.decisions.now c.requires.decisions c.args.before.now c.args.choices.now c.args.sum.now
    (subst (λ l. IsAgentSum (part_of nodes l) c.args.sum.now) (sym c.requires.nodes) c.requires.sum.ready)
    c.requires.sum.agent_is
    (c.requires.sum.rules_are ∙ (λ i. rules_in nodes (rules_of nodes (sym c.requires.decisions i) c.args.before.now) (sym c.requires.nodes i)))
    (ap (λ l. length (choice_counts nodes l)) c.requires.decisions ∙ sym c.requires.choices.len)

pub rows-requires : goal.rows-requires
rows-requires c = subst (All (λ v. v < length c.args.diagram.now.nodes)) (sym c.requires.decisions) (decisions_known c.args.diagram.now.nodes) c.loop-decision.decision-index 0 c.loop-decision-test.true

pub states-states-requires : goal.states-states-requires
states-states-requires c = subst (All (λ v. v < length c.args.diagram.now.nodes)) (sym c.requires.decisions) (decisions_known c.args.diagram.now.nodes) c.loop-decision.decision-index 0 c.loop-decision-test.true

pub take_choices-requires-clause-rule : goal.take_choices-requires-clause-rule
take_choices-requires-clause-rule c m =
    let nodes = c.args.diagram.now.nodes in
    let kept = c.args.part.now.nodes.items in
    let v = get_or c.args.decisions.now c.loop-decision.decision-index 0 in
    let there : c.args.part.now.diagram.nodes ≡ part_of nodes kept = ap (λ (d : DiagramView). d.nodes) c.requires.part ∙ ap (part_of nodes) (sym c.requires.nodes) in
    let profile : IsProfile nodes (rules_of nodes c.args.decisions.now c.args.choices.now) = subst (λ l. IsProfile nodes (rules_of nodes l c.args.choices.now)) (sym c.requires.decisions) (pure_choices nodes c.args.choices.now c.requires.choices).profile in
    subst (λ ns. IsRuleOfDecision ns (rule_taking (place_in kept v) c.states-states.result (take (c.loop-decision.start + c.rows.result - c.loop-decision.start) (drop c.loop-decision.start c.args.choices.now)))) (sym there)
    (follow_rule nodes c.args.agent kept (scope_kept nodes c.args.agent kept c.count-count.ensures.diagram.graph c.requires.nodes) c.args.decisions.now c.requires.decisions c.args.before.now c.args.choices.now
    c.loop-decision.decision-index c.loop-decision.start c.rows.result c.loop-decision.sum c.loop-decision.invariant c.loop-decision-test.true c.rows.ensures profile c.states-states.result c.states-states.ensures.states m)

pub loop-decision-preserved : goal.loop-decision-preserved
loop-decision-preserved c =
    let nodes = c.args.diagram.now.nodes in
    let kept = c.args.part.now.nodes.items in
    let ds = c.args.decisions.now in
    let before = c.args.before.now in
    let choices = c.args.choices.now in
    let i = c.loop-decision.decision-index in
    let start = c.loop-decision.start in
    let end = start + c.rows.result in
    let v = get_or ds i 0 in
    let anc = scope_kept nodes c.args.agent kept c.count-count.ensures.diagram.graph c.requires.nodes in
    let there : c.args.part.now.diagram.nodes ≡ part_of nodes kept = ap (λ (d : DiagramView). d.nodes) c.requires.part ∙ ap (part_of nodes) (sym c.requires.nodes) in
    elim c.if-not-are_same.branch [
      | then-not-are_same+in_ok-take_choices w ↦
          subst (FollowsSoFar nodes c.args.agent kept ds before choices (i + 1) c.if-not-are_same.start) (sym w.sum-is)
          (subst (λ n. FollowsSoFar nodes c.args.agent kept ds before choices (i + 1) n w.take_choices.new.sum) (sym w.start-is)
          (follow_put nodes c.args.agent kept anc ds c.requires.decisions before choices i start c.rows.result c.loop-decision.sum c.loop-decision.invariant c.loop-decision-test.true c.rows.ensures
          w.states-states.result w.states-states.ensures.states w.take_choices.new.sum
          (subst (λ ns. TakesRuleIfKept ns kept v (rule_taking (place_in kept v) w.states-states.result (take (end - start) (drop start choices))) c.loop-decision.sum w.take_choices.new.sum) there w.in_ok-take_choices.ensures)))
      | else-not-are_same w ↦
          subst (FollowsSoFar nodes c.args.agent kept ds before choices (i + 1) c.if-not-are_same.start) (sym w.sum-is)
          (subst (λ n. FollowsSoFar nodes c.args.agent kept ds before choices (i + 1) n c.loop-decision.sum) (sym w.start-is)
          (follow_same nodes c.args.agent kept anc ds c.requires.decisions before choices i start c.rows.result c.loop-decision.sum c.loop-decision.invariant c.loop-decision-test.true c.rows.ensures
          (w.if-not-are_same.ensures.0 refl)))
    ]

pub returns : goal.returns
returns c =
    let nodes = c.args.diagram.now.nodes in
    let kept = c.args.part.now.nodes.items in
    let so = c.loop-decision.invariant in
    let profile : IsProfile nodes (rules_of nodes c.args.decisions.now c.args.choices.now) = subst (λ l. IsProfile nodes (rules_of nodes l c.args.choices.now)) (sym c.requires.decisions) (pure_choices nodes c.args.choices.now c.requires.choices).profile in
    record {
      ready = subst (λ l. IsAgentSum (part_of nodes l) c.loop-decision.sum) c.requires.nodes so.ready;
      agent_is = so.agent_is;
      rules_are = follow_all nodes c.args.agent kept (scope_kept nodes c.args.agent kept c.count-count.ensures.diagram.graph c.requires.nodes) c.args.decisions.now c.requires.decisions c.args.before.now c.args.choices.now
          c.loop-decision.decision-index c.loop-decision.start c.loop-decision.sum so c.loop-decision-test.false profile
          ∙ (λ i. rules_in nodes (rules_of nodes (c.requires.decisions i) c.args.choices.now) (c.requires.nodes i));
    }

pub bounds-decisions-decision-index : goal.bounds-decisions-decision-index
bounds-decisions-decision-index c = c.loop-decision-test.true

pub slice_bounds-these-count : goal.slice_bounds-these-count
slice_bounds-these-count c = omega arith

pub slice_bounds-these-start : goal.slice_bounds-these-start
slice_bounds-these-start c = omega arith

pub slice_bounds-these-end : goal.slice_bounds-these-end
slice_bounds-these-end c =
    omega (arith, rows_counted c.args.diagram.now.nodes c.args.decisions.now c.loop-decision.decision-index c.loop-decision-test.true, c.rows.ensures, c.loop-decision.invariant.count)

pub slice_bounds-are_same-count : goal.slice_bounds-are_same-count
slice_bounds-are_same-count c = omega arith

pub slice_bounds-are_same-start : goal.slice_bounds-are_same-start
slice_bounds-are_same-start c = omega arith

pub slice_bounds-are_same-end : goal.slice_bounds-are_same-end
slice_bounds-are_same-end c =
    omega (arith, rows_counted c.args.diagram.now.nodes c.args.decisions.now c.loop-decision.decision-index c.loop-decision-test.true, c.rows.ensures, c.loop-decision.invariant.count, c.requires.before.len, c.requires.choices.len)

pub take_choices-requires-clause-sum : goal.take_choices-requires-clause-sum
take_choices-requires-clause-sum c =
    subst (λ ns. IsAgentSum ns c.loop-decision.sum) (sym (ap (λ (d : DiagramView). d.nodes) c.requires.part ∙ ap (part_of c.args.diagram.now.nodes) (sym c.requires.nodes))) c.loop-decision.invariant.ready

pub loop-decision-smaller : goal.loop-decision-smaller
loop-decision-smaller c = falls _ _ c.loop-decision-test.true

pub returns-in_err-take_choices : goal.returns-in_err-take_choices
returns-in_err-take_choices c = IfOk-from_err _ _ c.from_residual.ensures.0
