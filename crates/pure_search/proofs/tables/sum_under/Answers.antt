use Rattle.std.proofs.Common.{◌≡◌, ◌∙◌, Result, Ok, Err, IfOk, subst}
use Rattle.maid_model.specs.Parts.{rules_in}
use Rattle.maid_model.specs.Views.{DiagramView}
use Rattle.tree_checker.specs.AgentSums.{IsAgentSum}
use Rattle.pure_search.specs.Following.{FollowsChoices}
use Rattle.pure_search.proofs.Agents.{scope_kept, weighed}
use Rattle.pure_search.proofs.tables.sum_under.Goals as goal

-- what follows from promises of a value is promised, too
if_ok : {T E : Type 0} (r : Result T E) (P Q R S : T → Type 0) → ((t : T) → P t → Q t → R t → S t) → IfOk r P → IfOk r Q → IfOk r R → IfOk r S
if_ok (Ok t) P Q R S more p q r = more t p q r
if_ok (Err e) P Q R S more p q r = p

pub rules_in_part-requires-clause-kept : goal.rules_in_part-requires-clause-kept
rules_in_part-requires-clause-kept c = scope_kept c.args.diagram.now.nodes c.args.agent c.deref-2.result.now c.count-count.ensures.diagram.graph (c.deref-2.ensures.value ∙ c.requires.nodes)

pub new-requires : goal.new-requires
new-requires c =
    (weighed c.args.diagram.now c.in_ok-profile.profile c.args.agent c.count-count.ensures.diagram c.requires.bound.bound c.in_ok-profile.ensures.profile c.in_ok-profile.ensures.unit c.requires.agent
    c.args.part.now.diagram c.deref-2.result.now c.in_ok-rules.rules c.requires.part (c.deref-2.ensures.value ∙ c.requires.nodes) c.in_ok-rules.ensures).profile

pub returns : goal.returns
returns c =
    let nodes = c.args.diagram.now.nodes in
    let kept = c.deref-2.ensures.value ∙ c.requires.nodes in
    if_ok c.new.result (IsAgentSum c.args.part.now.diagram.nodes) (λ s. s.agent ≡ c.args.agent) (λ s. s.rules ≡ c.in_ok-rules.rules) (FollowsChoices nodes c.args.agent c.args.choices.now)
    (λ s ready own rules. record {
      ready = subst (λ (d : DiagramView). IsAgentSum d.nodes s) c.requires.part ready;
      agent_is = own;
      rules_are = rules ∙ c.in_ok-rules.ensures ∙ (λ i. rules_in nodes (c.in_ok-profile.ensures.rules i) (kept i));
    })
    c.new.ensures.sum c.new.ensures.agent c.new.ensures.rules
