use Rattle.std.proofs.Common.{rules, ◌∙◌, [], length, set, slice_index_or, sym, ap, arith}
use Rattle.std.proofs.lemmas.List.{length-map, with_items_is}
use Rattle.diagram_graph.specs.Cycles.{lists_in}
use Rattle.tree_checker.proofs.Exchanged.{same_count, sum_exchanged}
use Rattle.tree_checker.proofs.agent_sums.AgentSum.put.Goals as goal

pub set_factors-requires-clause-node : goal.set_factors-requires-clause-node
set_factors-requires-clause-node c =
    omega (arith, ap (λ r. r.decision) c.rule.view_is, c.requires.decision.within, c.requires.sum.factors.count, length-map c.args.self.now.factors.items (λ row. row.items), ap length c.deref_mut.ensures.value)

pub set_factors-requires-clause-count : goal.set_factors-requires-clause-count
set_factors-requires-clause-count c =
    (λ i. length (slice_index_or (lists_in (c.deref_mut.ensures.value i)) (c.rule.view_is i).decision []))
    ∙ same_count c.args.diagram.now.nodes c.args.self.now.rules c.args.rule c.requires.decision c.requires.rule (lists_in c.args.self.now.factors.items) c.requires.sum.factors
    ∙ sym (ap length (c.deref.ensures.value ∙ ap (λ r. r.weights) c.rule.view_is))

-- what the exchange of the rule says is searched for, not named, so that an edit without it is
-- refused at this clause
pub returns-clause-sum : goal.returns-clause-sum
returns-clause-sum c =
    let sum = c.args.self.now in
    let kept = c.set_factors.auto.factors ∙ ap length c.deref_mut.ensures.value ∙ sym sum.factors.ok.0 in
    let weights = c.deref.ensures.value ∙ ap (λ r. r.weights) c.rule.view_is in
    let written = ap lists_in (with_items_is sum.factors c.set_factors.new.factors kept) ∙ c.set_factors.ensures ∙ (λ i. set (lists_in (c.deref_mut.ensures.value i)) (c.rule.view_is i).decision (weights i)) in
    sum_exchanged c.args.diagram.now.nodes sum _ _ c.args.rule c.requires.sum c.requires.decision c.requires.rule written (search rules) (search rules)
