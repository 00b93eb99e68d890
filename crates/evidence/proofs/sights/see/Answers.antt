use Rattle.evidence.specs.Faults.{sight_pass}
use Rattle.evidence.proofs.HandedOn.{out_of_memory}
use Rattle.std.proofs.lemmas.Bool.{false≢true}
use Rattle.std.proofs.lemmas.Result.{IfOk-from_err}
use Rattle.std.proofs.Common.{◌∙◌, sym, subst}
use Rattle.maid_model.specs.Diagrams.{IsDiagram}
use Rattle.maid_model.specs.Views.{DiagramView}
use Rattle.evidence.proofs.Seen.{seen_diagram}
use Rattle.evidence.proofs.sights.see.Goals as goal

pub from_nodes-requires : goal.from_nodes-requires
from_nodes-requires c =
    let d = c.args.diagram.now in
    subst (λ (d : DiagramView). IsDiagram d) (λ i. record { nodes = sym c.in_ok-nodes.ensures i; agents = sym c.agents.ensures.agents i; decimals = sym c.decimals.ensures.decimals i })
    (seen_diagram c.seen_everywhere.ensures.kept d c.args.node c.agents.ensures.diagram
    (record { kind = c.requires.kind; above = λ e k h. false≢true (sym c.if-is_below_decision.false ∙ c.is_below_decision.ensures.1 (record { decision = e; is_decision = k; path = h })) })
    (c.keeps_rules.ensures.0 c.if-not-keeps_rules.false))

pub is_below_decision-requires-clause-within : goal.is_below_decision-requires-clause-within
is_below_decision-requires-clause-within c = c.requires.within

pub is_below_decision-requires-clause-kind : goal.is_below_decision-requires-clause-kind
is_below_decision-requires-clause-kind c = c.requires.kind

pub keeps_rules-requires : goal.keeps_rules-requires
keeps_rules-requires c = c.requires.within

pub returns-in_err-nodes-clause-rows : goal.returns-in_err-nodes-clause-rows
returns-in_err-nodes-clause-rows c = out_of_memory (sight_pass c.args.diagram.now c.args.node) _ c.from_residual.ensures

pub returns-in_err-nodes-clause-diagram : goal.returns-in_err-nodes-clause-diagram
returns-in_err-nodes-clause-diagram c = IfOk-from_err _ _ c.from_residual.ensures.0

pub returns-in_err-nodes-clause-evidence : goal.returns-in_err-nodes-clause-evidence
returns-in_err-nodes-clause-evidence c = IfOk-from_err _ _ c.from_residual.ensures.0

pub returns-in_err-nodes-clause-seen : goal.returns-in_err-nodes-clause-seen
returns-in_err-nodes-clause-seen c = IfOk-from_err _ _ c.from_residual.ensures.0

pub returns-in_err-from_nodes-clause-rows : goal.returns-in_err-from_nodes-clause-rows
returns-in_err-from_nodes-clause-rows c = out_of_memory (sight_pass c.args.diagram.now c.args.node) _ c.from_residual-in_err-from_nodes.ensures

pub returns-in_err-from_nodes-clause-diagram : goal.returns-in_err-from_nodes-clause-diagram
returns-in_err-from_nodes-clause-diagram c = IfOk-from_err _ _ c.from_residual-in_err-from_nodes.ensures.0

pub returns-in_err-from_nodes-clause-evidence : goal.returns-in_err-from_nodes-clause-evidence
returns-in_err-from_nodes-clause-evidence c = IfOk-from_err _ _ c.from_residual-in_err-from_nodes.ensures.0

pub returns-in_err-from_nodes-clause-seen : goal.returns-in_err-from_nodes-clause-seen
returns-in_err-from_nodes-clause-seen c = IfOk-from_err _ _ c.from_residual-in_err-from_nodes.ensures.0

pub returns-clause-rows : goal.returns-clause-rows
returns-clause-rows c = (λ below. false≢true (sym c.if-is_below_decision.false ∙ c.is_below_decision.ensures.1 below), c.keeps_rules.ensures.0 c.if-not-keeps_rules.false)

pub returns-clause-diagram : goal.returns-clause-diagram
returns-clause-diagram c = c.agents.ensures.diagram

pub returns-clause-evidence : goal.returns-clause-evidence
returns-clause-evidence c = record { kind = c.requires.kind; above = λ e k h. false≢true (sym c.if-is_below_decision.false ∙ c.is_below_decision.ensures.1 (record { decision = e; is_decision = k; path = h })) }

pub returns-clause-seen : goal.returns-clause-seen
returns-clause-seen c = c.in_ok-from_nodes.ensures ∙ (λ i. record { nodes = c.in_ok-nodes.ensures i; agents = c.agents.ensures.agents i; decimals = c.decimals.ensures.decimals i })
