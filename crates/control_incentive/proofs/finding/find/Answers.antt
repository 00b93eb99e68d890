use Rattle.std.proofs.Common.{rules, ℕ, length, ◌≡◌, ◌∙◌, ◌<◌, refl, inl, inr, sym, ap, subst}
use Rattle.std.specs.Prelude.{Ok, Err, IfOk, IfSome, IsTrue}
use Rattle.std.proofs.lemmas.Option.{IfSome_then}
use Rattle.first_fault.specs.Passes.{◌▸◌, rule}
use Rattle.maid_model.specs.declared.limits.TheConstants.{MOST_RULE_CELLS}
use Rattle.maid_model.specs.declared.diagrams.Kind.TheVariants.{Chance}
use Rattle.maid_model.specs.Diagrams.{IsDiagram}
use Rattle.maid_model.specs.Edits.{AreAlike, as_decision, with_node}
use Rattle.maid_model.specs.Nodes.{node_at}
use Rattle.maid_model.specs.Subgames.{OwnsAll}
use Rattle.maid_model.specs.Values.{IsDifferenceOfOptima}
use Rattle.maid_model.specs.Views.{DiagramView, NodeView}
use Rattle.diagram_graph.specs.Edited.{IsWithDecision}
use Rattle.diagram_graph.specs.Room.{rule_cells}
use Rattle.optimum_gap.specs.Baselines.{HaveNearScopes}
use Rattle.optimum_gap.specs.Found.{IsGain, TooLarge, Worthless, reason_pass, unless}
use Rattle.control_incentive.specs.Lines.{controlling}
use Rattle.rule_solver.specs.Kept.{IsKeptDiagram}
use Rattle.control_incentive.proofs.Deciding.{behind, owns_made, plans_kept}
use Rattle.control_incentive.proofs.Restoring.{alike_back, restored, within_back}
use Rattle.control_incentive.proofs.finding.find.Goals as goal

-- the copy, with the agent deciding at the node
decided : (d e : DiagramView) (agent x : ℕ) (after : DiagramView) → e ≡ d → IsWithDecision e agent x after → after ≡ controlling d agent x
decided d e agent x after same is = is ∙ ap (λ a. controlling a agent x) same

no_error : {A E : Type 0} {x : A} {e : E} → Ok x ≡ Err e → ⊥
no_error p = cc

pub gain-found-requires-clause-near : goal.gain-found-requires-clause-near
gain-found-requires-clause-near c =
    let d = c.args.baseline.now.diagram.now in
    let agent = c.args.baseline.now.agent in
    let is = c.count-count.ensures.diagram in
    subst (λ (e : DiagramView). HaveNearScopes d e agent) (sym (decided d c.args.copy.now c.args.baseline.now.agent c.args.node _ c.requires.copy c.in-Ok.ensures.made.0)) (inl (c.edits_keep_scopes.ensures.control d c.args.node agent is.graph is.tables c.requires.chance))

-- what is kept stands where the node is a decision
pub gain-found-requires-clause-kept : goal.gain-found-requires-clause-kept
gain-found-requires-clause-kept c =
    let d = c.args.baseline.now.diagram.now in
    let made = as_decision d.nodes c.args.baseline.now.agent c.args.node in
    let plans = plans_kept d.nodes c.args.baseline.now.agent c.args.node c.requires.chance in
    let searches = c.walks_to_goals_stand.ensures.control d.nodes c.args.baseline.now.agent c.args.node c.requires.chance in
    subst (λ (e : DiagramView). IfSome c.args.kept (λ known. IsKeptDiagram e.nodes known.now)) (sym (decided d c.args.copy.now c.args.baseline.now.agent c.args.node _ c.requires.copy c.in-Ok.ensures.made.0))
    (IfSome_then c.args.kept c.requires.kept (λ known kept. c.kept_diagrams_stand.ensures d.nodes made known.now plans searches kept))

-- the node matters and can be a decision, and the rest is the solver's
pub returns-in-Ok-clause-found : goal.returns-in-Ok-clause-found
returns-in-Ok-clause-found c =
    let d = c.args.baseline.now.diagram.now in
    let agent = c.args.baseline.now.agent in
    let x = c.args.node in
    let made = controlling d agent x in
    let holds : IsTrue c.args.matters = search rules in
    let large = MOST_RULE_CELLS < rule_cells (as_decision d.nodes agent x) in
    let room : MOST_RULE_CELLS < rule_cells (as_decision d.nodes agent x) → ⊥ = λ t. no_error (c.in-Ok.ensures.too_large.1 (subst (λ (e : DiagramView). MOST_RULE_CELLS < rule_cells (as_decision e.nodes agent x)) (sym c.requires.copy) t)) in
    behind (unless (IsTrue c.args.matters) Worthless) (rule large TooLarge ▸ reason_pass made) (IsDifferenceOfOptima made.nodes d.nodes d.decimals agent) c.gain-found.result holds
    (behind (rule large TooLarge) (reason_pass made) (IsDifferenceOfOptima made.nodes d.nodes d.decimals agent) c.gain-found.result room
    (subst (λ e. IfOk c.gain-found.result (IsGain d e agent)) (decided d c.args.copy.now c.args.baseline.now.agent c.args.node _ c.requires.copy c.in-Ok.ensures.made.0) c.gain-found.ensures.gain))

pub gain-found-requires-clause-alone : goal.gain-found-requires-clause-alone
gain-found-requires-clause-alone c =
    let d = c.args.baseline.now.diagram.now in
    let agent = c.args.baseline.now.agent in
    subst (λ (e : DiagramView). OwnsAll e.nodes agent) (sym (decided d c.args.copy.now c.args.baseline.now.agent c.args.node _ c.requires.copy c.in-Ok.ensures.made.0)) (owns_made c.args.baseline.now.diagram.now.nodes agent c.args.node c.requires.chance c.requires.baseline.is_optimum.alone)

pub gain-found-requires-clause-within : goal.gain-found-requires-clause-within
gain-found-requires-clause-within c =
    let d = c.args.baseline.now.diagram.now in
    subst (λ (e : DiagramView). c.args.baseline.now.agent < e.agents) (sym (decided d c.args.copy.now c.args.baseline.now.agent c.args.node _ c.requires.copy c.in-Ok.ensures.made.0)) c.requires.baseline.within

pub returns-in-Err-TooLarge-clause-found : goal.returns-in-Err-TooLarge-clause-found
returns-in-Err-TooLarge-clause-found c =
    let holds : IsTrue c.args.matters = search rules in
    inl (inr (
      holds,
      inl (
        subst (λ (e : DiagramView). MOST_RULE_CELLS < rule_cells (as_decision e.nodes c.args.baseline.now.agent c.args.node)) c.requires.copy
            (c.decide_at.ensures.too_large.0 (c.in-Err-TooLarge.is ∙ ap (λ e. Err e) c.in-Err-TooLarge.field-0-is)),
        refl,
      ),
    ))

-- the node is put back
pub exchange-requires-clause-within : goal.exchange-requires-clause-within
exchange-requires-clause-within c =
    let d = c.args.baseline.now.diagram.now in
    subst (λ (e : DiagramView). c.args.node < length e.nodes) (sym (decided d c.args.copy.now c.args.baseline.now.agent c.args.node _ c.requires.copy c.in-Ok.ensures.made.0)) (within_back d c.args.baseline.now.agent c.args.node c.requires.chance)

pub exchange-requires-clause-alike : goal.exchange-requires-clause-alike
exchange-requires-clause-alike c =
    let d = c.args.baseline.now.diagram.now in
    let was : c.in-Ok.chance ≡ node_at d.nodes c.args.node = c.in-Ok.ensures.made.1 ∙ ap (λ (e : DiagramView). node_at e.nodes c.args.node) c.requires.copy in
    subst (λ (e : DiagramView). AreAlike (node_at e.nodes c.args.node) c.in-Ok.chance) (sym (decided d c.args.copy.now c.args.baseline.now.agent c.args.node _ c.requires.copy c.in-Ok.ensures.made.0))
    (subst (AreAlike (node_at (controlling d c.args.baseline.now.agent c.args.node).nodes c.args.node)) (sym was) (alike_back d c.args.baseline.now.agent c.args.node c.requires.chance))

-- so the copy is as it was
back : (d e after : DiagramView) (agent x : ℕ) (was : NodeView) → (node_at d.nodes x).kind ≡ Chance → e ≡ d → after ≡ controlling d agent x → was ≡ node_at e.nodes x → with_node after x was ≡ d
back d e after agent x was chance same made node = (λ i. with_node (made i) x ((node ∙ ap (λ (a : DiagramView). node_at a.nodes x) same) i)) ∙ restored d agent x chance

pub exchange-requires-clause-diagram : goal.exchange-requires-clause-diagram
exchange-requires-clause-diagram c =
    let d = c.args.baseline.now.diagram.now in
    subst IsDiagram (sym (back d c.args.copy.now _ c.args.baseline.now.agent c.args.node c.in-Ok.chance c.requires.chance c.requires.copy (decided d c.args.copy.now c.args.baseline.now.agent c.args.node _ c.requires.copy c.in-Ok.ensures.made.0) c.in-Ok.ensures.made.1)) c.count-count.ensures.diagram

pub returns-in-Ok-clause-again : goal.returns-in-Ok-clause-again
returns-in-Ok-clause-again c =
    let d = c.args.baseline.now.diagram.now in
    c.exchange.ensures.diagram ∙ back d c.args.copy.now _ c.args.baseline.now.agent c.args.node c.in-Ok.chance c.requires.chance c.requires.copy (decided d c.args.copy.now c.args.baseline.now.agent c.args.node _ c.requires.copy c.in-Ok.ensures.made.0) c.in-Ok.ensures.made.1 ∙ sym c.requires.copy
