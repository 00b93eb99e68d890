use Rattle.std.proofs.Common.{rules, ◌≡◌, ◌∙◌, ◌<◌, ◌≢◌, true, inr, length, sym, subst, ap, arith}
use Rattle.std.specs.Prelude.{Ok}
use Rattle.diagram_graph.proofs.MoreArcs.{more_graph}
use Rattle.diagram_graph.specs.Room.{IsArcTooLarge}
use Rattle.first_fault.specs.Passes.{◌▸◌, rule}
use Rattle.maid_model.specs.declared.diagrams.Kind.TheVariants.{Utility}
use Rattle.maid_model.specs.Diagrams.{IsDiagram}
use Rattle.maid_model.specs.Graph.{Arc, IsPath}
use Rattle.maid_model.specs.Nodes.{IsDecision, node_at}
use Rattle.maid_model.specs.Relevance.{IsRequisite}
use Rattle.maid_model.specs.Values.{IsDifferenceOfOptima}
use Rattle.maid_model.specs.Subgames.{OwnsAll}
use Rattle.maid_model.specs.Views.{DiagramView}
use Rattle.optimum_gap.specs.Baselines.{HaveNearScopes}
use Rattle.optimum_gap.specs.Found.{IsGain, TooLarge, Worthless, reason_pass, unless}
use Rattle.size_precheck.specs.Kept.{DifferAt}
use Rattle.info_value.specs.Finding.{diagram_with_arc}
use Rattle.info_value.proofs.Added.{behind, differ_with, owns_with}
use Rattle.info_value.proofs.finding.find_unseen.Goals as goal

-- the diagram with the arc is one
pub returns-then-not-would_need-clause-graph : goal.returns-then-not-would_need-clause-graph
returns-then-not-would_need-clause-graph c told =
    let d = c.args.baseline.now.diagram.now in
    let asked = c.requires.asked in
    more_graph d.nodes c.args.from c.args.to asked.decision c.count-count.ensures.diagram.graph asked.within asked.no_utility c.requires.absent asked.above

pub returns-clause-graph : goal.returns-clause-graph
returns-clause-graph c told =
    let d = c.args.baseline.now.diagram.now in
    let asked = c.requires.asked in
    more_graph d.nodes c.args.from c.args.to asked.decision c.count-count.ensures.diagram.graph asked.within asked.no_utility c.requires.absent asked.above

-- ---- the arc is added to the copy
pub add_arc_in-requires-clause-decision : goal.add_arc_in-requires-clause-decision
add_arc_in-requires-clause-decision c = subst (λ (e : DiagramView). IsDecision e.nodes c.args.to) (sym c.in_ok-more.ensures.copy) c.requires.asked.decision

pub add_arc_in-requires-clause-from : goal.add_arc_in-requires-clause-from
add_arc_in-requires-clause-from c = subst (λ (e : DiagramView). c.args.from < length e.nodes) (sym c.in_ok-more.ensures.copy) c.requires.asked.within

pub add_arc_in-requires-clause-no_utility : goal.add_arc_in-requires-clause-no_utility
add_arc_in-requires-clause-no_utility c = subst (λ (e : DiagramView). (node_at e.nodes c.args.from).kind ≢ Utility) (sym c.in_ok-more.ensures.copy) c.requires.asked.no_utility

pub add_arc_in-requires-clause-absent : goal.add_arc_in-requires-clause-absent
add_arc_in-requires-clause-absent c = subst (λ (e : DiagramView). Arc e.nodes c.args.from c.args.to → ⊥) (sym c.in_ok-more.ensures.copy) c.requires.absent

pub add_arc_in-requires-clause-no_cycle : goal.add_arc_in-requires-clause-no_cycle
add_arc_in-requires-clause-no_cycle c = subst (λ (e : DiagramView). IsPath (Arc e.nodes) c.args.to c.args.from → ⊥) (sym c.in_ok-more.ensures.copy) c.requires.asked.above

pub add_arc_in-requires-clause-room : goal.add_arc_in-requires-clause-room
add_arc_in-requires-clause-room c =
    let room : IsArcTooLarge c.args.baseline.now.diagram.now.nodes c.args.from c.args.to → ⊥ = search rules in
    subst (λ (e : DiagramView). IsArcTooLarge e.nodes c.args.from c.args.to → ⊥) (sym c.in_ok-more.ensures.copy) room

pub gain-requires-clause-alone : goal.gain-requires-clause-alone
gain-requires-clause-alone c =
    let d = c.args.baseline.now.diagram.now in
    let x = c.args.from in
    let to = c.args.to in
    let asked = c.requires.asked in
    let graph = more_graph d.nodes x to asked.decision c.count-count.ensures.diagram.graph asked.within asked.no_utility c.requires.absent asked.above in
    let is = c.in_ok-blind.ensures.more.0 ∙ ap (λ (e : DiagramView). diagram_with_arc e x to) c.in_ok-more.ensures.copy in
    subst (λ (e : DiagramView). OwnsAll e.nodes c.args.baseline.now.agent) (sym is) (owns_with d.nodes x to c.args.baseline.now.agent asked.decision graph c.requires.baseline.is_optimum.alone)

pub gain-requires-clause-within : goal.gain-requires-clause-within
gain-requires-clause-within c =
    let is = c.in_ok-blind.ensures.more.0 ∙ ap (λ (e : DiagramView). diagram_with_arc e c.args.from c.args.to) c.in_ok-more.ensures.copy in
    subst (λ (e : DiagramView). c.args.baseline.now.agent < e.agents) (sym is) c.requires.baseline.within

pub gain-requires-clause-near : goal.gain-requires-clause-near
gain-requires-clause-near c =
    let d = c.args.baseline.now.diagram.now in
    let x = c.args.from in
    let to = c.args.to in
    let agent = c.args.baseline.now.agent in
    let asked = c.requires.asked in
    let whole = c.count-count.ensures.diagram in
    let graph = more_graph d.nodes x to asked.decision whole.graph asked.within asked.no_utility c.requires.absent asked.above in
    let is = c.in_ok-blind.ensures.more.0 ∙ ap (λ (e : DiagramView). diagram_with_arc e x to) c.in_ok-more.ensures.copy in
    subst (λ (e : DiagramView). HaveNearScopes d e agent) (sym is) (inr (c.edits_keep_scopes.ensures.with d x to agent graph whole.tables asked.decision))

-- the arc can be added and would be requisite, and the rest is the solver's
pub returns-clause-found : goal.returns-clause-found
returns-clause-found c =
    let d = c.args.baseline.now.diagram.now in
    let x = c.args.from in
    let to = c.args.to in
    let agent = c.args.baseline.now.agent in
    let more = diagram_with_arc d x to in
    let room : IsArcTooLarge d.nodes x to → ⊥ = search rules in
    let holds : c.args.would_need ≡ true = search rules in
    let is = c.in_ok-blind.ensures.more.0 ∙ ap (λ (e : DiagramView). diagram_with_arc e x to) c.in_ok-more.ensures.copy in
    behind (rule (IsArcTooLarge d.nodes x to) TooLarge) (unless (IsRequisite more.nodes to x) Worthless ▸ reason_pass more) (IsDifferenceOfOptima more.nodes d.nodes d.decimals agent) (Ok c.in_ok-found.found) room
    (behind (unless (IsRequisite more.nodes to x) Worthless) (reason_pass more) (IsDifferenceOfOptima more.nodes d.nodes d.decimals agent) (Ok c.in_ok-found.found) (c.requires.would_need.0 holds)
    (subst (λ e. IsGain d e agent c.in_ok-found.found) is c.in_ok-found.ensures.gain))

-- ---- the decision is put back
pub exchange-requires-clause-diagram : goal.exchange-requires-clause-diagram
exchange-requires-clause-diagram c = subst IsDiagram (sym (c.in_ok-blind.ensures.back.again ∙ c.in_ok-more.ensures.copy)) c.count-count.ensures.diagram

pub returns-clause-shared : goal.returns-clause-shared
returns-clause-shared c = record {
  copy = c.exchange.ensures.diagram ∙ c.in_ok-blind.ensures.back.again ∙ c.in_ok-more.ensures.copy;
  worths = c.in_ok-kept.ensures.shared.worths;
  left = c.in_ok-found.ensures.left;
}

-- ---- what the lines share
pub keep-requires-clause-changed : goal.keep-requires-clause-changed
keep-requires-clause-changed c = let l = c.requires.asked.decision.within in let m = c.count-count.ensures.diagram.limits.nodes in omega (arith, l, m)

pub keep-requires-clause-edited : goal.keep-requires-clause-edited
keep-requires-clause-edited c =
    let d = c.args.baseline.now.diagram.now in
    let asked = c.requires.asked in
    let graph = more_graph d.nodes c.args.from c.args.to asked.decision c.count-count.ensures.diagram.graph asked.within asked.no_utility c.requires.absent asked.above in
    let is = c.in_ok-blind.ensures.more.0 ∙ ap (λ (e : DiagramView). diagram_with_arc e c.args.from c.args.to) c.in_ok-more.ensures.copy in
    subst (λ (e : DiagramView). DifferAt d.nodes e.nodes c.args.to) (sym is) (differ_with d.nodes c.args.from c.args.to asked.decision graph)
