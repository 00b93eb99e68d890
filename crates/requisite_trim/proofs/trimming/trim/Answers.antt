use Rattle.std.proofs.Common.{◌∙◌, ℕ, List, [], ◌∷◌, ◌++◌, ◌<◌, ap, sym, subst}
use Rattle.maid_model.specs.Views.{DiagramView}
use Rattle.requisite_trim.proofs.Losing.{arcs_in, arcs_fewer}
use Rattle.requisite_trim.proofs.Trims.{Leads, leads_none, leads_more, leads_end, trimmed_loses}
use Rattle.requisite_trim.proofs.trimming.trim.Goals as goal

pub looks-smaller : goal.looks-smaller
looks-smaller c =
    let first = c.in-Some.ensures in
    let nodes = ap (λ (d : DiagramView). d.nodes) c.in_ok-trimmed-2.ensures in
    subst (λ ns. arcs_in ns < arcs_in c.looks.trimmed.nodes) (sym nodes) (arcs_fewer c.looks.trimmed.nodes c.in-Some.from c.in-Some.to first.decision first.place first.within first.there)

pub looks-init : goal.looks-init
looks-init c =
    let nodes = ap (λ (d : DiagramView). d.nodes) c.in_ok-trimmed.ensures in
    record {
      leads = rw (c.new-removed.ensures.items, nodes) (leads_none c.args.diagram.now.nodes);
      agents = ap (λ (d : DiagramView). d.agents) c.in_ok-trimmed.ensures;
      decimals = ap (λ (d : DiagramView). d.decimals) c.in_ok-trimmed.ensures;
    }

pub looks-preserved : goal.looks-preserved
looks-preserved c =
    let first = c.in-Some.ensures in
    let nodes = ap (λ (d : DiagramView). d.nodes) c.in_ok-trimmed-2.ensures in
    record {
      leads = subst (λ (l : List (ℕ × ℕ)). Leads c.args.diagram.now.nodes l c.in_ok-trimmed-2.trimmed.nodes) (sym c.in_ok-push.ensures.items)
          (subst (λ ns. Leads c.args.diagram.now.nodes (c.looks.removed.items ++ (c.in-Some.from, c.in-Some.to) ∷ []) ns) (sym nodes)
          (leads_more c.args.diagram.now.nodes c.looks.trimmed.nodes c.looks.removed.items c.in-Some.from c.in-Some.to c.looks.invariant.leads first));
      agents = ap (λ (d : DiagramView). d.agents) c.in_ok-trimmed-2.ensures ∙ c.looks.invariant.agents;
      decimals = ap (λ (d : DiagramView). d.decimals) c.in_ok-trimmed-2.ensures ∙ c.looks.invariant.decimals;
    }

pub returns : goal.returns
returns c =
    let before = c.args.diagram.now in
    let is_diagram = c.count-count.ensures.diagram in
    let trimmed = leads_end before.nodes c.looks.trimmed.nodes c.looks.removed.items c.looks.invariant.leads c.in_default.ensures in
    record {
      trimmed = trimmed;
      diagram = c.count-count-2.ensures.diagram;
      nodes = trimmed_loses trimmed;
      agents = c.looks.invariant.agents;
      decimals = c.looks.invariant.decimals;
      optimum = λ agent owns. (c.trimmed_optimum.ensures.same before.nodes c.looks.trimmed.nodes c.looks.removed.items agent is_diagram.graph is_diagram.tables owns trimmed).5;
    }
