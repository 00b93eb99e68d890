use Rattle.std.proofs.Common.{List, ℕ, Ok, Err, ◌≡◌, ◌∙◌, ap, refl, sym, subst}
use Rattle.std.specs.Prelude.{Contains, IsErrOf}
use Rattle.maid_model.specs.Diagrams.{IsDiagram}
use Rattle.maid_model.specs.Edits.{with_arc}
use Rattle.maid_model.specs.Graph.{Arc, IsPath}
use Rattle.maid_model.specs.Views.{NodeView}
use Rattle.maid_model.specs.declared.diagrams.Diagram.{Diagram}
use Rattle.diagram_graph.specs.declared.adding.AddFault.TheVariants.{Present, WouldCycle, TooLarge}
use Rattle.diagram_graph.specs.Edited.{with_nodes}
use Rattle.diagram_graph.specs.Room.{RulesFit}
use Rattle.diagram_graph.proofs.MoreArcs.{more_graph, more_kept}
use Rattle.diagram_graph.proofs.Members.{member, no_member, not_both}
use Rattle.diagram_graph.proofs.adding.add_arc.Goals as goal

-- an outcome is no other
cycle_not_large : IsErrOf {T = Diagram} (Err WouldCycle) TooLarge → ⊥
cycle_not_large e = cc

cycle_not_present : IsErrOf {T = Diagram} (Err WouldCycle) Present → ⊥
cycle_not_present e = cc

large_not_cycle : IsErrOf {T = Diagram} (Err TooLarge) WouldCycle → ⊥
large_not_cycle e = cc

large_not_present : IsErrOf {T = Diagram} (Err TooLarge) Present → ⊥
large_not_present e = cc

made_not_cycle : (d : Diagram) → IsErrOf (Ok d) WouldCycle → ⊥
made_not_cycle d e = cc

made_not_large : (d : Diagram) → IsErrOf (Ok d) TooLarge → ⊥
made_not_large d e = cc

made_not_present : (d : Diagram) → IsErrOf (Ok d) Present → ⊥
made_not_present d e = cc

present_not_cycle : IsErrOf {T = Diagram} (Err Present) WouldCycle → ⊥
present_not_cycle e = cc

present_not_large : IsErrOf {T = Diagram} (Err Present) TooLarge → ⊥
present_not_large e = cc

pub returns-clause-more : goal.returns-clause-more
returns-clause-more c =
    let diagram = c.args.diagram.now in
    let nodes : c.put_arc.new.nodes.items ≡ with_arc diagram.nodes c.args.from c.args.to = c.in_ok-put_arc.ensures ∙ ap (λ ns. with_arc ns c.args.from c.args.to) c.in_ok-nodes.ensures in
    c.in_ok-with_nodes.ensures ∙ ap (λ ns. with_nodes diagram ns) nodes

pub returns-then-contains-clause-present : goal.returns-then-contains-clause-present
returns-then-contains-clause-present c = ((λ _. subst (λ (us : List ℕ). Contains us c.args.from) c.parents.ensures.parents (member c.parents.result.now c.args.from c.if-contains.ensures.cases)), (λ _. refl))

pub returns-then-contains-clause-too_large : goal.returns-then-contains-clause-too_large
returns-then-contains-clause-too_large c =
    let arc : Arc c.args.diagram.now.nodes c.args.from c.args.to = subst (λ (us : List ℕ). Contains us c.args.from) c.parents.ensures.parents (member c.parents.result.now c.args.from c.if-contains.ensures.cases) in
    ((λ e. absurd (present_not_large e)), (λ large. absurd (large.absent arc)))

pub returns-then-leads-clause-present : goal.returns-then-leads-clause-present
returns-then-leads-clause-present c =
    let absent : Arc c.args.diagram.now.nodes c.args.from c.args.to → ⊥ = (λ arc. no_member c.parents.result.now c.args.from c.if-contains.ensures.cases (subst (λ (us : List ℕ). Contains us c.args.from) (sym c.parents.ensures.parents) arc)) in
    ((λ e. absurd (cycle_not_present e)), (λ arc. absurd (absent arc)))

pub returns-then-leads-clause-would_cycle : goal.returns-then-leads-clause-would_cycle
returns-then-leads-clause-would_cycle c = ((λ _. c.leads.ensures.0 c.if-leads.true), (λ _. refl))

pub returns-then-leads-clause-too_large : goal.returns-then-leads-clause-too_large
returns-then-leads-clause-too_large c = ((λ e. absurd (cycle_not_large e)), (λ large. absurd (large.no_cycle (c.leads.ensures.0 c.if-leads.true))))

pub returns-then-not-has_room-clause-present : goal.returns-then-not-has_room-clause-present
returns-then-not-has_room-clause-present c =
    let absent : Arc c.args.diagram.now.nodes c.args.from c.args.to → ⊥ = (λ arc. no_member c.parents.result.now c.args.from c.if-contains.ensures.cases (subst (λ (us : List ℕ). Contains us c.args.from) (sym c.parents.ensures.parents) arc)) in
    ((λ e. absurd (large_not_present e)), (λ arc. absurd (absent arc)))

pub returns-then-not-has_room-clause-would_cycle : goal.returns-then-not-has_room-clause-would_cycle
returns-then-not-has_room-clause-would_cycle c = ((λ e. absurd (large_not_cycle e)), (λ p. absurd (not_both (sym c.if-leads.false ∙ c.leads.ensures.1 p))))

pub returns-then-not-has_room-clause-too_large : goal.returns-then-not-has_room-clause-too_large
returns-then-not-has_room-clause-too_large c = (
  (λ _. record {
    absent = (λ arc. no_member c.parents.result.now c.args.from c.if-contains.ensures.cases (subst (λ (us : List ℕ). Contains us c.args.from) (sym c.parents.ensures.parents) arc));
    no_cycle = (λ p. not_both (sym c.if-leads.false ∙ c.leads.ensures.1 p));
    too_much = λ fit. not_both (sym c.if-not-has_room.true ∙ c.has_room.ensures.1 fit);
  }),
  (λ _. refl),
)

pub returns-clause-present : goal.returns-clause-present
returns-clause-present c =
    let absent : Arc c.args.diagram.now.nodes c.args.from c.args.to → ⊥ = (λ arc. no_member c.parents.result.now c.args.from c.if-contains.ensures.cases (subst (λ (us : List ℕ). Contains us c.args.from) (sym c.parents.ensures.parents) arc)) in
    ((λ e. absurd (made_not_present _ e)), (λ arc. absurd (absent arc)))

pub returns-clause-would_cycle : goal.returns-clause-would_cycle
returns-clause-would_cycle c = ((λ e. absurd (made_not_cycle _ e)), (λ p. absurd (not_both (sym c.if-leads.false ∙ c.leads.ensures.1 p))))

pub returns-clause-too_large : goal.returns-clause-too_large
returns-clause-too_large c = ((λ e. absurd (made_not_large _ e)), (λ large. absurd (large.too_much (c.has_room.ensures.0 c.if-not-has_room.false))))

pub returns-then-contains-clause-would_cycle : goal.returns-then-contains-clause-would_cycle
returns-then-contains-clause-would_cycle c =
    let nodes = c.args.diagram.now.nodes in
    let arc : Arc nodes c.args.from c.args.to = subst (λ (us : List ℕ). Contains us c.args.from) c.parents.ensures.parents (member c.parents.result.now c.args.from c.if-contains.ensures.cases) in (
      (λ e. absurd (present_not_cycle e)),
      (λ path. absurd (c.parents.ensures.diagram.graph.acyclic c.args.from (c.args.to, arc, path))),
    )

pub with_nodes-requires : goal.with_nodes-requires
with_nodes-requires c =
    let diagram = c.args.diagram.now in
    let x = c.args.from in
    let d = c.args.to in
    let is_diagram = c.parents.ensures.diagram in
    let absent : Arc diagram.nodes x d → ⊥ = (λ arc. no_member c.parents.result.now c.args.from c.if-contains.ensures.cases (subst (λ (us : List ℕ). Contains us c.args.from) (sym c.parents.ensures.parents) arc)) in
    let back : IsPath (Arc diagram.nodes) d x → ⊥ = (λ p. not_both (sym c.if-leads.false ∙ c.leads.ensures.1 p)) in
    let fit : RulesFit (with_arc diagram.nodes x d) d = c.has_room.ensures.0 c.if-not-has_room.false in
    let graph = more_graph diagram.nodes x d c.requires.decision is_diagram.graph c.requires.from c.requires.no_utility absent back in
    let nodes : c.put_arc.new.nodes.items ≡ with_arc diagram.nodes x d = c.in_ok-put_arc.ensures ∙ ap (λ ns. with_arc ns x d) c.in_ok-nodes.ensures in
    subst (λ (ns : List NodeView). IsDiagram (with_nodes diagram ns)) (sym nodes) (more_kept diagram.nodes x d c.requires.decision diagram.agents diagram.decimals graph fit is_diagram)
