use Rattle.std.proofs.Common.{◌↔◌, ℕ, List, Bool, subst, sym}
use Rattle.maid_model.specs.Nodes.{IsDecision}
use Rattle.diagram_graph.specs.Needs.{IsMarkedIn}
use Rattle.diagram_graph.specs.Cycles.{lists_in}
use Rattle.std.proofs.lemmas.Result.{IfOk-weaker}
use Rattle.relevance_graph.proofs.Outcomes.{needs_relies, outcome_is}
use Rattle.relevance_graph.proofs.placed.place_decisions.Goals as goal

pub place_all-requires-clause-needs : goal.place_all-requires-clause-needs
place_all-requires-clause-needs c v e n =
    subst (λ (xs : List Bool). IsMarkedIn xs e) (sym c.deref.ensures.value)
    ((c.in_ok-decisions.ensures.decisions e).1 ((needs_relies c.args.diagram.now.nodes (lists_in c.args.relied_on.now) c.requires v e).0 n).on_decision)

pub returns : goal.returns
returns c =
    let told = subst (λ (xs : List Bool). (v : ℕ) → IsMarkedIn xs v ↔ IsDecision c.args.diagram.now.nodes v) (sym c.deref.ensures.value) c.in_ok-decisions.ensures.decisions in
    IfOk-weaker c.place_all.result _ _ (λ w h. outcome_is c.args.diagram.now.nodes (lists_in c.args.relied_on.now) c.requires _ told w h) c.place_all.ensures
