use Rattle.std.proofs.Common.{◌≡◌, ◌<◌, List, [], ℕ, Vec, Global, length, subst, sym, ap, ◌∙◌}
use Rattle.std.specs.Prelude.{Contains}
use Rattle.std.proofs.lemmas.List.{get_or-map, length-map}
use Rattle.diagram_graph.specs.Cycles.{lists_in}
use Rattle.diagram_graph.specs.Needs.{needs_of}
use Rattle.relevance_graph.specs.Views.{RelevanceView}
use Rattle.relevance_graph.specs.Views.{IsRising}
use Rattle.relevance_graph.proofs.Listing.{search_finds}
use Rattle.relevance_graph.proofs.relevance.Relevance.relies.Goals as goal

pub returns : goal.returns
returns c =
    let d = c.args.decision in
    let items = c.self.inside.relied_on.items in
    let rows : lists_in items ≡ c.args.self.now.relied_on = ap (λ (v : RelevanceView). v.relied_on) c.self.view_is in
    let within : d < length items = subst (λ n. d < n) (ap length (sym rows) ∙ length-map items (λ (row : Vec ℕ Global). row.items)) c.requires in
    let row : needs_of (lists_in items) d ≡ c.deref.result.now =
    get_or-map (λ (row : Vec ℕ Global). row.items) items d c.index.result.now [] within ∙ (ap (λ (row : Vec ℕ Global). row.items) (sym c.index.ensures) ∙ sym c.deref.ensures.value) in
    let same : c.deref.result.now ≡ needs_of c.args.self.now.relied_on d = sym row ∙ ap (λ (lists : List (List ℕ)). needs_of lists d) rows in
    let found = search_finds c.deref.result.now c.args.on c.binary_search.result (subst (λ (xs : List ℕ). IsRising xs) row (c.self.invariant d)) c.binary_search.ensures.position in (
      (λ t. subst (λ (xs : List ℕ). Contains xs c.args.on) same (found.0 (sym c.is_ok.ensures.value ∙ t))),
      (λ h. c.is_ok.ensures.value ∙ found.1 (subst (λ (xs : List ℕ). Contains xs c.args.on) (sym same) h)),
    )
