use Rattle.std.proofs.Common.{◌≡◌, ◌+◌, ℕ, List, [], ◌∷◌, ◌++◌, ap, sym, subst, ◌∙◌}
use Rattle.std.proofs.lemmas.List.{map-append}
use Rattle.diagram_graph.specs.Cycles.{lists_in}
use Rattle.relevance_graph.specs.Steps.{TellsReliance}
use Rattle.relevance_graph.proofs.Listing.{tells_push}
use Rattle.relevance_graph.proofs.reliance.list_reliance.Goals as goal

pub loop-v-preserved : goal.loop-v-preserved
loop-v-preserved c =
    let nodes = c.args.diagram.now.nodes in
    let list = c.in_ok-relied_on_by.field-0 in
    let grown : lists_in c.push.new.self.items ≡ lists_in c.loop-v.lists.items ++ list.items ∷ [] = ap lists_in c.in_ok-push.ensures.items ∙ map-append (λ row. row.items) c.loop-v.lists.items (list ∷ []) in
    subst (λ (xs : List (List ℕ)). TellsReliance nodes (c.loop-v.v + 1) xs) (sym grown)
    (tells_push nodes c.loop-v.v (lists_in c.loop-v.lists.items) list.items c.loop-v.invariant c.in_ok-relied_on_by.ensures)
