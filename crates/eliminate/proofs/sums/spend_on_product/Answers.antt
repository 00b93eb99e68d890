use Rattle.std.proofs.Common.{◌≡◌, ◌∙◌, ◌*◌, length, sym, subst}
use Rattle.node_sets.specs.Sets.{holds}
use Rattle.factor_core.specs.declared.slots.Slot.{Slot}
use Rattle.eliminate.specs.Limits.{Spends, scopes_at, product_cells, product_work}
use Rattle.eliminate.proofs.Multiplying.{product_counted}
use Rattle.eliminate.proofs.Standing.{map_length}
use Rattle.eliminate.proofs.sums.spend_on_product.Goals as goal

-- the cells are counted over the nodes of the slots, and a slot has one scope
pub returns : goal.returns
returns c =
    let nodes = c.args.diagram.now.nodes in
    let slots = c.args.slots.now in
    let cells : c.count_cells-cells.result ≡ product_cells nodes (scopes_at slots) = c.count_cells-cells.ensures ∙ product_counted nodes slots c.united_scope.result c.united_scope.ensures in
    let work : c.count_cells-cells.result * length slots ≡ product_work nodes (scopes_at slots) = (λ i. cells i * sym (map_length (λ (s : Slot). holds s.scope) slots) i) in
    subst (λ n. Spends c.args.left n (product_work nodes (scopes_at slots)) c.spend.result) cells
    (subst (λ n. Spends c.args.left c.count_cells-cells.result n c.spend.result) work c.spend.ensures)
