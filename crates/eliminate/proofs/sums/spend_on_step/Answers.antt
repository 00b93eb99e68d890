use Rattle.std.proofs.Common.{◌≡◌, ◌∙◌, ◌*◌, ◌≤◌, length, sym, ap, subst, arith}
use Rattle.std.proofs.lemmas.List.{length-take-le}
use Rattle.node_sets.specs.Sets.{holds}
use Rattle.size_precheck.specs.Counts.{counted_cells}
use Rattle.eliminate.specs.Limits.{Spends, scopes_at, step_cells, step_work}
use Rattle.eliminate.specs.Places.{live_slots}
use Rattle.eliminate.proofs.Bounds.{gathered_with}
use Rattle.eliminate.proofs.Scoped.{work_of_step, cells_of_step}
use Rattle.eliminate.proofs.sums.spend_on_step.Goals as goal

pub gather-count-requires-clause-within : goal.gather-count-requires-clause-within
gather-count-requires-clause-within c k t =
    let places = c.args.places.now in
    let within : places.made ≤ length c.args.slots.now = omega (arith, c.requires.made, c.requires.slots) in
    omega (arith, c.requires.within k ((c.places_of-held.ensures k places.live).0 t).0, ap length c.before-2.ensures, length-take-le places.made c.args.slots.now within)

pub returns : goal.returns
returns c =
    let nodes = c.args.diagram.now.nodes in
    let places = c.args.places.now in
    let slots = live_slots places.live places.made c.args.slots.now in
    let list = c.before-3.result.now in
    let is = gathered_with c.args.at.now places.live c.places_of-held.result places.made c.args.node c.args.slots.now c.requires.held c.places_of-held.ensures c.before-2.ensures c.gather-count.ensures.list c.before-3.ensures in
    let count : length list ≡ c.gather-count.result = omega (arith, ap length c.before-3.ensures, length-take-le c.gather-count.result c.gather-count.new.found (omega (arith, c.gather-count.ensures.few, ap length c.before-2.ensures, length-take-le places.made c.args.slots.now (omega (arith, c.requires.made, c.requires.slots)), c.gather-count.auto.found, c.requires.joined, c.requires.made))) in
    let cells : c.count_cells.result ≡ step_cells nodes c.args.node (scopes_at slots) = c.count_cells.ensures ∙ cells_of_step nodes c.args.node slots list is c.united_scope-scope.result c.united_scope-scope.ensures c.remove.new.self c.remove.ensures in
    let work : c.count_cells-2.result * c.gather-count.result ≡ step_work nodes c.args.node (scopes_at slots) =
    ap (λ n. n * c.gather-count.result) c.count_cells-2.ensures ∙ ap (λ n. counted_cells nodes (holds c.united_scope-scope.result) * n) (sym count)
    ∙ work_of_step nodes c.args.node slots list is c.united_scope-scope.result c.united_scope-scope.ensures in
    subst (λ n. Spends c.args.left n (step_work nodes c.args.node (scopes_at slots)) c.spend.result) cells
    (subst (λ n. Spends c.args.left c.count_cells.result n c.spend.result) work c.spend.ensures)
