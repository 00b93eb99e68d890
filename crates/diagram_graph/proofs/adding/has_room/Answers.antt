use Rattle.std.proofs.Common.{◌≡◌, ◌*◌, ap, length, List, ℕ, arith}
use Rattle.std.proofs.lemmas.Bool.{le-leb, leb-true}
use Rattle.maid_model.specs.Nodes.{states_of}
use Rattle.diagram_graph.specs.Room.{cells_at}
use Rattle.diagram_graph.proofs.MoreArcs.{room}
use Rattle.diagram_graph.proofs.adding.has_room.Goals as goal

pub returns-then-more-gt-MOST_CELLS : goal.returns-then-more-gt-MOST_CELLS
returns-then-more-gt-MOST_CELLS c = (
  (λ t. absurd (let u = t in cc)),
  (λ fit.
      let h = (room c.args.diagram.now.nodes c.args.from c.args.to c.requires.decision).1 fit in
      let more : c.cells_at-cells.result * c.states.result ≡ cells_at c.args.diagram.now.nodes c.args.to * states_of c.args.diagram.now.nodes c.args.from = (λ i. c.cells_at-cells.ensures.cells i * c.states.ensures.states i) in
      let few = h.1 in
      let many = c.if-more-gt-MOST_CELLS.true in absurd (omega arith)),
)

pub returns : goal.returns
returns c =
    let nodes = c.args.diagram.now.nodes in
    let h = room nodes c.args.from c.args.to c.requires.decision in
    let cells = c.cells_at-cells.ensures.cells in
    let more : c.cells_at-cells.result * c.states.result ≡ cells_at nodes c.args.to * states_of nodes c.args.from = (λ i. cells i * c.states.ensures.states i) in
    let all = c.rule_cells.ensures in
    let seen = ap (λ (us : List ℕ). length us) c.parents-seen.ensures.parents in
    let most = c.states.ensures.diagram.limits.parents c.args.to in
    let not_most = c.if-seen-ge-MOST_PARENTS.false in
    let small = c.if-more-gt-MOST_CELLS.false in (
      (λ t. let l = leb-true _ _ t in h.0 (omega arith, omega arith, omega arith)),
      (λ fit. let l = (h.1 fit).2 in le-leb _ _ (omega arith)),
    )

pub returns-then-seen-ge-MOST_PARENTS : goal.returns-then-seen-ge-MOST_PARENTS
returns-then-seen-ge-MOST_PARENTS c = (
  (λ t. absurd (let u = t in cc)),
  (λ fit.
      let h = (room c.args.diagram.now.nodes c.args.from c.args.to c.requires.decision).1 fit in
      let seen = ap (λ (us : List ℕ). length us) c.parents-seen.ensures.parents in
      absurd (omega (arith, h.0, seen, c.if-seen-ge-MOST_PARENTS.true))),
)
