use Rattle.std.proofs.Common.{◌∙◌, ◌*◌, ◌<◌, ◌≤◌, ℕ, ap, arith, length, subst, sym}
use Rattle.std.proofs.Math.Nat.{mul-le-mul_left}
use Rattle.maid_model.specs.Nodes.{rows_of, states_of}
use Rattle.tree_checker.proofs.endings.value.Goals as goal

pub holds-requires : goal.holds-requires
holds-requires c = omega (arith, c.requires.node, c.cells-cells.ensures.diagram.limits.nodes)

pub offset_bounds-cells-row : goal.offset_bounds-cells-row
offset_bounds-cells-row c =
    let small : c.args.row < 65536 = small_row c.args.row (rows_of c.args.diagram.now.nodes c.args.v) (states_of c.args.diagram.now.nodes c.args.v) c.requires.row (c.cells-cells.ensures.diagram.graph.has_state c.args.v) (c.cells-cells.ensures.diagram.limits.cells c.args.v c.requires.node) in
    omega (arith, small)
  where
    small_row : (r n k : ℕ) → r < n → 0 < k → n * k ≤ 65536 → r < 65536
    small_row r n k l h m = omega (arith, mul-le-mul_left n h)

pub bounds-cells-row : goal.bounds-cells-row
bounds-cells-row c =
    subst (λ n. c.args.row < n) (sym (ap length c.cells-cells.ensures.cells ∙ c.cells-cells.ensures.diagram.values.utility c.args.v c.requires.node (c.requires.marks c.args.v c.requires.node (sym c.holds.ensures ∙ c.if-not-holds.false)))) c.requires.row
