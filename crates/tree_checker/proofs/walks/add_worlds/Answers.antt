use Rattle.std.proofs.Common.{◌≡◌, ◌∙◌, ◌++◌, ◌+ℤ◌, ap, sym, subst, pos, slice_index, slice_index_or, length}
use Rattle.std.proofs.lemmas.List.{take-append-drop}
use Rattle.std.proofs.Math.ListN.{length-replicate}
use Rattle.maid_model.specs.Worlds.{world_of}
use Rattle.tree_checker.specs.Walks.{AreUtilities, HasRoomToWalk, IsDownward, ending, gain_with, mass_with}
use Rattle.tree_checker.proofs.WalkOpened.{moved}
use Rattle.tree_checker.proofs.WalkTotals.{down, first_room, cells_listed}
use Rattle.diagram_graph.specs.Room.{cells_at}
use Rattle.tree_checker.proofs.walks.add_worlds.Goals as goal

pub weighed-requires : goal.weighed-requires
weighed-requires c = down c.args.diagram.now c.count-count.ensures.diagram c.args.profile.now c.requires.profile c.args.left_out c.args.marks.now c.requires.marks c.requires.fits c.args.nodes.now c.requires.order

pub split_at-requires : goal.split_at-requires
split_at-requires c = c.weighed.ensures.within

pub split_last-last-requires-clause-marks : goal.split_last-last-requires-clause-marks
split_last-last-requires-clause-marks c = c.requires.marks

pub split_last-last-requires-clause-decision : goal.split_last-last-requires-clause-decision
split_last-last-requires-clause-decision c = c.requires.decision

pub split_last-last-requires-clause-tail : goal.split_last-last-requires-clause-tail
split_last-last-requires-clause-tail c = subst (AreUtilities c.args.diagram.now.nodes) (sym c.split_at.ensures.back) c.weighed.ensures.tail

pub split_last-last-requires-clause-order : goal.split_last-last-requires-clause-order
split_last-last-requires-clause-order c =
    let all : c.split_at.result.0.now ++ c.split_at.result.1.now ≡ c.args.nodes.now = (λ i. c.split_at.ensures.front i ++ c.split_at.ensures.back i) ∙ take-append-drop c.weighed.result c.args.nodes.now in
    subst (λ l. IsDownward c.args.diagram.now.nodes l) (sym all)
    (down c.args.diagram.now c.count-count.ensures.diagram c.args.profile.now c.requires.profile c.args.left_out c.args.marks.now c.requires.marks c.requires.fits c.args.nodes.now c.requires.order)

pub walk-requires-clause-order : goal.walk-requires-clause-order
walk-requires-clause-order c =
    let whole : c.split_last-last.result.0.now ++ ending c.split_last-last.result.1 c.split_at.result.1.now ≡ c.args.nodes.now =
    c.split_last-last.ensures.whole ∙ (λ i. c.split_at.ensures.front i ++ c.split_at.ensures.back i) ∙ take-append-drop c.weighed.result c.args.nodes.now in
    subst (λ l. IsDownward c.args.diagram.now.nodes l) (sym whole)
    (down c.args.diagram.now c.count-count.ensures.diagram c.args.profile.now c.requires.profile c.args.left_out c.args.marks.now c.requires.marks c.requires.fits c.args.nodes.now c.requires.order)

pub walk-requires-clause-room : goal.walk-requires-clause-room
walk-requires-clause-room c =
    let whole : c.split_last-last.result.0.now ++ ending c.split_last-last.result.1 c.split_at.result.1.now ≡ c.args.nodes.now =
    c.split_last-last.ensures.whole ∙ (λ i. c.split_at.ensures.front i ++ c.split_at.ensures.back i) ∙ take-append-drop c.weighed.result c.args.nodes.now in
    moved (λ vs gains masses. HasRoomToWalk c.args.diagram.now.nodes c.args.profile.now c.args.left_out vs 1 (pos 0) gains masses)
    whole c.requires.gains c.requires.masses
    (first_room c.args.diagram.now c.count-count.ensures.diagram c.args.profile.now c.requires.profile c.args.left_out c.args.marks.now c.requires.marks c.requires.fits c.args.nodes.now c.requires.order (cells_at c.args.diagram.now.nodes c.args.left_out) (cells_at c.args.diagram.now.nodes c.args.left_out))

pub walk-requires-clause-setting : goal.walk-requires-clause-setting
walk-requires-clause-setting c = record {
  diagram = c.count-count.ensures.diagram;
  profile = c.requires.profile;
  factors = c.requires.factors;
  marked = c.requires.marks;
  decision = c.requires.decision;
}

pub walk-requires-clause-ending : goal.walk-requires-clause-ending
walk-requires-clause-ending c = c.split_last-last.ensures.ending

pub walk-requires-clause-world : goal.walk-requires-clause-world
walk-requires-clause-world c = c.requires.known

pub walk-requires-clause-gains : goal.walk-requires-clause-gains
walk-requires-clause-gains c = ap length c.requires.gains ∙ length-replicate (cells_at c.args.diagram.now.nodes c.args.left_out) (pos 0)

pub walk-requires-clause-masses : goal.walk-requires-clause-masses
walk-requires-clause-masses c = ap length c.requires.masses ∙ length-replicate (cells_at c.args.diagram.now.nodes c.args.left_out) 0

pub returns-clause-cells : goal.returns-clause-cells
returns-clause-cells c =
    let whole : c.split_last-last.result.0.now ++ ending c.split_last-last.result.1 c.split_at.result.1.now ≡ c.args.nodes.now =
    c.split_last-last.ensures.whole ∙ (λ i. c.split_at.ensures.front i ++ c.split_at.ensures.back i) ∙ take-append-drop c.weighed.result c.args.nodes.now in
    let nodes = c.args.diagram.now.nodes in
    let cells = cells_at nodes c.args.left_out in
    cells_listed c.args.diagram.now c.count-count.ensures.diagram c.args.profile.now c.requires.profile c.args.left_out c.args.marks.now c.requires.marks c.requires.fits c.args.nodes.now c.requires.order cells
    c.walk.new.gains c.walk.new.masses (λ i. cells)
    (λ cell. c.walk.ensures.gains cell ∙ (λ i. slice_index_or (c.requires.gains i) cell (pos 0) +ℤ gain_with nodes c.args.profile.now c.args.left_out c.args.marks.now (whole i) 1 (pos 0) cell (world_of (c.requires.world i))))
    (λ cell. c.walk.ensures.masses cell ∙ (λ i. pos (slice_index (c.requires.masses i) cell) +ℤ mass_with nodes c.args.profile.now c.args.left_out (whole i) 1 cell (world_of (c.requires.world i))))
    (c.walk.ensures.gain_count ∙ ap length c.requires.gains ∙ length-replicate cells (pos 0))
    (c.walk.ensures.mass_count ∙ ap length c.requires.masses ∙ length-replicate cells 0)
