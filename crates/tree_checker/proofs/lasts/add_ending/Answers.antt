use Rattle.std.proofs.Common.{◌≡◌, ◌∙◌, [], subst, ap, refl, sym, pos, ◌+ℤ◌, slice_index, slice_index_or, to_z, of_z}
use Rattle.std.proofs.lemmas.Int.{to_z-of_z}
use Rattle.std.specs.Int.{w128}
use Rattle.maid_model.specs.Worlds.{world_of}
use Rattle.tree_checker.specs.Walks.{HasRoomToWalk, IsDownward, IsEnding, ending, gain_with, mass_with}
use Rattle.tree_checker.proofs.WalkOpened.{room_same}
use Rattle.tree_checker.proofs.WalkTails.{ended_gain, ended_mass, tail_room}
use Rattle.tree_checker.proofs.lasts.add_ending.Goals as goal

pub add_last-requires : goal.add_last-requires
add_last-requires c =
    let same_sum : to_z w128 (of_z w128 c.args.utility) ≡ c.args.utility = to_z-of_z w128 c.args.utility c.ranges.utility in
    record {
      setting = c.requires.setting;
      last = (subst (λ l. IsEnding c.args.setting.now.diagram.now.nodes c.args.setting.now.left_out c.args.setting.now.marks.now l c.args.setting.now.tail.now) c.in-Some.is c.requires.ending);
      order = (subst (λ l. IsDownward c.args.setting.now.diagram.now.nodes (ending l c.args.setting.now.tail.now)) c.in-Some.is c.requires.order);
      world = c.requires.world;
      gains = c.requires.gains;
      masses = c.requires.masses;
      room = (subst (λ l. HasRoomToWalk c.args.setting.now.diagram.now.nodes c.args.setting.now.profile.now c.args.setting.now.left_out (ending l c.args.setting.now.tail.now) c.args.product (to_z w128 (of_z w128 c.args.utility)) c.args.gains.now c.args.masses.now) c.in-Some.is (room_same c.args.setting.now.diagram.now.nodes c.args.setting.now.profile.now c.args.setting.now.left_out (ending c.args.setting.now.last c.args.setting.now.tail.now) c.args.product c.args.gains.now c.args.masses.now same_sum c.requires.room));
    }

pub add_world-requires : goal.add_world-requires
add_world-requires c =
    let same_sum : to_z w128 (of_z w128 c.args.utility) ≡ c.args.utility = to_z-of_z w128 c.args.utility c.ranges.utility in
    record {
      setting = c.requires.setting;
      tail = (subst (λ l. IsDownward c.args.setting.now.diagram.now.nodes (ending l c.args.setting.now.tail.now)) c.in-None.is c.requires.order);
      world = c.requires.world;
      gains = c.requires.gains;
      masses = c.requires.masses;
      room = tail_room c.args.setting.now.diagram.now c.requires.setting.diagram c.args.setting.now.profile.now c.requires.setting.profile c.args.setting.now.left_out c.args.setting.now.marks.now c.requires.setting.marked c.args.setting.now.tail.now c.args.product (to_z w128 (of_z w128 c.args.utility)) c.args.gains.now c.args.masses.now (subst (λ l. HasRoomToWalk c.args.setting.now.diagram.now.nodes c.args.setting.now.profile.now c.args.setting.now.left_out (ending l c.args.setting.now.tail.now) c.args.product (to_z w128 (of_z w128 c.args.utility)) c.args.gains.now c.args.masses.now) c.in-None.is (room_same c.args.setting.now.diagram.now.nodes c.args.setting.now.profile.now c.args.setting.now.left_out (ending c.args.setting.now.last c.args.setting.now.tail.now) c.args.product c.args.gains.now c.args.masses.now same_sum c.requires.room));
    }

pub returns-in-Some : goal.returns-in-Some
returns-in-Some c =
    let same_sum : to_z w128 (of_z w128 c.args.utility) ≡ c.args.utility = to_z-of_z w128 c.args.utility c.ranges.utility in
    record {
      again = c.add_last.ensures.again;
      gains = λ cell. c.add_last.ensures.gains cell ∙ (λ i. slice_index_or c.args.gains.now cell (pos 0) +ℤ gain_with c.args.setting.now.diagram.now.nodes c.args.setting.now.profile.now c.args.setting.now.left_out c.args.setting.now.marks.now (ending (sym c.in-Some.is i) c.args.setting.now.tail.now) c.args.product (same_sum i) cell (world_of c.args.world.now));
      masses = λ cell. c.add_last.ensures.masses cell ∙ (λ i. pos (slice_index c.args.masses.now cell) +ℤ mass_with c.args.setting.now.diagram.now.nodes c.args.setting.now.profile.now c.args.setting.now.left_out (ending (sym c.in-Some.is i) c.args.setting.now.tail.now) c.args.product cell (world_of c.args.world.now));
      gain_count = c.add_last.ensures.gain_count;
      mass_count = c.add_last.ensures.mass_count;
    }

pub returns-in-None : goal.returns-in-None
returns-in-None c =
    let same_sum : to_z w128 (of_z w128 c.args.utility) ≡ c.args.utility = to_z-of_z w128 c.args.utility c.ranges.utility in
    record {
      again = λ i. c.args.world.now;
      gains = λ cell. c.add_world.ensures.gains cell
          ∙ ap (λ z. slice_index_or c.args.gains.now cell (pos 0) +ℤ z) (ended_gain c.args.setting.now.diagram.now c.requires.setting.diagram c.args.setting.now.profile.now c.requires.setting.profile c.args.setting.now.left_out c.args.setting.now.marks.now c.requires.setting.marked [] c.args.setting.now.tail.now refl (subst (λ l. IsEnding c.args.setting.now.diagram.now.nodes c.args.setting.now.left_out c.args.setting.now.marks.now l c.args.setting.now.tail.now) c.in-None.is c.requires.ending) (subst (λ l. IsDownward c.args.setting.now.diagram.now.nodes (ending l c.args.setting.now.tail.now)) c.in-None.is c.requires.order) c.args.product c.args.utility (to_z w128 (of_z w128 c.args.utility)) same_sum c.args.world.now c.requires.world c.args.gains.now c.args.masses.now (subst (λ l. HasRoomToWalk c.args.setting.now.diagram.now.nodes c.args.setting.now.profile.now c.args.setting.now.left_out (ending l c.args.setting.now.tail.now) c.args.product c.args.utility c.args.gains.now c.args.masses.now) c.in-None.is c.requires.room) cell)
          ∙ (λ i. slice_index_or c.args.gains.now cell (pos 0) +ℤ gain_with c.args.setting.now.diagram.now.nodes c.args.setting.now.profile.now c.args.setting.now.left_out c.args.setting.now.marks.now (ending (sym c.in-None.is i) c.args.setting.now.tail.now) c.args.product c.args.utility cell (world_of c.args.world.now));
      masses = λ cell. c.add_world.ensures.masses cell
          ∙ ap (λ z. pos (slice_index c.args.masses.now cell) +ℤ z) (ended_mass c.args.setting.now.diagram.now c.requires.setting.diagram c.args.setting.now.profile.now c.requires.setting.profile c.args.setting.now.left_out c.args.setting.now.marks.now c.requires.setting.marked [] c.args.setting.now.tail.now refl (subst (λ l. IsEnding c.args.setting.now.diagram.now.nodes c.args.setting.now.left_out c.args.setting.now.marks.now l c.args.setting.now.tail.now) c.in-None.is c.requires.ending) (subst (λ l. IsDownward c.args.setting.now.diagram.now.nodes (ending l c.args.setting.now.tail.now)) c.in-None.is c.requires.order) c.args.product c.args.utility c.args.world.now c.requires.world c.args.gains.now c.args.masses.now (subst (λ l. HasRoomToWalk c.args.setting.now.diagram.now.nodes c.args.setting.now.profile.now c.args.setting.now.left_out (ending l c.args.setting.now.tail.now) c.args.product c.args.utility c.args.gains.now c.args.masses.now) c.in-None.is c.requires.room) cell)
          ∙ (λ i. pos (slice_index c.args.masses.now cell) +ℤ mass_with c.args.setting.now.diagram.now.nodes c.args.setting.now.profile.now c.args.setting.now.left_out (ending (sym c.in-None.is i) c.args.setting.now.tail.now) c.args.product cell (world_of c.args.world.now));
      gain_count = c.add_world.ensures.gain_count;
      mass_count = c.add_world.ensures.mass_count;
    }
