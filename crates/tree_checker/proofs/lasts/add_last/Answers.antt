use Rattle.std.proofs.Common.{◌≡◌, ◌∙◌, [], ◌∷◌, ap, subst, sym, pos, ◌+ℤ◌, slice_index, slice_index_or, to_z, of_z}
use Rattle.std.proofs.lemmas.Int.{to_z-of_z}
use Rattle.std.specs.Int.{w128}
use Rattle.maid_model.specs.Worlds.{world_of}
use Rattle.tree_checker.specs.Walks.{HasRoomToWalk, IsDownward, gain_with, last_nodes, mass_with, with_before}
use Rattle.tree_checker.proofs.WalkOpened.{room_same}
use Rattle.tree_checker.proofs.lasts.add_last.Goals as goal

pub add_pairs-requires : goal.add_pairs-requires
add_pairs-requires c =
    let same_sum : to_z w128 (of_z w128 c.args.utility) ≡ c.args.utility = to_z-of_z w128 c.args.utility c.ranges.utility in
    record {
      setting = c.requires.setting;
      last = c.requires.last;
      before = c.in-Some.is;
      order = (subst (λ b. IsDownward c.args.setting.now.diagram.now.nodes (with_before b (c.args.last.now.node ∷ c.args.last.now.utility ∷ []))) c.in-Some.is c.requires.order);
      world = c.requires.world;
      gains = c.requires.gains;
      masses = c.requires.masses;
      room = room_same c.args.setting.now.diagram.now.nodes c.args.setting.now.profile.now c.args.setting.now.left_out (last_nodes c.args.last.now) c.args.product c.args.gains.now c.args.masses.now same_sum c.requires.room;
    }

pub places_at-places-requires-clause-node : goal.places_at-places-requires-clause-node
places_at-places-requires-clause-node c =
    (subst (λ b. IsDownward c.args.setting.now.diagram.now.nodes (with_before b (c.args.last.now.node ∷ c.args.last.now.utility ∷ []))) c.in-None.is c.requires.order).0

pub places_at-places-requires-clause-utility : goal.places_at-places-requires-clause-utility
places_at-places-requires-clause-utility c =
    (subst (λ b. IsDownward c.args.setting.now.diagram.now.nodes (with_before b (c.args.last.now.node ∷ c.args.last.now.utility ∷ []))) c.in-None.is c.requires.order).2.0

pub add_states-requires : goal.add_states-requires
add_states-requires c =
    let same_sum : to_z w128 (of_z w128 c.args.utility) ≡ c.args.utility = to_z-of_z w128 c.args.utility c.ranges.utility in
    record {
      setting = c.requires.setting;
      last = c.requires.last;
      order = (subst (λ b. IsDownward c.args.setting.now.diagram.now.nodes (with_before b (c.args.last.now.node ∷ c.args.last.now.utility ∷ []))) c.in-None.is c.requires.order);
      world = c.requires.world;
      places = c.places_at-places.ensures;
      gains = c.requires.gains;
      masses = c.requires.masses;
      room = (subst (λ b. HasRoomToWalk c.args.setting.now.diagram.now.nodes c.args.setting.now.profile.now c.args.setting.now.left_out (with_before b (c.args.last.now.node ∷ c.args.last.now.utility ∷ [])) c.args.product (to_z w128 (of_z w128 c.args.utility)) c.args.gains.now c.args.masses.now) c.in-None.is (room_same c.args.setting.now.diagram.now.nodes c.args.setting.now.profile.now c.args.setting.now.left_out (with_before c.args.last.now.before (c.args.last.now.node ∷ c.args.last.now.utility ∷ [])) c.args.product c.args.gains.now c.args.masses.now same_sum c.requires.room));
    }

pub returns-in-Some : goal.returns-in-Some
returns-in-Some c =
    let same_sum : to_z w128 (of_z w128 c.args.utility) ≡ c.args.utility = to_z-of_z w128 c.args.utility c.ranges.utility in
    record {
      again = c.add_pairs.ensures.again;
      gains = λ cell. c.add_pairs.ensures.gains cell ∙ ap (λ z. slice_index_or c.args.gains.now cell (pos 0) +ℤ gain_with c.args.setting.now.diagram.now.nodes c.args.setting.now.profile.now c.args.setting.now.left_out c.args.setting.now.marks.now (last_nodes c.args.last.now) c.args.product z cell (world_of c.args.world.now)) same_sum;
      masses = c.add_pairs.ensures.masses;
      gain_count = c.add_pairs.ensures.gain_count;
      mass_count = c.add_pairs.ensures.mass_count;
    }

pub returns-in-None : goal.returns-in-None
returns-in-None c =
    let same_sum : to_z w128 (of_z w128 c.args.utility) ≡ c.args.utility = to_z-of_z w128 c.args.utility c.ranges.utility in
    record {
      again = λ i. c.args.world.now;
      gains = λ cell. c.add_states.ensures.gains cell ∙ (λ i. slice_index_or c.args.gains.now cell (pos 0) +ℤ gain_with c.args.setting.now.diagram.now.nodes c.args.setting.now.profile.now c.args.setting.now.left_out c.args.setting.now.marks.now (with_before (sym c.in-None.is i) (c.args.last.now.node ∷ c.args.last.now.utility ∷ [])) c.args.product (same_sum i) cell (world_of c.args.world.now));
      masses = λ cell. c.add_states.ensures.masses cell ∙ (λ i. pos (slice_index c.args.masses.now cell) +ℤ mass_with c.args.setting.now.diagram.now.nodes c.args.setting.now.profile.now c.args.setting.now.left_out (with_before (sym c.in-None.is i) (c.args.last.now.node ∷ c.args.last.now.utility ∷ [])) c.args.product cell (world_of c.args.world.now));
      gain_count = c.add_states.ensures.gain_count;
      mass_count = c.add_states.ensures.mass_count;
    }
