-- The last two weighing nodes of a walk: the first state of the one before, from which the others
-- are counted.
use Rattle.std.proofs.Common.{◌≡◌, ◌≢◌, ◌∙◌, ℕ, ◌<◌, List, [], ◌∷◌, Some, set, get_or, refl, sym, ap, subst, inl, ℤ}
use Rattle.std.proofs.lemmas.List.{set-set}
use Rattle.finite_sums.specs.Sums.{with_state}
use Rattle.maid_model.specs.Diagrams.{IsDiagram}
use Rattle.maid_model.specs.Nodes.{counts_of}
use Rattle.maid_model.specs.Private.{MarksUtilities}
use Rattle.maid_model.specs.Profiles.{IsProfile}
use Rattle.maid_model.specs.Views.{DiagramView, NodeView, RuleView}
use Rattle.maid_model.specs.Worlds.{IsWorld, world_of}
use Rattle.maid_model.proofs.Picked.{world_length}
use Rattle.node_sets.specs.declared.sets.NodeSet.{NodeSet}
use Rattle.tree_checker.specs.Walks.{HasRoomToWalk, IsWeighedBefore, IsDownward, IsLast, MayBeBefore, last_nodes, with_before}
use Rattle.tree_checker.specs.declared.settings.Before.{Before}
use Rattle.tree_checker.specs.declared.settings.Last.{Last}
use Rattle.tree_checker.proofs.WalkSteps.{WalkSoFar, set_is_world, set_world, walk_start}

-- a node that weighs something before the last one: the nodes of the pair, what it is, and the room
-- that they need
module _ (last : Last) (before : Before) (is : last.before ≡ Some before) where
  pub pair_nodes : last_nodes last ≡ before.node ∷ last.node ∷ last.utility ∷ []
  pair_nodes = ap (λ b. with_before b (last.node ∷ last.utility ∷ [])) is

pub before_is : (nodes : List NodeView) (out : ℕ) (marks : NodeSet) (last : Last) (before : Before) → last.before ≡ Some before → IsLast nodes out marks last → IsWeighedBefore nodes out last.node last.utility before
before_is nodes out marks last before is h = subst (MayBeBefore nodes out last.node last.utility) is h.before

pub pair_room : (nodes : List NodeView) (p : List RuleView) (out m : ℕ) (q : ℤ) (gains : List ℤ) (masses : List ℕ) (last : Last) (before : Before) → last.before ≡ Some before
    → HasRoomToWalk nodes p out (last_nodes last) m q gains masses → HasRoomToWalk nodes p out (before.node ∷ last.node ∷ last.utility ∷ []) m q gains masses
pair_room nodes p out m q gains masses last before is room = subst (λ vs. HasRoomToWalk nodes p out vs m q gains masses) (pair_nodes last before is) room

module _ (d : DiagramView) (is : IsDiagram d) (p : List RuleView) (prof : IsProfile d.nodes p) (out : ℕ) (marks : NodeSet) (utilities : MarksUtilities d.nodes marks)
    (x v u : ℕ) (down : IsDownward d.nodes (x ∷ v ∷ u ∷ [])) (m : ℕ) (q : ℤ) (before : ℕ) (xs0 : List ℕ) (world0 : IsWorld (counts_of d.nodes) xs0) (gains0 : List ℤ) (masses0 : List ℕ)
    (room : HasRoomToWalk d.nodes p out (x ∷ v ∷ u ∷ []) m q gains0 masses0) (xs : List ℕ) (xs_is : xs ≡ set xs0 x 0) where
  pub pairs_start : before ≡ get_or xs0 x before → WalkSoFar d.nodes p out marks x (v ∷ u ∷ []) m q before xs0 gains0 masses0 xs gains0 masses0 0
  pairs_start before_at = record { back = ap (λ l. set l x before) xs_is ∙ set-set xs0 x 0 before ∙ as_it_was.back; gain = as_it_was.gain; mass = as_it_was.mass; gain_count = refl; mass_count = refl }
    where
      as_it_was : WalkSoFar d.nodes p out marks x (v ∷ u ∷ []) m q before xs0 gains0 masses0 xs0 gains0 masses0 0
      as_it_was = walk_start d is p prof out marks utilities x (v ∷ u ∷ []) down m q before xs0 world0 gains0 masses0 room xs0 before_at refl

  pub first_world : IsWorld (counts_of d.nodes) xs
  first_world = subst (IsWorld (counts_of d.nodes)) (sym xs_is) (set_is_world d.nodes xs0 x 0 world0 down.0 (is.graph.has_state x))

  pub first_is : world_of xs ≡ with_state (world_of xs0) x 0
  first_is = ap world_of xs_is ∙ set_world xs0 x 0 (subst (λ n. x < n) (sym (world_length d.nodes xs0 world0)) down.0)

  pub other : x ≢ v
  other = (down.1 v (inl refl)).0
