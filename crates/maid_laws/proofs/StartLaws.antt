-- What holds at a subgame start, along a list.
use Rattle.std.proofs.Common.{◌≡◌, ◌≢◌, ◌⊎◌, ◌∙◌, ℕ, suc, ◌<◌, ◌≤◌, Bool, true, false, List, [], ◌∷◌, take, length, slice_index, refl, sym, ap, inl, inr, arith}
use Rattle.std.proofs.Math.Decide.{dec_lt}
use Rattle.maid_model.specs.declared.diagrams.Kind.TheVariants.{Utility}
use Rattle.maid_model.specs.Graph.{IsGraph}
use Rattle.maid_model.specs.Nodes.{node_at, states_of}
use Rattle.maid_model.specs.Relevance.{ReliesOn}
use Rattle.maid_model.specs.Subgames.{IsListing, IsHistory, KeepsInformation, world_of_history}
use Rattle.maid_model.specs.Views.{NodeView}
use Rattle.maid_laws.specs.Starts.{LaterSeeAll, InformationKept, NoRelianceBack}
use Rattle.maid_laws.proofs.Histories.{in_start, in_start_at, start_at, at_take}
use Rattle.maid_laws.proofs.Listings.{range, closed, closed_up}
use Rattle.maid_laws.proofs.Members.{apart_of, among_index, contains_of, arc_of}
use Rattle.maid_laws.proofs.Notions.{OrderedGraph}
use Rattle.maid_laws.proofs.OrderLaws.{one_place}
use Rattle.maid_laws.proofs.Ordered.{setup_of}
use Rattle.maid_laws.proofs.Orders.{ordered}
use Rattle.maid_laws.proofs.Starts.{parent_of_later, no_reliance}

-- a list whose first members are those of another
same_front : (long short : List ℕ) → length short ≤ length long → ((j : ℕ) → j < length short → slice_index long j ≡ slice_index short j) → take (length short) long ≡ short
same_front long [] l h = refl
same_front [] (x ∷ short) l h = absurd (omega arith)
same_front (y ∷ long) (x ∷ short) l h = λ k. h 0 (omega arith) k ∷ same_front long short (omega arith) (λ j m. h (suc j) (omega arith)) k

module _ (nodes : List NodeView) (g : IsGraph nodes) (order start : List ℕ) (listing : IsListing nodes order) (history : IsHistory nodes order start) where
  -- members of the list are nodes
  inside : (j : ℕ) → j < length order → (slice_index order j < length nodes) × ((node_at nodes (slice_index order j)).kind ≢ Utility)
  inside j l = listing.within (slice_index order j) (contains_of (slice_index order j) order (among_index order j l))

  -- places of the history are places of the list
  longer : (j : ℕ) → j < length start → j < length order
  longer j l = let k : length start ≤ length order = history.within in omega arith

  -- a place at the history's end or later is no part of the start
  later : (i : ℕ) → length start ≤ i → i < length order → in_start order start (slice_index order i) ≡ false
  later i l m = go (in_start order start (slice_index order i)) refl
    where
      clash : in_start order start (slice_index order i) ≡ true → ⊥
      clash e =
          let k = start_at order start (slice_index order i) e in
          let less : k.0 < length start = k.1 in
          let same : k.0 ≡ i = one_place order (apart_of order listing.once) k.0 i k.2 m k.3 in
          omega arith

      go : (b : Bool) → in_start order start (slice_index order i) ≡ b → in_start order start (slice_index order i) ≡ false
      go true e = absurd (clash e)
      go false e = e

  -- a list of all nodes with parents first
  setup_order : OrderedGraph nodes
  setup_order = ordered nodes g

  -- what is live and no utility has two states
  more_states : (v : ℕ) → (node_at nodes v).kind ≢ Utility → ((node_at nodes v).kind ≡ Utility) ⊎ (1 < states_of nodes v) → 1 < states_of nodes v
  more_states v n (inl e) = absurd (n e)
  more_states v n (inr l) = l

  module _ (keeps : KeepsInformation nodes order start) where
    -- changing one state of a node that d does not see would leave the start
    pub sees_all : LaterSeeAll nodes order start
    sees_all i j lj li m k live =
        arc_of nodes (slice_index order j) (slice_index order i)
        (parent_of_later nodes setup_order.order (setup_of nodes setup_order) (in_start order start) (world_of_history order start) (range nodes g order start listing history)
        (closed_up nodes g order start listing history) (slice_index order i) (closed nodes g order start listing history keeps (slice_index order i) (later i li m) k.kind)
        (slice_index order j) (in_start_at order start j lj (longer j lj)) (more_states (slice_index order j) (inside j (longer j lj)).1 live.states))

    -- what d sees is given
    pub no_reliance_back : (i j : ℕ) → j < length start → length start ≤ i → i < length order → ReliesOn nodes (slice_index order i) (slice_index order j) → ⊥
    no_reliance_back i j lj li m r =
        no_reliance nodes setup_order.order (setup_of nodes setup_order) (in_start order start) (world_of_history order start) (range nodes g order start listing history)
        (closed_up nodes g order start listing history) (slice_index order i) (closed nodes g order start listing history keeps (slice_index order i) (later i li m) r.from_decision.kind)
        (slice_index order j) (in_start_at order start j lj (longer j lj)) r

  -- a node that is not live has one state
  pub keeps_if : LaterSeeAll nodes order start → KeepsInformation nodes order start
  keeps_if sees i a b li m k ha hb la lb agree ext =
      same_front b start (omega arith) (λ j l. at j l (dec_lt 1 (states_of nodes (slice_index order j))))
    where
      start_state : (j : ℕ) → j < length start → slice_index a j ≡ slice_index start j
      start_state j l = sym (at_take a (length start) j l) ∙ ap (λ x. slice_index x j) ext

      one_state : (x y n : ℕ) → x < n → y < n → ¬ (1 < n) → x ≡ y
      one_state x y n l h e = omega arith

      at : (j : ℕ) → j < length start → Dec (1 < states_of nodes (slice_index order j)) → slice_index b j ≡ slice_index start j
      at j l (yes more) =
          sym (agree j (omega arith) (sees i j l li m k (record { within = (inside j (longer j l)).0; states = inr more }))) ∙ start_state j l
      at j l (no n) = one_state (slice_index b j) (slice_index start j) (states_of nodes (slice_index order j)) (hb.each j (omega arith)) (history.each j l) n

-- both ways
pub kept_law : InformationKept
kept_law nodes order start g l h = (sees_all nodes g order start l h, keeps_if nodes g order start l h)

-- for every diagram
pub no_reliance_law : NoRelianceBack
no_reliance_law nodes order start g l h keeps = no_reliance_back nodes g order start l h keeps
