-- An active walk read from its other end, and the walks of a node's children.
use Rattle.std.proofs.Common.{◌≡◌, ◌↔◌, ℕ, List, [], ◌∷◌, refl, subst, inl, inr}
use Rattle.maid_model.specs.Graph.{Arc}
use Rattle.maid_model.specs.Relevance.{IsLive}
use Rattle.maid_model.specs.Walks.{IsJoined, IsCollider, IsActive, last_of, IsReached}
use Rattle.maid_laws.specs.Separation.{IsFixedBy}
use Rattle.maid_laws.specs.Walks.{WalksTurn, ChildrenJoin}
use Rattle.maid_laws.proofs.Booleans.{not_both}
use Rattle.maid_laws.proofs.Leads.{child, below_leads}
use Rattle.maid_laws.proofs.Members.{parent_of}
use Rattle.maid_laws.proofs.Notions.{IsParent, OrderedGraph}
use Rattle.maid_laws.proofs.Ordered.{setup_of}
use Rattle.maid_laws.proofs.Orders.{ordered}
use Rattle.maid_laws.proofs.Paths.{below_path}
use Rattle.maid_laws.proofs.Relies.{walk_of_steps}
use Rattle.maid_laws.proofs.SeparationLaws.{matters_steps}

module _ (Arc : ℕ → ℕ → Type 0) (Live Given : ℕ → Type 0) where
  -- arcs in either direction
  joined_turn : (x y : ℕ) → IsJoined Arc x y → IsJoined Arc y x
  joined_turn x y (inl h) = inr h
  joined_turn x y (inr h) = inl h

  -- heads that meet
  heads_turn : (x y z : ℕ) → (IsCollider Arc x y z ↔ Given y) → (IsCollider Arc z y x ↔ Given y)
  heads_turn x y z h = ((λ m. h.0 (m.1, m.0)), (λ g. let m = h.1 g in (m.1, m.0)))

  -- a walk begins with a live node
  first_live : (x : ℕ) (rest : List ℕ) → IsActive Arc Live Given (x ∷ rest) → Live x
  first_live x [] h = h
  first_live x (y ∷ []) h = h.0
  first_live x (y ∷ (z ∷ rest)) h = h.0

  -- where the two parts of a walk meet at x
  abbrev Meets : ℕ → List ℕ → List ℕ → Type 0
  Meets x [] done = Unit {0}
  Meets x (y ∷ todo) [] = Unit {0}
  Meets x (y ∷ todo) (z ∷ done) = IsCollider Arc y x z ↔ Given x

  -- x heads what is left to turn, and what was turned
  turn : (x : ℕ) (todo done : List ℕ) → IsActive Arc Live Given (x ∷ todo) → IsActive Arc Live Given (x ∷ done) → Meets x todo done
      → (out : List ℕ) × IsActive Arc Live Given (last_of x todo ∷ out) × (last_of (last_of x todo) out ≡ last_of x done)
  turn x [] done h k meet = (done, k, refl)
  turn x (y ∷ []) [] h k meet = (x ∷ [], (h.2, joined_turn x y h.1, h.0), refl)
  turn x (y ∷ []) (z ∷ done) h k meet = (x ∷ (z ∷ done), (h.2, joined_turn x y h.1, meet, k), refl)
  turn x (y ∷ (w ∷ todo)) [] h k meet =
      turn y (w ∷ todo) (x ∷ []) h.3 (first_live y (w ∷ todo) h.3, joined_turn x y h.1, h.0) (heads_turn x y w h.2)
  turn x (y ∷ (w ∷ todo)) (z ∷ done) h k meet =
      turn y (w ∷ todo) (x ∷ (z ∷ done)) h.3 (first_live y (w ∷ todo) h.3, joined_turn x y h.1, meet, k) (heads_turn x y w h.2)

  -- all of the walk is turned
  pub reached_turn : (x y : ℕ) → IsReached Arc Live Given x y → IsReached Arc Live Given y x
  reached_turn x y r =
      let t = turn x r.rest [] r.active (first_live x r.rest r.active) (no_meet x r.rest) in
      subst (λ z. IsReached Arc Live Given z x) r.ends (record { rest = t.0; active = t.1; ends = t.2 })
    where
      no_meet : (x : ℕ) (rest : List ℕ) → Meets x rest []
      no_meet x [] = tt
      no_meet x (y ∷ rest) = tt

-- at a diagram
pub turn_law : WalksTurn
turn_law nodes fixed = reached_turn (Arc nodes) (IsLive nodes) (IsFixedBy fixed)

-- a path below d is a walk, as none of its nodes is fixed
pub children_law : ChildrenJoin
children_law nodes fixed goal d v g u free a m =
    let o : OrderedGraph nodes = ordered nodes g in
    walk_of_steps nodes o.order (setup_of nodes o) (IsFixedBy fixed) (IsFixedBy fixed) (λ x. ((λ k. k), (λ k. k))) goal v u.within u.kind m.live.within m.live
    (below_leads (IsParent nodes) (IsLive nodes) (IsFixedBy fixed) goal d (λ x b e. not_both (fixed x) e (free x (below_path nodes b))) (matters_steps nodes fixed goal m) (child (parent_of nodes d v a)))
