-- The closed marks of a search are what active walks reach.
use Rattle.std.proofs.Common.{◌≡◌, ℕ, ◌<◌, List, [], length, ◌⊎◌, ◌↔◌, inl, inr, refl, subst, sym, ◌∙◌, arith}
use Rattle.std.specs.Prelude.{Contains}
use Rattle.std.proofs.lemmas.List.{get_or_past}
use Rattle.maid_model.specs.Views.{NodeView}
use Rattle.maid_model.specs.Nodes.{no_node}
use Rattle.maid_model.specs.Graph.{Arc, IsGraph, Here, Along, IsAcyclic}
use Rattle.maid_model.specs.Relevance.{IsLive}
use Rattle.maid_model.specs.Walks.{IsReached, IsReachedFromParent}
use Rattle.node_sets.specs.declared.sets.NodeSet.{NodeSet}
use Rattle.node_sets.specs.Sets.{IsIn}
use Rattle.bayes_ball.specs.Search.{CanStart, IsReachedBy}
use Rattle.bayes_ball.specs.declared.search.Start.{Start}
use Rattle.bayes_ball.specs.declared.search.Start.TheVariants.{Node, ParentOf}
use Rattle.bayes_ball.specs.Flow.{Way, Up, Down, Flows, Begin, Forward, Back, Bounce, IsClosed}
use Rattle.bayes_ball.specs.Spread.{IsMarked, LiveArc, LeadsUp, StartsAt, node_of}
use Rattle.bayes_ball.proofs.Turning.{reached_turn}
use Rattle.bayes_ball.proofs.Walking.{FromNodes, flows_walk, walk_reached, reached_marked, flows_reached_from_parent, reached_marked_from_parent, reached_goes_up, goes_up_reached}

-- the marks that the rules make of the start, in a diagram
pub record IsSearched (nodes : List NodeView) (given : NodeSet) (Start : Way → ℕ → Type 0) (down up : NodeSet) : Type 0 where
  pub graph : IsGraph nodes
  pub given_within : (v : ℕ) → IsIn given v → v < length nodes
  pub live : (w : Way) (v : ℕ) → Start w v → IsLive nodes v
  pub starts : (w : Way) (v : ℕ) → Start w v → IsMarked down up w v
  pub sound : (w : Way) (v : ℕ) → IsMarked down up w v → Flows (LiveArc nodes) (IsIn given) Start w v
  pub closed : IsClosed (LiveArc nodes) (IsIn given) (IsMarked down up)

pub one_way : (Arc : ℕ → ℕ → Type 0) → IsAcyclic Arc → (a b : ℕ) → Arc a b → Arc b a → ⊥
one_way Arc acyclic a b h k = acyclic a (b, h, Along k Here)

flows_live : (nodes : List NodeView) {Given : ℕ → Type 0} {Start : Way → ℕ → Type 0} {w : Way} {v : ℕ} → ((w : Way) (v : ℕ) → Start w v → IsLive nodes v) → Flows (LiveArc nodes) Given Start w v → IsLive nodes v
flows_live nodes s (Begin h) = s _ _ h
flows_live nodes s (Forward a n f) = a.2
flows_live nodes s (Back a n f) = a.1
flows_live nodes s (Bounce a g f) = a.1

pub flows_start : {Arc : ℕ → ℕ → Type 0} {Given : ℕ → Type 0} {Start Next : Way → ℕ → Type 0} {w : Way} {v : ℕ} →
    ((w : Way) (v : ℕ) → Start w v → Next w v) → Flows Arc Given Start w v → Flows Arc Given Next w v
flows_start s (Begin h) = Begin (s _ _ h)
flows_start s (Forward a n f) = Forward a n (flows_start s f)
flows_start s (Back a n f) = Back a n (flows_start s f)
flows_start s (Bounce a g f) = Bounce a g (flows_start s f)

-- from a node of the set an active walk leads to each mark that spreads from there
pub flows_reached : (nodes : List NodeView) (given : NodeSet) (Start : ℕ → Type 0) → IsGraph nodes → ((a : ℕ) → Start a → IsLive nodes a) →
    (w : Way) (v : ℕ) → Flows (LiveArc nodes) (IsIn given) (FromNodes Start) w v → (u : ℕ) × Start u × IsReached (Arc nodes) (IsLive nodes) (IsIn given) u v
flows_reached nodes given Start graph live w v flows =
    let f = one_way (Arc nodes) graph.acyclic in
    let r = walk_reached (Arc nodes) (IsLive nodes) (IsIn given) f Start w v (flows_walk (Arc nodes) (IsLive nodes) (IsIn given) f Start live w v flows) in
    (r.0, r.1, reached_turn (Arc nodes) (IsLive nodes) (IsIn given) v r.0 r.2)

swap_marks : {A B : Type 0} → A ⊎ B → B ⊎ A
swap_marks (inl a) = inr a
swap_marks (inr b) = inl b

module _ (nodes : List NodeView) (given : NodeSet) (Start : Way → ℕ → Type 0) (down up : NodeSet) (h : IsSearched nodes given Start down up) where
  abbrev new : ℕ
  new = length nodes

  arcs_one_way : (a b : ℕ) → Arc nodes a b → Arc nodes b a → ⊥
  arcs_one_way = one_way (Arc nodes) h.graph.acyclic

  no_child : (b : ℕ) → Arc nodes new b → ⊥
  no_child b a = let l = h.graph.parents_known new b a in omega arith

  no_parent : (a : ℕ) → Arc nodes a new → ⊥
  no_parent a arc =
      let k : Contains [] a = subst (λ (n : NodeView). Contains n.parents a) (get_or_past nodes new no_node (omega arith)) arc in
      let l = k.1 in omega arith

  new_free : IsIn given new → ⊥
  new_free m = let l = h.given_within new m in omega arith

  live_old : (v : ℕ) → IsLive nodes v → v ≡ new → ⊥
  live_old v l e = let k = l.within in omega arith

  marked_live : (w : Way) (v : ℕ) → IsMarked down up w v → IsLive nodes v
  marked_live w v m = flows_live nodes h.live (h.sound w v m)

  pub goes_up_live : (v : ℕ) → LeadsUp given down up v → IsLive nodes v
  goes_up_live v (inl m) = marked_live Down v m.1
  goes_up_live v (inr m) = marked_live Up v m.1

-- a search from nodes of a set
module _ (nodes : List NodeView) (given : NodeSet) (Start : ℕ → Type 0) (down up : NodeSet) (h : IsSearched nodes given (FromNodes Start) down up)
    (free : (a : ℕ) → Start a → IsIn given a → ⊥) where
  start_live : (a : ℕ) → Start a → IsLive nodes a
  start_live a s = h.live Up a (refl, s)

  ways : (w : Way) (v : ℕ) → IsMarked down up w v → (u : ℕ) × Start u × IsReached (Arc nodes) (IsLive nodes) (IsIn given) u v
  ways w v m = flows_reached nodes given Start h.graph start_live w v (h.sound w v m)

  pub reached_from_any : (v : ℕ) → (IsIn down v ⊎ IsIn up v) ↔ ((u : ℕ) × Start u × IsReached (Arc nodes) (IsLive nodes) (IsIn given) u v)
  reached_from_any v = (
    elim [ inl m ↦ ways Down v m | inr m ↦ ways Up v m ],
    (λ r. swap_marks (reached_marked (Arc nodes) (IsLive nodes) (IsIn given) (arcs_one_way nodes given (FromNodes Start) down up h) (IsMarked down up) h.closed v r.0 (free r.0 r.1)
        (h.starts Up r.0 (refl, r.1)) (reached_turn (Arc nodes) (IsLive nodes) (IsIn given) r.0 v r.2))),
  )

  pub parents_reached_from_any : (v : ℕ) → v < length nodes → LeadsUp given down up v ↔ ((u : ℕ) × Start u × IsReachedFromParent (Arc nodes) (IsLive nodes) (IsIn given) (length nodes) v u)
  parents_reached_from_any v within =
      let S = FromNodes Start in
      let f = arcs_one_way nodes given S down up h in
      let a = no_child nodes given S down up h in
      let b = no_parent nodes given S down up h in
      let apart : v ≡ length nodes → ⊥ = λ e. omega arith in
      let c = new_free nodes given S down up h in (
        (λ m. goes_up_reached (Arc nodes) (IsLive nodes) (IsIn given) f (length nodes) v a b apart c (goes_up_live nodes given S down up h v m) Start start_live
            (elim m as (λ _. (IsIn given v × Flows (LiveArc nodes) (IsIn given) S Down v) ⊎ ((IsIn given v → ⊥) × Flows (LiveArc nodes) (IsIn given) S Up v)) [
              | inl k ↦ inl (k.0, h.sound Down v k.1)
              | inr k ↦ inr (k.0, h.sound Up v k.1)
            ])),
        (λ r. reached_goes_up (Arc nodes) (IsLive nodes) (IsIn given) f (length nodes) v a b apart c (IsMarked down up) h.closed
            (λ w m. live_old nodes given S down up h (length nodes) (marked_live nodes given S down up h w (length nodes) m) refl)
            r.0 (free r.0 r.1) (h.starts Up r.0 (refl, r.1)) r.2),
      )

-- a search from an extra parent
pub reached_from_parent : (nodes : List NodeView) (given : NodeSet) (x : ℕ) (down up : NodeSet) → IsSearched nodes given (λ w v. (w ≡ Down) × (v ≡ x)) down up →
    (v : ℕ) → v < length nodes → (IsIn down v ⊎ IsIn up v) ↔ IsReachedFromParent (Arc nodes) (IsLive nodes) (IsIn given) (length nodes) x v
reached_from_parent nodes given x down up h v within =
    let S : Way → ℕ → Type 0 = λ w v. (w ≡ Down) × (v ≡ x) in
    let f = arcs_one_way nodes given S down up h in
    let a = no_child nodes given S down up h in
    let b = no_parent nodes given S down up h in
    let live : IsLive nodes x = h.live Down x (refl, refl) in
    let apart = live_old nodes given S down up h x live in
    let c = new_free nodes given S down up h in
    let walk = λ (w : Way) (m : IsMarked down up w v). flows_reached_from_parent (Arc nodes) (IsLive nodes) (IsIn given) f (length nodes) x a b apart c live w v (h.sound w v m) in (
      elim [ inl m ↦ walk Down m | inr m ↦ walk Up m ],
      (λ r. swap_marks (reached_marked_from_parent (Arc nodes) (IsLive nodes) (IsIn given) f (length nodes) x a b apart c (IsMarked down up) h.closed (h.starts Down x (refl, refl)) v (λ e. omega arith) r)),
    )

pub same_fact : {A B C : Type 0} → A ↔ B → B ↔ C → A ↔ C
same_fact f g = ((λ a. g.0 (f.0 a)), (λ c. f.1 (g.1 c)))

module _ (nodes : List NodeView) (given : NodeSet) where
  pub start_within : (start : Start) → CanStart nodes given start → node_of start < length nodes
  start_within (Node x) can = can.0.within
  start_within (ParentOf x) can = can.within

  start_live_by : (start : Start) → CanStart nodes given start → (w : Way) (v : ℕ) → StartsAt start w v → IsLive nodes v
  start_live_by (Node x) can w v s = subst (λ y. IsLive nodes y) (sym s.1) can.0
  start_live_by (ParentOf x) can w v s = subst (λ y. IsLive nodes y) (sym s.1) can

  pub searched_by : (start : Start) (down up down' up' : NodeSet) → IsGraph nodes → ((v : ℕ) → IsIn given v → v < length nodes) → CanStart nodes given start →
      ((w : Way) (v : ℕ) → IsMarked down up w v ↔ StartsAt start w v) →
      ((w : Way) (v : ℕ) → IsMarked down up w v → IsMarked down' up' w v) →
      ((w : Way) (v : ℕ) → IsMarked down' up' w v → Flows (LiveArc nodes) (IsIn given) (IsMarked down up) w v) →
      IsClosed (LiveArc nodes) (IsIn given) (IsMarked down' up') → IsSearched nodes given (StartsAt start) down' up'
  searched_by start down up down' up' graph given_known can begins kept sound closed = record {
    graph = graph;
    given_within = given_known;
    live = start_live_by start can;
    starts = λ w v s. kept w v ((begins w v).1 s);
    sound = λ w v m. flows_start (λ w v m. (begins w v).0 m) (sound w v m);
    closed = closed;
  }

  pub reached_by : (start : Start) (down up : NodeSet) → CanStart nodes given start → IsSearched nodes given (StartsAt start) down up →
      (v : ℕ) → v < length nodes → (IsIn down v ⊎ IsIn up v) ↔ IsReachedBy nodes given start v
  reached_by (Node x) down up can h v within =
      let r = reached_from_any nodes given (λ y. y ≡ x) down up h (λ a e. subst (λ y. IsIn given y → ⊥) (sym e) can.1) v in (
        (λ m. let w = r.0 m in subst (λ y. IsReached (Arc nodes) (IsLive nodes) (IsIn given) y v) w.1 w.2),
        (λ w. r.1 (x, refl, w)),
      )
  reached_by (ParentOf x) down up can h v within = reached_from_parent nodes given x down up h v within

  pub parents_reached_by : (start : Start) (down up : NodeSet) → CanStart nodes given start → IsSearched nodes given (StartsAt start) down up →
      (u v : ℕ) → start ≡ Node u → v < length nodes → LeadsUp given down up v ↔ IsReachedFromParent (Arc nodes) (IsLive nodes) (IsIn given) (length nodes) v u
  parents_reached_by (Node x) down up can h u v e within =
      let same : x ≡ u = cc in
      let r = parents_reached_from_any nodes given (λ y. y ≡ x) down up h (λ a e. subst (λ y. IsIn given y → ⊥) (sym e) can.1) v within in (
        (λ m. let w = r.0 m in subst (λ y. IsReachedFromParent (Arc nodes) (IsLive nodes) (IsIn given) (length nodes) v y) (w.1 ∙ same) w.2),
        (λ w. r.1 (u, sym same, w)),
      )
  parents_reached_by (ParentOf x) down up can h u v e within = cc

-- a walk arrives up an arc at each start, and down an arc nowhere
pub begins_at : (down starts : NodeSet) → ((v : ℕ) → IsIn down v → ⊥) → (w : Way) (v : ℕ) → IsMarked down starts w v ↔ FromNodes (IsIn starts) w v
begins_at down starts none Up v = ((λ m. (refl, m)), (λ h. h.1))
begins_at down starts none Down v = ((λ m. absurd (none v m)), (λ h. cc))

pub searched_from_any : (nodes : List NodeView) (given starts down up down' up' : NodeSet) → IsGraph nodes → ((v : ℕ) → IsIn given v → v < length nodes) →
    ((u : ℕ) → IsIn starts u → CanStart nodes given (Node u)) → ((w : Way) (v : ℕ) → IsMarked down up w v ↔ FromNodes (IsIn starts) w v) →
    ((w : Way) (v : ℕ) → IsMarked down up w v → IsMarked down' up' w v) →
    ((w : Way) (v : ℕ) → IsMarked down' up' w v → Flows (LiveArc nodes) (IsIn given) (IsMarked down up) w v) →
    IsClosed (LiveArc nodes) (IsIn given) (IsMarked down' up') → IsSearched nodes given (FromNodes (IsIn starts)) down' up'
searched_from_any nodes given starts down up down' up' graph given_known can begins kept sound closed = record {
  graph = graph;
  given_within = given_known;
  live = λ w v s. (can v s.1).0;
  starts = λ w v s. kept w v ((begins w v).1 s);
  sound = λ w v m. flows_start (λ w v m. (begins w v).0 m) (sound w v m);
  closed = closed;
}
