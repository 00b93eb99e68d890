-- What is kept of a search stands where all that it looked at is the same.
use Rattle.std.proofs.Common.{◌≡◌, ℕ, ◌<◌, List, [], ◌∷◌, Contains, inl, inr, length, subst, sym}
use Rattle.std.proofs.Math.Path.{fun_ext}
use Rattle.maid_model.specs.Graph.{Arc}
use Rattle.maid_model.specs.Nodes.{parents_of}
use Rattle.maid_model.specs.Relevance.{IsInFamily, IsLive}
use Rattle.maid_model.specs.Views.{NodeView}
use Rattle.maid_model.specs.Walks.{IsActive, IsReachedFromParent, WithArc, WithNode}
use Rattle.relevance_graph.specs.declared.searches.KeptSearch.{KeptSearch}
use Rattle.relevance_graph.specs.Kept.{IsKeptSearch, KeepsSearches, WalksToGoalsStand}

-- a walk is as active where the same nodes are live, and more
active_more : (Arc : ℕ → ℕ → Type 0) (Live More Given : ℕ → Type 0) → ((x : ℕ) → Live x → More x) → (walk : List ℕ) → IsActive Arc Live Given walk → IsActive Arc More Given walk
active_more Arc Live More Given f [] h = h
active_more Arc Live More Given f (x ∷ []) h = f x h
active_more Arc Live More Given f (x ∷ (y ∷ [])) h = (f x h.0, h.1, f y h.2)
active_more Arc Live More Given f (x ∷ (y ∷ (z ∷ rest))) h = (f x h.0, h.1, h.2, active_more Arc Live More Given f (y ∷ (z ∷ rest)) h.3)

-- so is a walk from an extra parent
parent_more : (Arc : ℕ → ℕ → Type 0) (Live More Given : ℕ → Type 0) (new v to : ℕ) → ((x : ℕ) → Live x → More x) → IsReachedFromParent Arc Live Given new v to → IsReachedFromParent Arc More Given new v to
parent_more Arc Live More Given new v to f h = record { rest = h.rest; active = active_more (WithArc Arc new v) (WithNode Live new) (WithNode More new) Given there (new ∷ h.rest) h.active; ends = h.ends }
  where
    there : (x : ℕ) → WithNode Live new x → WithNode More new x
    there x (inl l) = inl (f x l)
    there x (inr e) = inr e

-- a walk to a goal of a decision is one where the arcs are the same and the same nodes are live
walk_there : (nodes others : List NodeView) (d e goal : ℕ) → parents_of nodes ≡ parents_of others → length nodes ≡ length others → ((v : ℕ) → IsLive nodes v → IsLive others v)
    → IsReachedFromParent (Arc nodes) (IsLive nodes) (IsInFamily (Arc nodes) d) (length nodes) e goal → IsReachedFromParent (Arc others) (IsLive others) (IsInFamily (Arc others) d) (length others) e goal
walk_there nodes others d e goal p n f h =
    subst (λ l. IsReachedFromParent (Arc others) (IsLive others) (IsInFamily (Arc others) d) l e goal) n
    (parent_more (Arc others) (IsLive nodes) (IsLive others) (IsInFamily (Arc others) d) (length nodes) e goal f
    (subst (λ (parents : ℕ → List ℕ). IsReachedFromParent (λ u v. Contains (parents v) u) (IsLive nodes) (IsInFamily (λ u v. Contains (parents v) u) d) (length nodes) e goal) p h))

pub walks_there : WalksToGoalsStand
walks_there nodes others d e k is = (
  (λ r. (r.0, (k.goal d r.0 is).1 r.1, walk_there nodes others d e r.0 parents (sym k.count) (λ v. (k.live v).1) r.2)),
  (λ r. (r.0, (k.goal d r.0 is).0 r.1, walk_there others nodes d e r.0 (sym parents) k.count (λ v. (k.live v).0) r.2)),
)
  where
    parents : parents_of nodes ≡ parents_of others
    parents = fun_ext (λ v. sym (k.parents v))

pub search_there : (nodes others : List NodeView) (kept : KeptSearch) → KeepsSearches nodes others → IsKeptSearch nodes kept → IsKeptSearch others kept
search_there nodes others kept k h = record {
  decision = k.decision kept.decision h.decision;
  marks = λ e l.
      let told = h.marks e (subst (λ n. e < n) k.count l) in
      let same = walks_there nodes others kept.decision e k h.decision in
      ((λ m. same.0 (told.0 m)), (λ r. told.1 (same.1 r)));
}
