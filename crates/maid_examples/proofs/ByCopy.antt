-- The answer by a copy: who relies on whom, the bases, and the rows by computation.
use Rattle.std.proofs.Common.{◌≡◌, ◌⊎◌, ◌↔◌, ℕ, zero, suc, ◌<◌, [], ◌∷◌, refl, sym, subst, inl, inr, arith}
use Rattle.maid_model.specs.declared.diagrams.Kind.TheVariants.{Decision, Utility}
use Rattle.maid_model.specs.Laws.{TestsDiagrams}
use Rattle.maid_model.specs.Nodes.{IsDecision}
use Rattle.maid_model.specs.Graph.{Arc, Here, IsGraph}
use Rattle.maid_model.specs.Relevance.{IsLive, IsInFamily, IsGoal, ReliesOn}
use Rattle.maid_model.specs.Walks.{WithArc, WithNode, IsJoined, IsCollider}
use Rattle.maid_examples.specs.CopyAnswered.{trace, trace_diagram, HasReliance}
use Rattle.maid_examples.proofs.Members.{Among, among_of}
use Rattle.maid_examples.proofs.Reliance.{decision, live, relies}
use Rattle.maid_examples.proofs.Turning.{end_of_walk}
use Rattle.finite_sums.proofs.Members.{one_member}

pub leads : IsDecision trace 0
leads = decision trace 0 (omega arith) refl

pub follows : IsDecision trace 2
follows = decision trace 2 (omega arith) refl

pub one_of : (v : ℕ) → IsDecision trace v → (v ≡ 0) ⊎ (v ≡ 2)
one_of zero k = inl refl
one_of (suc zero) k = let e = k.kind in absurd (cc)
one_of (suc (suc zero)) k = inr refl
one_of (suc (suc (suc zero))) k = let e = k.kind in absurd (cc)
one_of (suc (suc (suc (suc zero)))) k = let e = k.kind in absurd (cc)
one_of (suc (suc (suc (suc (suc v))))) k = let e = k.kind in absurd (cc)

-- ---- the follower relies on the leader, which it doesn't see
pub on_leader : IsGraph trace → ReliesOn trace 2 0
on_leader graph =
    relies trace 2 0 4 graph (λ e. omega arith) follows leads (live trace 2 (omega arith) (omega arith)) (live trace 0 (omega arith) (omega arith))
    (record { within = omega arith; kind = refl; owner = (0, omega arith, refl); below = (4, (1, omega arith, refl), Here) })
    (0, omega arith, refl) (λ a. unseen (among_of (1 ∷ []) 0 a))
  where
    unseen : Among 0 (1 ∷ []) → ⊥
    unseen (inl e) = omega arith
    unseen (inr m) = m

-- ---- the leader relies on nobody: from a new parent of the follower walks lead to it and its pay
data Step : ℕ → ℕ → Type 0 where
  There : Step 5 2
  Aside : Step 2 4

abbrev NewArc : ℕ → ℕ → Type 0
NewArc = WithArc (Arc trace) 5 2

from_new : IsGraph trace → (z : ℕ) → IsJoined NewArc 5 z → Step 5 z
from_new graph z j = subst (λ x. Step 5 x) (sym (follower z j)) There
  where
    follower : (z : ℕ) → IsJoined NewArc 5 z → z ≡ 2
    follower z (inl (inl a)) = let l : 5 < 5 = graph.parents_known 5 z a in absurd (omega arith)
    follower z (inl (inr h)) = h.1
    follower z (inr (inl a)) = absurd (among_of [] z a)
    follower z (inr (inr h)) = let e : ◌≡◌ {A = ℕ} 5 2 = h.1 in absurd (omega arith)

not_given : (v : ℕ) → IsInFamily (Arc trace) 0 (suc v) → ⊥
not_given v (inl e) = omega arith
not_given v (inr a) = among_of [] (suc v) a

below_follower : (z : ℕ) → Arc trace 2 z → Step 2 z
below_follower zero a = absurd (among_of [] 2 a)
below_follower (suc zero) a = absurd (other (among_of (0 ∷ []) 2 a))
  where
    other : Among 2 (0 ∷ []) → ⊥
    other (inl e) = omega arith
    other (inr m) = m
below_follower (suc (suc zero)) a = absurd (other (among_of (1 ∷ []) 2 a))
  where
    other : Among 2 (1 ∷ []) → ⊥
    other (inl e) = omega arith
    other (inr m) = m
below_follower (suc (suc (suc zero))) a = absurd (other (among_of (0 ∷ []) 2 a))
  where
    other : Among 2 (0 ∷ []) → ⊥
    other (inl e) = omega arith
    other (inr m) = m
below_follower (suc (suc (suc (suc zero)))) a = Aside
below_follower (suc (suc (suc (suc (suc v))))) a = absurd (among_of [] 2 a)

closed : IsGraph trace → (x y z : ℕ) → Step x y → IsJoined NewArc y z → WithNode (IsLive trace) 5 z → IsCollider NewArc x y z ↔ IsInFamily (Arc trace) 0 y → Step y z
closed graph x y z There j l m = onwards z j m.0
  where
    onwards : (z : ℕ) → IsJoined NewArc 2 z → (IsCollider NewArc 5 2 z → IsInFamily (Arc trace) 0 2) → Step 2 z
    onwards z (inl (inl a)) f = below_follower z a
    onwards z (inl (inr h)) f = let e : ◌≡◌ {A = ℕ} 2 5 = h.0 in absurd (omega arith)
    onwards z (inr a) f = absurd (not_given 1 (f (inr (refl, refl), a)))
closed graph x y z Aside j l m = absurd (stops z j m.0)
  where
    stops : (z : ℕ) → IsJoined NewArc 4 z → (IsCollider NewArc 2 4 z → IsInFamily (Arc trace) 0 4) → ⊥
    stops z (inl (inl a)) f = graph.no_utility_parent 4 z a refl
    stops z (inl (inr h)) f = let e : ◌≡◌ {A = ℕ} 4 5 = h.0 in omega arith
    stops z (inr a) f = not_given 3 (f (inl (1, omega arith, refl), a))

no_goal : (goal u : ℕ) → Step u goal → IsGoal trace 0 goal → ⊥
no_goal goal u There g = let k : Decision ≡ Utility = g.kind in cc
no_goal goal u Aside g = let o : ◌≡◌ {A = ℕ} 0 1 = one_member 0 1 [] refl g.owner in omega arith

pub not_on_follower : IsGraph trace → ReliesOn trace 0 2 → ⊥
not_on_follower graph r = elim (end_of_walk NewArc (WithNode (IsLive trace) 5) (IsInFamily (Arc trace) 0) Step (closed graph) 5 r.goal (λ y j l. from_new graph y j) r.walk) [
  | inl e ↦ (let l : r.goal < 5 = r.is_goal.within in omega arith)
  | inr t ↦ no_goal r.goal t.0 t.1 r.is_goal
]

pub has_reliance : TestsDiagrams → HasReliance
has_reliance diagrams = let d = diagrams trace_diagram refl in record { diagram = d; on_leader = on_leader d.graph; not_on_follower = not_on_follower d.graph }
