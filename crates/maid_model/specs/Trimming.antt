-- Which arcs into decisions matter, and the diagram without those that don't (Lauritzen and Nilsson
-- 2001).
use Rattle.std.specs.Prelude.{◌≡◌, ℕ, ◌<◌, List, [], ◌∷◌, length, slice_index}
use Rattle.maid_model.specs.Views.{NodeView}
use Rattle.maid_model.specs.Nodes.{IsDecision, parents_of}
use Rattle.maid_model.specs.Graph.{Arc}
use Rattle.maid_model.specs.Relevance.{IsRequisite}
use Rattle.maid_model.specs.Edits.{without_arc}

-- every parent of the decision is requisite
abbrev pub SeesRequisites : List NodeView → ℕ → Type 0
SeesRequisites nodes d = (x : ℕ) → Arc nodes x d → IsRequisite nodes d x

-- the arc from x to d is the first that is not requisite, in text order of decisions and then in
-- the order of the decision's parents
pub record IsFirstToRemove (nodes : List NodeView) (x d : ℕ) : Type 0 where
  pub decision : IsDecision nodes d
  pub place : ℕ
  pub within : place < length (parents_of nodes d)
  pub there : slice_index (parents_of nodes d) place ≡ x
  pub not_requisite : IsRequisite nodes d x → ⊥
  pub earlier_parents :
      (k : ℕ) → k < place → IsRequisite nodes d (slice_index (parents_of nodes d) k)
  pub earlier_decisions : (e : ℕ) → e < d → IsDecision nodes e → SeesRequisites nodes e

-- The first arc that is not requisite is removed, anew after each removal, until none is left. The
-- removed arcs are pairs of tail and head, in order of removal.
pub data IsTrimmed : List NodeView → List (ℕ × ℕ) → List NodeView → Type 0 where
  Done : {nodes : List NodeView} → ((d : ℕ) → IsDecision nodes d → SeesRequisites nodes d)
      → IsTrimmed nodes [] nodes
  Removed : {nodes trimmed : List NodeView} {x d : ℕ} {removed : List (ℕ × ℕ)}
      → IsFirstToRemove nodes x d → IsTrimmed (without_arc nodes x d) removed trimmed
      → IsTrimmed nodes ((x, d) ∷ removed) trimmed
