-- What the steps of trimming promise one another. Only private functions cite this file.
use Rattle.std.specs.Prelude.{◌≡◌, ℕ, ◌<◌, List, length, slice_index, Option, MatchOption}
use Rattle.maid_model.specs.Views.{NodeView}
use Rattle.maid_model.specs.Nodes.{IsDecision, parents_of}
use Rattle.maid_model.specs.Relevance.{IsRequisite}
use Rattle.maid_model.specs.Trimming.{IsFirstToRemove, SeesRequisites}

-- each parent of v is requisite, if v is a decision
abbrev pub SeesRequisitesAt : List NodeView → ℕ → Type 0
SeesRequisitesAt nodes v = IsDecision nodes v → SeesRequisites nodes v

-- each parent of each decision is requisite
abbrev pub AllSeeRequisites : List NodeView → Type 0
AllSeeRequisites nodes = (d : ℕ) → SeesRequisitesAt nodes d

-- x is the first parent of d that is not requisite
pub record IsFirstUnneeded (nodes : List NodeView) (d x : ℕ) : Type 0 where
  pub place : ℕ
  pub within : place < length (parents_of nodes d)
  pub there : slice_index (parents_of nodes d) place ≡ x
  pub not_requisite : IsRequisite nodes d x → ⊥
  pub earlier : (k : ℕ) → k < place → IsRequisite nodes d (slice_index (parents_of nodes d) k)

-- the first parent of d that is not requisite, and none only where each is
abbrev pub TellsFirstUnneeded : List NodeView → ℕ → Option ℕ → Type 0
TellsFirstUnneeded nodes d found =
    MatchOption found (SeesRequisites nodes d) (IsFirstUnneeded nodes d)

-- v is a decision, and x its first parent that is not requisite
abbrev pub IsFirstUnneededAt : List NodeView → ℕ → ℕ → Type 0
IsFirstUnneededAt nodes v x = IsDecision nodes v × IsFirstUnneeded nodes v x

-- the first such parent of v, if v is a decision
abbrev pub TellsFirstUnneededAt : List NodeView → ℕ → Option ℕ → Type 0
TellsFirstUnneededAt nodes v found =
    MatchOption found (SeesRequisitesAt nodes v) (IsFirstUnneededAt nodes v)

-- the arc is the first one that trimming removes
abbrev pub IsNextArc : List NodeView → ℕ × ℕ → Type 0
IsNextArc nodes arc = IsFirstToRemove nodes arc.0 arc.1

-- that arc, and none only where each parent of each decision is requisite
abbrev pub TellsNextArc : List NodeView → Option (ℕ × ℕ) → Type 0
TellsNextArc nodes found = MatchOption found (AllSeeRequisites nodes) (IsNextArc nodes)
