-- Paths of arcs.
use Rattle.std.specs.Prelude.{ℕ, List, Contains}

-- from which nodes a path of nought or more arcs leads to a node: from itself, and along an arc
pub data IsPathTo (Arc : ℕ → ℕ → Type 0) (to : ℕ) : ℕ → Type 0 where
  Here : IsPathTo Arc to to
  Along : {u v : ℕ} → Arc u v → IsPathTo Arc to v → IsPathTo Arc to u

-- a path of nought or more arcs leads from the one node to the other
abbrev pub IsPath : (ℕ → ℕ → Type 0) → ℕ → ℕ → Type 0
IsPath Arc from to = IsPathTo Arc to from

-- `to` descends from `from`: a path of one or more arcs leads there
abbrev pub Descends : (ℕ → ℕ → Type 0) → ℕ → ℕ → Type 0
Descends Arc from to = (next : ℕ) × Arc from next × IsPath Arc next to

-- no node descends from itself
abbrev pub IsAcyclic : (ℕ → ℕ → Type 0) → Type 0
IsAcyclic Arc = (v : ℕ) → Descends Arc v v → ⊥

-- a path leads to v from a node of the set
abbrev pub LeadsFrom : (ℕ → ℕ → Type 0) → (ℕ → Type 0) → ℕ → Type 0
LeadsFrom Arc Set v = (from : ℕ) × Set from × IsPath Arc from v

-- a path leads from v to a node of the set
abbrev pub LeadsInto : (ℕ → ℕ → Type 0) → (ℕ → Type 0) → ℕ → Type 0
LeadsInto Arc Set v = (to : ℕ) × Set to × IsPath Arc v to

-- an arc leads from u to v: u is one of v's parents
abbrev pub ParentArc : (ℕ → List ℕ) → ℕ → ℕ → Type 0
ParentArc parents u v = Contains (parents v) u
