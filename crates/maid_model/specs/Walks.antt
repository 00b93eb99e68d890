-- Active walks, over any arcs, live nodes and given nodes (Shachter 1998).
use Rattle.std.specs.Prelude.{◌≡◌, ◌⊎◌, ◌↔◌, ℕ, List, [], ◌∷◌}

-- an arc in either direction
abbrev pub IsJoined : (ℕ → ℕ → Type 0) → ℕ → ℕ → Type 0
IsJoined Arc x y = Arc x y ⊎ Arc y x

-- both arrows meet head to head at y
abbrev pub IsCollider : (ℕ → ℕ → Type 0) → ℕ → ℕ → ℕ → Type 0
IsCollider Arc x y z = Arc x y × Arc z y

-- a list of one or more live nodes, each joined to the next; an inner node is given exactly where
-- both arrows meet head to head at it
abbrev pub IsActive : (ℕ → ℕ → Type 0) → (ℕ → Type 0) → (ℕ → Type 0) → List ℕ → Type 0
IsActive Arc Live Given [] = ⊥
IsActive Arc Live Given (x ∷ []) = Live x
IsActive Arc Live Given (x ∷ (y ∷ [])) = Live x × IsJoined Arc x y × Live y
IsActive Arc Live Given (x ∷ (y ∷ (z ∷ rest))) = Live x × IsJoined Arc x y
    × (IsCollider Arc x y z ↔ Given y) × IsActive Arc Live Given (y ∷ (z ∷ rest))

-- the last node of a walk that starts at x
abbrev pub last_of : ℕ → List ℕ → ℕ
last_of x [] = x
last_of x (y ∷ rest) = last_of y rest

-- an active walk leads from the one node to the other
pub record IsReached (Arc : ℕ → ℕ → Type 0) (Live Given : ℕ → Type 0) (from to : ℕ) : Type 0 where
  pub rest : List ℕ
  pub active : IsActive Arc Live Given (from ∷ rest)
  pub ends : last_of from rest ≡ to

-- the arcs with one more, from the new node to v
abbrev pub WithArc : (ℕ → ℕ → Type 0) → ℕ → ℕ → ℕ → ℕ → Type 0
WithArc Arc new v x y = Arc x y ⊎ ((x ≡ new) × (y ≡ v))

-- the live nodes with one more
abbrev pub WithNode : (ℕ → Type 0) → ℕ → ℕ → Type 0
WithNode Live new x = Live x ⊎ (x ≡ new)

-- an active walk leads to a node from an extra parent of v: a new live node whose only arc goes to
-- v. `new` is a number that no node has
abbrev pub IsReachedFromParent : (ℕ → ℕ → Type 0) → (ℕ → Type 0) → (ℕ → Type 0) → ℕ → ℕ → ℕ → Type 0
IsReachedFromParent Arc Live Given new v to =
    IsReached (WithArc Arc new v) (WithNode Live new) Given new to
