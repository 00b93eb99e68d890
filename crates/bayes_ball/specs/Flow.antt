-- How active walks spread, by the way in which they arrive at a node.
use Rattle.std.specs.Prelude.{ℕ}

-- a walk arrives from a child, up an arc, or from a parent, down an arc
pub data Way : Type 0 where
  Up : Way
  Down : Way

-- what spreads from the start by three rules, over arcs between live nodes: down from a node that
-- is not given, up from one that is not given and was reached from below, and back up from one that
-- is given and was reached from above
pub data Flows
    (Arc : ℕ → ℕ → Type 0) (Given : ℕ → Type 0) (Start : Way → ℕ → Type 0) : Way → ℕ → Type 0 where
  Begin : {w : Way} {v : ℕ} → Start w v → Flows Arc Given Start w v
  Forward : {w : Way} {p v : ℕ} → Arc p v → (Given p → ⊥) → Flows Arc Given Start w p
      → Flows Arc Given Start Down v
  Back :
      {p v : ℕ} → Arc p v → (Given v → ⊥) → Flows Arc Given Start Up v → Flows Arc Given Start Up p
  Bounce : {p v : ℕ} → Arc p v → Given v → Flows Arc Given Start Down v → Flows Arc Given Start Up p

-- marks to which no rule adds one
pub record IsClosed
    (Arc : ℕ → ℕ → Type 0) (Given : ℕ → Type 0) (Mark : Way → ℕ → Type 0) : Type 0 where
  pub forward : (w : Way) (p v : ℕ) → Arc p v → (Given p → ⊥) → Mark w p → Mark Down v
  pub back : (p v : ℕ) → Arc p v → (Given v → ⊥) → Mark Up v → Mark Up p
  pub bounce : (p v : ℕ) → Arc p v → Given v → Mark Down v → Mark Up p

-- an arc between live nodes
abbrev pub IsLiveArc : (ℕ → ℕ → Type 0) → (ℕ → Type 0) → ℕ → ℕ → Type 0
IsLiveArc Arc Live a b = Arc a b × Live a × Live b
