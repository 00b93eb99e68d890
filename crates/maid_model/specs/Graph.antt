-- Arcs and paths.
use Rattle.std.specs.Prelude.{◌≡◌, ◌≢◌, ℕ, zero, suc, ◌<◌, Bool, false, ◌||◌, ◌==◌, List, [], ◌∷◌, length, Contains}
use Rattle.std.specs.List.{list_any}
use Rattle.maid_model.specs.declared.diagrams.Kind.TheVariants.{Utility}
use Rattle.maid_model.specs.Views.{NodeView}
use Rattle.maid_model.specs.Nodes.{node_at, states_of, parents_of}
pub use Rattle.node_sets.specs.Paths.{IsPathTo, Here, Along, IsPath, Descends, IsAcyclic}

-- an arc leads from u to v: u is one of v's parents
abbrev pub Arc : List NodeView → ℕ → ℕ → Type 0
Arc nodes u v = Contains (parents_of nodes v) u

-- no number stands twice in the list
abbrev pub AllDifferent : List ℕ → Type 0
AllDifferent [] = Unit {0}
AllDifferent (x ∷ xs) = (Contains xs x → ⊥) × AllDifferent xs

-- The nodes of a diagram, tables aside: their parents are nodes of the list, differ and are no
-- utilities; a utility has one state and every other node one or more; and there is no directed
-- cycle.
pub record IsGraph (nodes : List NodeView) : Type 0 where
  pub parents_known : (u v : ℕ) → Arc nodes u v → u < length nodes
  pub parents_differ : (v : ℕ) → AllDifferent (parents_of nodes v)
  pub no_utility_parent : (u v : ℕ) → Arc nodes u v → (node_at nodes u).kind ≢ Utility
  pub has_state : (v : ℕ) → 0 < states_of nodes v
  pub utility_states : (v : ℕ) → (node_at nodes v).kind ≡ Utility → states_of nodes v ≡ 1
  pub acyclic : IsAcyclic (Arc nodes)

-- a path of one to n arcs leads from u to v, as a test
abbrev pub leads_within : List NodeView → ℕ → ℕ → ℕ → Bool
leads_within nodes zero u v = false
leads_within nodes (suc n) u v =
    list_any (λ x. (x == u) || leads_within nodes n u x) (parents_of nodes v)

-- v descends from u, as a test: in a graph without a cycle no path has more arcs than there are
-- nodes
abbrev pub descends : List NodeView → ℕ → ℕ → Bool
descends nodes u v = leads_within nodes (length nodes) u v
