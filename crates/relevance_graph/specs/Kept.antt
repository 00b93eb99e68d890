-- Searches that are kept for later, of other diagrams too.
use Rattle.std.specs.Prelude.{◌≡◌, ◌↔◌, ℕ, List, length, map}
use Rattle.maid_model.specs.declared.diagrams.Kind.TheVariants.{Chance}
use Rattle.maid_model.specs.Edits.{as_decision}
use Rattle.maid_model.specs.Nodes.{IsDecision, decisions_of, node_at, parents_of}
use Rattle.maid_model.specs.Relevance.{IsLive, IsGoal}
use Rattle.maid_model.specs.Views.{NodeView}
use Rattle.relevance_graph.specs.declared.searches.KeptSearch.{KeptSearch}
use Rattle.relevance_graph.specs.Steps.{IsSearchedFor, LeadsToGoal}

-- what is kept is of a decision among these nodes: from which nodes' extra parents its goals are
-- reached
pub record IsKeptSearch (nodes : List NodeView) (kept : KeptSearch) : Type 0 where
  pub decision : IsDecision nodes kept.decision
  pub marks : IsSearchedFor nodes kept.decision kept.marks

-- so many searches are kept: one for each decision, in text order
abbrev pub KeepsAllSearches : List NodeView → List KeptSearch → Type 0
KeepsAllSearches nodes kept = map (λ k. k.decision) kept ≡ decisions_of nodes

-- the others keep all that searches for the nodes' decisions look at: the arcs, which nodes are
-- live, and the decisions with their goals; what else is a chance node or a decision does not
-- matter
pub record KeepsSearches (nodes others : List NodeView) : Type 0 where
  pub count : length others ≡ length nodes
  pub parents : (v : ℕ) → parents_of others v ≡ parents_of nodes v
  pub live : (v : ℕ) → IsLive others v ↔ IsLive nodes v
  pub decision : (d : ℕ) → IsDecision nodes d → IsDecision others d
  pub goal : (d u : ℕ) → IsDecision nodes d → IsGoal others d u ↔ IsGoal nodes d u

-- then what is kept of the search for a decision is also kept of the others' decision
abbrev pub KeptSearchesStand : Type 0
KeptSearchesStand = (nodes others : List NodeView) (kept : KeptSearch) → KeepsSearches nodes others
    → IsKeptSearch nodes kept → IsKeptSearch others kept

-- and walks lead from the same extra parents to a goal of the decision
abbrev pub WalksToGoalsStand : Type 0
WalksToGoalsStand = (nodes others : List NodeView) (d e : ℕ) → KeepsSearches nodes others
    → IsDecision nodes d → LeadsToGoal nodes d e ↔ LeadsToGoal others d e

-- where a chance node has become a decision, all is kept that searches for the other decisions look
-- at
abbrev pub ControlKeepsSearches : Type 0
ControlKeepsSearches = (nodes : List NodeView) (agent x : ℕ) → (node_at nodes x).kind ≡ Chance
    → KeepsSearches nodes (as_decision nodes agent x)
