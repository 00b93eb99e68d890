-- Profiles that are best in their bases, and what follows: no agent gains from any subgame start.
use Rattle.std.specs.Prelude.{◌≡◌, ℕ, ◌<◌, ◌+◌, ◌*◌, List, length, take, Contains, slice_index, pos, ◌≤ℤ◌, ◌<ℤ◌}
use Rattle.maid_model.specs.Views.{NodeView, RuleView}
use Rattle.maid_model.specs.Nodes.{IsDecision, states_of, rows_of}
use Rattle.maid_model.specs.Graph.{IsGraph}
use Rattle.maid_model.specs.Tables.{HasChanceTables, weights_of, rule_total}
use Rattle.maid_model.specs.Profiles.{IsProfile}
use Rattle.maid_model.specs.Gains.{gain_at, mass_at}
use Rattle.maid_model.specs.Relevance.{ReliesOn}
use Rattle.maid_model.specs.Answers.{IsBase}
use Rattle.maid_model.specs.Subgames.{IsSubgamePerfect, IsOptimal, OwnsAll}

-- the weight that the profile gives to the state in the row of d
abbrev pub weight_at : List NodeView → List RuleView → ℕ → ℕ → ℕ → ℕ
weight_at nodes p d state row = slice_index (weights_of p d) (row * states_of nodes d + state)

-- in each row in which d's base in s has mass, no state has a greater gain against the base than
-- the one to which s gives the weight 1
pub record IsBestInBase (nodes : List NodeView) (s : List RuleView) (d : ℕ) : Type 0 where
  pub base : List RuleView
  pub is_base : IsBase nodes s d base
  pub best : (choice state row : ℕ) → choice < states_of nodes d → row < rows_of nodes d
      → weight_at nodes s d choice row ≡ 1 → pos 0 <ℤ mass_at nodes base d row
      → state < states_of nodes d
      → gain_at nodes base d state row ≤ℤ gain_at nodes base d choice row

-- A profile of rules of total 1, each best in its base, and a list of all decisions in which each
-- stands after those that it relies on. The answer of a diagram is one, and so are an accepted
-- report and printed rules that still hold at changed numbers.
pub record IsBestInBases (nodes : List NodeView) (s : List RuleView) : Type 0 where
  pub profile : IsProfile nodes s
  pub pure : (d : ℕ) → IsDecision nodes d → rule_total s d ≡ 1
  pub best : (d : ℕ) → IsDecision nodes d → IsBestInBase nodes s d
  pub order : List ℕ
  pub all : (d : ℕ) → IsDecision nodes d → Contains order d
  pub relied_first : (i e : ℕ) → i < length order → ReliesOn nodes (slice_index order i) e
      → Contains (take i order) e

-- A profile that is best in its bases is subgame-perfect.
abbrev pub Exchange : Type 0
Exchange = (nodes : List NodeView) (s : List RuleView) → IsGraph nodes → HasChanceTables nodes
    → IsBestInBases nodes s → IsSubgamePerfect nodes s

-- Where one agent owns all decisions, a subgame-perfect profile is optimal.
abbrev pub OneAgent : Type 0
OneAgent = (nodes : List NodeView) (s : List RuleView) (agent : ℕ) → IsGraph nodes
    → IsSubgamePerfect nodes s → OwnsAll nodes agent → IsOptimal nodes s agent
