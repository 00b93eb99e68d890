-- The laws of a part: it is a diagram, and its sums are those of the whole but for one factor.
use Rattle.std.specs.Prelude.{◌≡◌, ◌↔◌, ℕ, ◌<◌, ◌*◌, List, length, slice_index, Contains, pos, ◌*ℤ◌, ◌≤ℤ◌, ◌<ℤ◌}
use Rattle.maid_model.specs.declared.answers.Ratio.{Ratio}
use Rattle.maid_model.specs.declared.diagrams.Kind.TheVariants.{Utility}
use Rattle.maid_model.specs.Views.{NodeView, DiagramView, RuleView}
use Rattle.maid_model.specs.Nodes.{IsDecision, node_at, rows_of, Owns}
use Rattle.maid_model.specs.Graph.{Arc, IsPath, Descends, IsGraph}
use Rattle.maid_model.specs.Diagrams.{IsDiagram}
use Rattle.maid_model.specs.Tables.{HasChanceTables, weights_of, rule_total}
use Rattle.maid_model.specs.Profiles.{IsProfile}
use Rattle.maid_model.specs.Gains.{gain_of, mass, gain_at, mass_at}
use Rattle.maid_model.specs.Relevance.{IsGoal}
use Rattle.maid_model.specs.Answers.{IsWorthAt, IsExpectedUtility}
use Rattle.maid_model.specs.Parts.{with_ancestors, IsAncestral, place_in, renumbered, part_of, part_diagram, rules_in, mass_left_out}

-- Nodes and all their ancestors are nodes from which a path leads to one of the list, and have with
-- each node its parents.
abbrev pub AncestorsAreClosed : Type 0
AncestorsAreClosed = (nodes : List NodeView) (of : List ℕ) → IsGraph nodes
    → ((v : ℕ) → Contains of v → v < length nodes)
    → IsAncestral nodes (with_ancestors nodes of)
    × ((v : ℕ) → Contains (with_ancestors nodes of) v
    ↔ ((u : ℕ) × Contains of u × IsPath (Arc nodes) v u))

-- A part of a diagram is a graph.
abbrev pub PartsAreGraphs : Type 0
PartsAreGraphs = (nodes : List NodeView) (kept : List ℕ) → IsGraph nodes → IsAncestral nodes kept
    → IsGraph (part_of nodes kept)

-- It has chance tables.
abbrev pub PartsHaveTables : Type 0
PartsHaveTables = (nodes : List NodeView) (kept : List ℕ) → HasChanceTables nodes
    → IsAncestral nodes kept → HasChanceTables (part_of nodes kept)

-- A profile's rules at the part's decisions are a profile of the part.
abbrev pub PartsHaveProfiles : Type 0
PartsHaveProfiles = (nodes : List NodeView) (p : List RuleView) (kept : List ℕ) → IsProfile nodes p
    → IsAncestral nodes kept → IsProfile (part_of nodes kept) (rules_in nodes p kept)

-- A part of a diagram is one, within the same limits.
abbrev pub PartsAreDiagrams : Type 0
PartsAreDiagrams = (d : DiagramView) (kept : List ℕ) → IsDiagram d → IsAncestral d.nodes kept
    → IsDiagram (part_diagram d kept)

-- at the place of a kept node stands that node, its parents renumbered, with as many rows
pub record IsNodeOfPart (nodes : List NodeView) (kept : List ℕ) (v : ℕ) : Type 0 where
  pub within : place_in kept v < length (part_of nodes kept)
  pub old : slice_index kept (place_in kept v) ≡ v
  pub node : node_at (part_of nodes kept) (place_in kept v) ≡ renumbered kept (node_at nodes v)
  pub rows : rows_of (part_of nodes kept) (place_in kept v) ≡ rows_of nodes v

-- The part has each kept node at its place, and paths between the places where the nodes had them.
abbrev pub NodesOfParts : Type 0
NodesOfParts = (nodes : List NodeView) (kept : List ℕ) (v : ℕ) → IsAncestral nodes kept
    → Contains kept v
    → IsNodeOfPart nodes kept v
    × ((u : ℕ) → Contains kept u
    → Descends (Arc nodes) u v
    ↔ Descends (Arc (part_of nodes kept)) (place_in kept u) (place_in kept v))

-- At the place of a kept decision stands its rule.
abbrev pub RulesOfParts : Type 0
RulesOfParts = (nodes : List NodeView) (p : List RuleView) (kept : List ℕ) (v : ℕ)
    → IsAncestral nodes kept → IsDecision nodes v → Contains kept v
    → (weights_of (rules_in nodes p kept) (place_in kept v) ≡ weights_of p v)
    × (rule_total (rules_in nodes p kept) (place_in kept v) ≡ rule_total p v)

-- the two profiles give each decision's states the same gains and each row the same mass, and each
-- agent the same gain
pub record HasSameSums (nodes : List NodeView) (s t : List RuleView) : Type 0 where
  pub gain : (d state row : ℕ) → gain_at nodes s d state row ≡ gain_at nodes t d state row
  pub mass_there : (d row : ℕ) → mass_at nodes s d row ≡ mass_at nodes t d row
  pub agents_gain : (agent : ℕ) → gain_of nodes s agent ≡ gain_of nodes t agent

-- Sums look at the weights of the decisions' rules alone: so any profile of a part with the base's
-- weights has the base's sums.
abbrev pub SumsReadWeights : Type 0
SumsReadWeights = (nodes : List NodeView) (s t : List RuleView)
    → ((v : ℕ) → IsDecision nodes v → weights_of s v ≡ weights_of t v) → HasSameSums nodes s t

-- In a part with a decision and all utilities of its agent that descend from it, each gain of the
-- decision is that of the whole, but for the totals left out.
abbrev pub GainsOfParts : Type 0
GainsOfParts = (nodes : List NodeView) (p : List RuleView) (kept : List ℕ) (d state row : ℕ)
    → IsGraph nodes → HasChanceTables nodes → IsProfile nodes p → IsAncestral nodes kept
    → IsDecision nodes d → Contains kept d → ((u : ℕ) → IsGoal nodes d u → Contains kept u)
    → gain_at nodes p d state row
    ≡ pos (mass_left_out nodes p kept)
    *ℤ gain_at (part_of nodes kept) (rules_in nodes p kept) (place_in kept d) state row

-- So is the mass of each row, in a part with the decision.
abbrev pub MassesOfParts : Type 0
MassesOfParts = (nodes : List NodeView) (p : List RuleView) (kept : List ℕ) (d row : ℕ)
    → IsGraph nodes → HasChanceTables nodes → IsProfile nodes p → IsAncestral nodes kept
    → IsDecision nodes d → Contains kept d
    → mass_at nodes p d row
    ≡ pos (mass_left_out nodes p kept)
    *ℤ mass_at (part_of nodes kept) (rules_in nodes p kept) (place_in kept d) row

-- In a part with all utilities of an agent, the agent's gain is that of the whole, but for the
-- totals left out.
abbrev pub AgentsGainsOfParts : Type 0
AgentsGainsOfParts = (nodes : List NodeView) (p : List RuleView) (kept : List ℕ) (agent : ℕ)
    → IsGraph nodes → HasChanceTables nodes → IsProfile nodes p → IsAncestral nodes kept
    → ((u : ℕ) → u < length nodes → (node_at nodes u).kind ≡ Utility → Owns nodes agent u
    → Contains kept u)
    → gain_of nodes p agent
    ≡ pos (mass_left_out nodes p kept)
    *ℤ gain_of (part_of nodes kept) (rules_in nodes p kept) agent

-- So is the mass of a profile, in any part.
abbrev pub MassOfParts : Type 0
MassOfParts = (nodes : List NodeView) (p : List RuleView) (kept : List ℕ) → IsGraph nodes
    → HasChanceTables nodes → IsProfile nodes p → IsAncestral nodes kept
    → mass nodes p ≡ mass_left_out nodes p kept * mass (part_of nodes kept) (rules_in nodes p kept)

-- each gain and each mass of the decision is that of the part, times the totals left out
pub record HasDecisionsSums
    (nodes : List NodeView) (p : List RuleView) (kept : List ℕ) (d : ℕ) : Type 0 where
  pub gain : (state row : ℕ) → gain_at nodes p d state row
      ≡ pos (mass_left_out nodes p kept)
      *ℤ gain_at (part_of nodes kept) (rules_in nodes p kept) (place_in kept d) state row
  pub mass_there : (row : ℕ) → mass_at nodes p d row
      ≡ pos (mass_left_out nodes p kept)
      *ℤ mass_at (part_of nodes kept) (rules_in nodes p kept) (place_in kept d) row

-- the agent's gain and the profile's mass are those of the part, times the totals left out
pub record HasAgentsSums
    (nodes : List NodeView) (p : List RuleView) (kept : List ℕ) (agent : ℕ) : Type 0 where
  pub gain : gain_of nodes p agent
      ≡ pos (mass_left_out nodes p kept)
      *ℤ gain_of (part_of nodes kept) (rules_in nodes p kept) agent
  pub mass_there :
      mass nodes p ≡ mass_left_out nodes p kept * mass (part_of nodes kept) (rules_in nodes p kept)

-- The law of parts, for some nodes and all their ancestors: where they have a decision and all
-- utilities of its agent that descend from it, the decision's sums are those of the part, and where
-- they have all utilities of an agent, the agent's are.
abbrev pub LawOfParts : Type 0
LawOfParts = (nodes : List NodeView) (p : List RuleView) (of : List ℕ) → IsGraph nodes
    → HasChanceTables nodes → IsProfile nodes p → ((v : ℕ) → Contains of v → v < length nodes)
    → ((d : ℕ) → IsDecision nodes d → Contains of d → ((u : ℕ) → IsGoal nodes d u → Contains of u)
    → HasDecisionsSums nodes p (with_ancestors nodes of) d)
    × ((agent : ℕ) → ((u : ℕ) → u < length nodes → (node_at nodes u).kind ≡ Utility
    → Owns nodes agent u → Contains of u)
    → HasAgentsSums nodes p (with_ancestors nodes of) agent)

-- The totals left out are above nought.
abbrev pub LeftOutIsPositive : Type 0
LeftOutIsPositive = (nodes : List NodeView) (p : List RuleView) (kept : List ℕ) → IsGraph nodes
    → HasChanceTables nodes → IsProfile nodes p → 0 < mass_left_out nodes p kept

-- a state is as good as another in a row of the whole exactly where it is in the part, the row has
-- mass exactly where it has in the part, and a state is worth the same fraction
pub record DecidesAlike
    (nodes : List NodeView) (p : List RuleView) (kept : List ℕ) (d row : ℕ) : Type 0 where
  pub best : (state other : ℕ) → (gain_at nodes p d state row ≤ℤ gain_at nodes p d other row)
      ↔ (gain_at (part_of nodes kept) (rules_in nodes p kept) (place_in kept d) state row
      ≤ℤ gain_at (part_of nodes kept) (rules_in nodes p kept) (place_in kept d) other row)
  pub reached : (pos 0 <ℤ mass_at nodes p d row)
      ↔ (pos 0 <ℤ mass_at (part_of nodes kept) (rules_in nodes p kept) (place_in kept d) row)
  pub worth : (state scale : ℕ) (w : Ratio)
      → IsWorthAt nodes scale p d state row w
      ↔ IsWorthAt (part_of nodes kept) scale (rules_in nodes p kept) (place_in kept d) state row
      w

-- So no choice, no mark and no fraction changes.
abbrev pub ChoicesOfParts : Type 0
ChoicesOfParts = (nodes : List NodeView) (p : List RuleView) (kept : List ℕ) (d row : ℕ)
    → IsGraph nodes → HasChanceTables nodes → IsProfile nodes p → IsAncestral nodes kept
    → IsDecision nodes d → Contains kept d → ((u : ℕ) → IsGoal nodes d u → Contains kept u)
    → DecidesAlike nodes p kept d row

-- And a profile is worth the same fraction to an agent.
abbrev pub WorthsOfParts : Type 0
WorthsOfParts = (nodes : List NodeView) (p : List RuleView) (kept : List ℕ) (agent scale : ℕ)
    (w : Ratio) → IsGraph nodes → HasChanceTables nodes → IsProfile nodes p
    → IsAncestral nodes kept
    → ((u : ℕ) → u < length nodes → (node_at nodes u).kind ≡ Utility → Owns nodes agent u
    → Contains kept u)
    → IsExpectedUtility nodes scale p agent w
    ↔ IsExpectedUtility (part_of nodes kept) scale (rules_in nodes p kept) agent w
