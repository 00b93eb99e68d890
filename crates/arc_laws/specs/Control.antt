-- What an agent gains by control of a chance node.
use Rattle.std.specs.Prelude.{◌≡◌, ◌≢◌, ℕ, List, pos, ◌*ℤ◌}
use Rattle.maid_model.specs.declared.diagrams.Kind.TheVariants.{Chance}
use Rattle.maid_model.specs.Views.{NodeView, RuleView}
use Rattle.maid_model.specs.Nodes.{IsDecision, node_at}
use Rattle.maid_model.specs.Graph.{IsGraph}
use Rattle.maid_model.specs.Tables.{HasChanceTables}
use Rattle.maid_model.specs.Profiles.{IsProfile, SameRule}
use Rattle.maid_model.specs.Gains.{gain_of, mass}
use Rattle.maid_model.specs.Subgames.{OwnsAll}
use Rattle.maid_model.specs.Edits.{as_decision}
use Rattle.maid_model.specs.Trimming.{IsTrimmed}
use Rattle.maid_model.specs.Values.{IsUnreached}
use Rattle.arc_laws.specs.Arcs.{CanGet, IsNotAbove, HasSameOptimum}

-- Where no utility of the agent descends from a decision, the decision's rule does not matter to
-- the agent.
abbrev pub UnreachedRule : Type 0
UnreachedRule = (nodes : List NodeView) (p q : List RuleView) (d agent : ℕ) → IsGraph nodes
    → HasChanceTables nodes → IsProfile nodes p → IsProfile nodes q → IsDecision nodes d
    → ((v : ℕ) → IsDecision nodes v → v ≢ d → SameRule p q v) → IsUnreached nodes agent d
    → gain_of nodes p agent *ℤ pos (mass nodes q) ≡ gain_of nodes q agent *ℤ pos (mass nodes p)

-- With a chance node as a decision a graph with chance tables stays one; its rules may pass the
-- limits.
abbrev pub KeptAsDecision : Type 0
KeptAsDecision = (nodes : List NodeView) (agent x : ℕ) → IsGraph nodes → HasChanceTables nodes
    → (node_at nodes x).kind ≡ Chance
    → IsGraph (as_decision nodes agent x) × HasChanceTables (as_decision nodes agent x)

-- With a chance node as a decision each agent can get as much, as its table is a rule.
abbrev pub MoreWithControl : Type 0
MoreWithControl = (nodes : List NodeView) (agent x other : ℕ) → IsGraph nodes
    → HasChanceTables nodes → (node_at nodes x).kind ≡ Chance
    → CanGet nodes (as_decision nodes agent x) other
    × IsNotAbove nodes (as_decision nodes agent x) other

-- Where one agent owns all decisions and no utility of the agent descends from x in the trimmed
-- diagram, control of x leaves the optimum as it is.
abbrev pub SameWithControl : Type 0
SameWithControl = (nodes trimmed : List NodeView) (removed : List (ℕ × ℕ)) (agent x : ℕ)
    → IsGraph nodes → HasChanceTables nodes → OwnsAll nodes agent → (node_at nodes x).kind ≡ Chance
    → IsTrimmed nodes removed trimmed → IsUnreached trimmed agent x
    → HasSameOptimum nodes (as_decision nodes agent x) agent
