-- How great the numbers of a node's first table are.
use Rattle.std.specs.Prelude.{◌≡◌, ◌≢◌, ℕ, ◌*◌, ◌≤◌, List}
use Rattle.maid_model.specs.declared.diagrams.Kind.TheVariants.{Utility}
use Rattle.maid_model.specs.Gains.{greatest_abs}
use Rattle.maid_model.specs.Nodes.{node_at}
use Rattle.maid_model.specs.Profiles.{IsProfile}
use Rattle.maid_model.specs.Tables.{HasChanceTables, weight_total}
use Rattle.maid_model.specs.Views.{NodeView, RuleView}
use Rattle.factor_core.specs.Operations.{NumbersFit}

-- A node's weights fit where its total does.
abbrev pub WeightsFit : Type 0
WeightsFit = (nodes : List NodeView) (p : List RuleView) (most v : ℕ) → HasChanceTables nodes
    → IsProfile nodes p → 2 * weight_total nodes p v ≤ most
    → (node_at nodes v).kind ≢ Utility → NumbersFit most nodes p v

-- A utility's values fit where the greatest does.
abbrev pub ValuesFit : Type 0
ValuesFit = (nodes : List NodeView) (p : List RuleView) (most u : ℕ)
    → 2 * greatest_abs (node_at nodes u).cells ≤ most
    → (node_at nodes u).kind ≡ Utility → NumbersFit most nodes p u
