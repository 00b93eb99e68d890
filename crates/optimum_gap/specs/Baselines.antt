-- The diagram whose optimum is known, and the diagrams that may be compared with it.
use Rattle.std.specs.Prelude.{◌≡◌, ◌⊎◌, ℕ, ◌<◌, ◌≤◌, List}
use Rattle.std.specs.Int.{◌∣◌}
use Rattle.diagram_graph.specs.Edited.{with_nodes}
use Rattle.maid_model.specs.declared.answers.Ratio.{Ratio}
use Rattle.maid_model.specs.Diagrams.{greatest_number}
use Rattle.maid_model.specs.Edits.{one_agent}
use Rattle.maid_model.specs.Scopes.{scope_product_for, scope_bound_for, greatest_of, utilities_for}
use Rattle.maid_model.specs.Values.{IsOptimum}
use Rattle.maid_model.specs.Views.{DiagramView, AnswerView}
use Rattle.optimum_gap.specs.declared.baselines.Baseline.{Baseline}

-- the diagram in which only the agent decides, and the others take the answered choices
abbrev pub alone : DiagramView → List AnswerView → ℕ → DiagramView
alone d answers agent = with_nodes d (one_agent d.nodes agent answers)

-- a diagram in which the agent decides alone, with its optimum, within the weight bound of the
-- agent's scope
pub record IsBaseline (d : DiagramView) (agent : ℕ) (optimum : Ratio) : Type 0 where
  pub within : agent < d.agents
  pub is_optimum : IsOptimum d.nodes d.decimals agent optimum
  pub bound : scope_bound_for d agent ≤ greatest_number

-- the code's baseline holds such a diagram, with its agent and optimum
abbrev pub HoldsBaseline : Baseline → Type 0
HoldsBaseline b = IsBaseline b.diagram.now b.agent b.optimum

-- in the agent's scope of the one diagram counts all that does in the other: P is a multiple, S is
-- no less, and the scale is the same
pub record CoversScope (wide narrow : DiagramView) (agent : ℕ) : Type 0 where
  pub product : scope_product_for narrow.nodes agent ∣ scope_product_for wide.nodes agent
  pub utilities : greatest_of narrow.nodes (utilities_for narrow.nodes agent)
      ≤ greatest_of wide.nodes (utilities_for wide.nodes agent)
  pub decimals : narrow.decimals ≡ wide.decimals

-- the agent's scope of one of the two counts all that counts in the other
abbrev pub HaveNearScopes : DiagramView → DiagramView → ℕ → Type 0
HaveNearScopes d e agent = CoversScope d e agent ⊎ CoversScope e d agent
