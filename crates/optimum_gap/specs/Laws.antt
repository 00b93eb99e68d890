-- Which diagrams are compared: that in which one agent decides, and its edits.
use Rattle.std.specs.Prelude.{◌≡◌, ℕ, ◌<◌, slice_index_or}
use Rattle.diagram_graph.specs.Edited.{with_nodes}
use Rattle.maid_model.specs.declared.answers.Ratio.{Ratio}
use Rattle.maid_model.specs.declared.diagrams.Kind.TheVariants.{Chance}
use Rattle.maid_model.specs.Answers.{IsAnswer}
use Rattle.maid_model.specs.Diagrams.{IsDiagram}
use Rattle.maid_model.specs.Edits.{with_arc, without_arc, as_decision}
use Rattle.maid_model.specs.Graph.{IsGraph}
use Rattle.maid_model.specs.Nodes.{IsDecision, node_at}
use Rattle.maid_model.specs.Scopes.{KeepsScopedBounds}
use Rattle.maid_model.specs.Tables.{HasChanceTables}
use Rattle.maid_model.specs.Views.{DiagramView, SolvedView}
use Rattle.optimum_gap.specs.Baselines.{CoversScope, IsBaseline, alone}

-- The answer of a diagram gives a baseline for each agent: the diagram in which only it decides,
-- with what the answer gives it.
abbrev pub AnswersAreBaselines : Type 0
AnswersAreBaselines = (d : DiagramView) (solved : SolvedView) (agent : ℕ) (r : Ratio) → IsDiagram d
    → IsAnswer d solved → KeepsScopedBounds d → agent < d.agents
    → IsBaseline (alone d solved.answers agent) agent (slice_index_or solved.gains agent r)

-- With an arc into a decision counts all that does without it.
abbrev pub CoversWithoutArc : Type 0
CoversWithoutArc = (d : DiagramView) (x to agent : ℕ) → IsGraph d.nodes → HasChanceTables d.nodes
    → IsDecision d.nodes to → CoversScope d (with_nodes d (without_arc d.nodes x to)) agent

-- And so with an arc that was not there.
abbrev pub CoversWithArc : Type 0
CoversWithArc = (d : DiagramView) (x to agent : ℕ) → IsGraph (with_arc d.nodes x to)
    → HasChanceTables d.nodes → IsDecision d.nodes to
    → CoversScope (with_nodes d (with_arc d.nodes x to)) d agent

-- With a chance node counts all that does where it is a decision.
abbrev pub CoversControl : Type 0
CoversControl = (d : DiagramView) (x agent : ℕ) → IsGraph d.nodes → HasChanceTables d.nodes
    → (node_at d.nodes x).kind ≡ Chance
    → CoversScope d (with_nodes d (as_decision d.nodes agent x)) agent
