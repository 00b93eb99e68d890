-- What trimming promises.
use Rattle.std.specs.Prelude.{◌≡◌, ◌≢◌, ℕ, List, [], map}
use Rattle.maid_model.specs.declared.diagrams.Kind.TheVariants.{Decision}
use Rattle.maid_model.specs.Views.{NodeView, DiagramView}
use Rattle.maid_model.specs.Nodes.{node_at, parents_of}
use Rattle.maid_model.specs.Graph.{Arc}
use Rattle.maid_model.specs.Diagrams.{IsDiagram}
use Rattle.maid_model.specs.Subgames.{OwnsAll}
use Rattle.maid_model.specs.Trimming.{IsTrimmed}
use Rattle.arc_laws.specs.Arcs.{HasSameOptimum}

-- all of a node but its parents
abbrev pub but_parents : NodeView → NodeView
but_parents node = record {
  kind = node.kind;
  owner = node.owner;
  more = node.more;
  states = node.states;
  parents = [];
  cells = node.cells;
}

-- the nodes are the same but for arcs into decisions, of which there may be fewer
pub record LosesArcs (before after : List NodeView) : Type 0 where
  pub nodes : map but_parents after ≡ map but_parents before
  pub arcs : (u v : ℕ) → Arc after u v → Arc before u v
  pub others :
      (v : ℕ) → (node_at before v).kind ≢ Decision → parents_of after v ≡ parents_of before v

-- The first arc that is not requisite is removed, anew after each removal and in this order, until
-- every arc into a decision is requisite; all else is the same. Where one agent owns all decisions,
-- the optimum is the same too.
pub record IsTrimming (before after : DiagramView) (removed : List (ℕ × ℕ)) : Type 0 where
  pub trimmed : IsTrimmed before.nodes removed after.nodes
  pub diagram : IsDiagram after
  pub nodes : LosesArcs before.nodes after.nodes
  pub agents : after.agents ≡ before.agents
  pub decimals : after.decimals ≡ before.decimals
  pub optimum :
      (agent : ℕ) → OwnsAll before.nodes agent → HasSameOptimum before.nodes after.nodes agent
