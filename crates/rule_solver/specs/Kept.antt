-- What is kept of a diagram for later runs, of other diagrams too.
use Rattle.std.specs.Prelude.{◌≡◌, List, All, map}
use Rattle.maid_model.specs.Nodes.{decisions_of}
use Rattle.maid_model.specs.Views.{NodeView}
use Rattle.relevance_graph.specs.Kept.{IsKeptSearch, KeepsAllSearches, KeepsSearches}
use Rattle.size_precheck.specs.declared.keeping.KeptRun.{KeptRun}
use Rattle.size_precheck.specs.Kept.{IsKeptRun, KeepsPlans}
use Rattle.rule_solver.specs.declared.keeping.KeptDiagram.{KeptDiagram}

-- plans of these nodes, and searches for decisions among them
pub record IsKeptDiagram (nodes : List NodeView) (kept : KeptDiagram) : Type 0 where
  pub plans : IsKeptRun nodes kept.plans
  pub searches : All (IsKeptSearch nodes) kept.searches.items

-- the plans of each decision are kept, in text order
abbrev pub KeepsAllPlans : List NodeView → KeptRun → Type 0
KeepsAllPlans nodes kept = map (λ k. k.decision) kept.decisions.items ≡ decisions_of nodes

-- so are the searches for them
abbrev pub HasAllSearches : List NodeView → KeptDiagram → Type 0
HasAllSearches nodes kept = KeepsAllSearches nodes kept.searches.items

-- what is kept of the nodes is also kept of others that keep all that plans and searches look at
abbrev pub KeptDiagramsStand : Type 0
KeptDiagramsStand = (nodes others : List NodeView) (kept : KeptDiagram) → KeepsPlans nodes others
    → KeepsSearches nodes others → IsKeptDiagram nodes kept → IsKeptDiagram others kept
