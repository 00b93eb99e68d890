-- Which decisions rely on a chance node's table. Only private functions cite it.
use Rattle.std.specs.Prelude.{ℕ, List}
use Rattle.maid_model.specs.Views.{NodeView}
use Rattle.relevance_graph.specs.Steps.{LeadsToGoal}

-- d relies on nothing of x's table: no active walk leads from an extra parent of x to a goal of d
abbrev pub IsFreeOf : List NodeView → ℕ → ℕ → Type 0
IsFreeOf nodes d x = LeadsToGoal nodes d x → ⊥
