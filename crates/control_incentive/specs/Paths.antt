-- Paths between a chance node and what the agent owns.
use Rattle.std.specs.Prelude.{◌≡◌, ℕ, List}
use Rattle.maid_model.specs.declared.diagrams.Kind.{Kind}
use Rattle.maid_model.specs.declared.diagrams.Kind.TheVariants.{Decision, Utility}
use Rattle.maid_model.specs.Graph.{Arc, IsPath}
use Rattle.maid_model.specs.Nodes.{IsOwnedBy, node_at}
use Rattle.maid_model.specs.Views.{NodeView}

-- a node of that kind, decision or utility, that the agent owns
abbrev pub IsOf : List NodeView → Kind → ℕ → ℕ → Type 0
IsOf nodes kind agent v = IsOwnedBy nodes v agent × ((node_at nodes v).kind ≡ kind)

-- a path leads from x to such a node of the agent
abbrev pub LeadsToOwn : List NodeView → Kind → ℕ → ℕ → Type 0
LeadsToOwn nodes kind agent x = (to : ℕ) × IsOf nodes kind agent to × IsPath (Arc nodes) x to

-- and from such a node to x
abbrev pub LeadsFromOwn : List NodeView → Kind → ℕ → ℕ → Type 0
LeadsFromOwn nodes kind agent x = (from : ℕ) × IsOf nodes kind agent from × IsPath (Arc nodes) from x

-- a path leads from a decision of the agent through x to a utility of the agent
abbrev pub IsInstrumental : List NodeView → ℕ → ℕ → Type 0
IsInstrumental nodes agent x = LeadsFromOwn nodes Decision agent x × LeadsToOwn nodes Utility agent x
